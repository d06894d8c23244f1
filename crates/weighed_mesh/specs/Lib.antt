-- A call of the volume with what came of it.
pub mod Told
pub mod Facing
