-- A call of the weighing with what came of it, and what a mesh call leaves for it.
pub mod Told
pub mod Layered
pub mod Offers
