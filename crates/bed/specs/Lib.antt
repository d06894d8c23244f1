-- What the boundary's words and loose numbers stand for.
pub mod Boundary
pub mod Layered
pub mod Version
pub mod Words12
pub mod Tallied
