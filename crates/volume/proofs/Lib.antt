-- Laws that the proofs of the code lean on, and those of the definitions. Assumes nothing.
pub mod Searching
pub mod Coordinate
pub mod Corners
pub mod Whole
pub mod Bounds
pub mod Summing
pub mod Answering
pub mod Laws
pub mod Weighing
pub mod Instances
