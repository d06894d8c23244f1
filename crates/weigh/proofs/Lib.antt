-- Laws that the proofs of the code lean on, and those of the definitions. Assumes nothing.
pub mod Whole
pub mod Words
pub mod Terms
pub mod Summing
pub mod Answering
pub mod Corners
pub mod Loop
pub mod Unbiased
pub mod Laws
pub mod Weighing
pub mod Instances
