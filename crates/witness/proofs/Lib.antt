-- The laws of the search, and the proofs of the code in src/. Assumes nothing.
pub mod Tested
pub mod Still
pub mod Walk
pub mod Refusals
pub mod Named
pub mod Outcomes
pub mod Once
pub mod Unique
pub mod Instances
pub mod Cases
