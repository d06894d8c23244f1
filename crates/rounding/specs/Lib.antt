-- The predicates that the laws of rounding are stated with. Assumes nothing.
pub mod Values
pub mod Signed
