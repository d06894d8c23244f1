-- The laws of rounding. Assumes nothing.
pub mod Sign
pub mod Order
pub mod Bounds
pub mod Error
pub mod Operations
pub mod Mixing
pub mod Quotient
pub mod Whole
pub mod Signed
