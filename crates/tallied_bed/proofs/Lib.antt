-- The theorems on the counts. Assumes nothing.
pub mod Accepted
pub mod Layered
pub mod Once
pub mod Turns
pub mod Bounds
pub mod Functions
pub mod Unique
