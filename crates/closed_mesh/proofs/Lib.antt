-- Request 8 for what the calls write: theorems over the contracts of the mesh call and of the test, and over those of the two functions for C;
-- and the same over whole numbers.
-- Assumes nothing.
pub mod Outcome
pub mod Written
pub mod Closed
pub mod Calls
pub mod Once
pub mod Wholes
