-- A bed closed by a border of far points, as short executable definitions over those of crate rules: the closed grid, its layers, the answers, and
-- the wall's value. Assumes nothing.
pub mod Closed
pub mod Answers
pub mod Refused
pub mod Wall
pub mod Runs
