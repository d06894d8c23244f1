-- Laws of the counts: runs with a first or last left out, a row by its runs, a row of one sign, a row by its codes, and how lists add up.
pub mod Runs
pub mod Rows
pub mod OneSign
pub mod Kept
pub mod Tallies
