-- Laws of stores in a row.
pub mod Runs
