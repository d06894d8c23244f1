-- Laws of a row's signs: how many of a run pass a test, stores in a row, what is kept of a row that was read, a turn of a walk
-- over rows, and a row of one sign.
pub mod Runs
pub mod Stores
pub mod Keeping
pub mod OneSign
pub mod Turns
