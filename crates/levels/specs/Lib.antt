-- The level of the bed in each column of a box, as short executable definitions over those of crate rules: one column, the columns of a box, and
-- the calls with their answers. Assumes nothing.
pub mod Column
pub mod Columns
pub mod Call
pub mod Fits
pub mod Answers
