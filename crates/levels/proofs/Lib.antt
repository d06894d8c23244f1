-- Laws of the levels: lists that are changed place by place, one point more on a column, one row and one layer more on the columns of a box, the answers,
-- and that each has a number of its own; and one grid, computed. Assumes nothing.
pub mod Changed
pub mod Steps
pub mod Rows
pub mod Layers
pub mod Answering
pub mod Cases
pub mod Once
