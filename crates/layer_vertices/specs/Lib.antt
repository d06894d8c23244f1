-- What marking a layer leaves of the lent lists.
pub mod Marked
pub mod Cells
pub mod Lent
