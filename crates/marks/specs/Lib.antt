-- What the contracts of `marks` cite. Assumes nothing.
pub mod Marks
pub mod Stored
pub mod Reach
