-- Laws of marks: the loop that fills a list with them, the loop that asks whether they are kept, the one that asks whether a list begins with stored
-- numbers, and which indexes of a map are a cell's.
pub mod Filling
pub mod Kept
pub mod Begins
pub mod Cells
