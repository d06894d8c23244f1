-- Cells counted below and on the surface, as short executable definitions over those of crate rules: the cells wholly in the sludge, and the calls with
-- their answers. Assumes nothing.
pub mod Cells
pub mod Runs
pub mod Call
pub mod Answers
