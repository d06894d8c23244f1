-- What the counts are: of runs of distances, of codes that were kept, and of a list of cells.
pub mod Runs
pub mod Kept
pub mod Tally
