-- What the proofs of the functions share. Assumes nothing.
pub mod Sizes
pub mod Spread
pub mod Borders
pub mod Walls
pub mod Numbers
pub mod Answers
pub mod Rooms
pub mod Instances
