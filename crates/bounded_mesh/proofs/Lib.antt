-- The volume bounded from the distances alone. Assumes nothing.
pub mod Pyramid
pub mod Face
pub mod Edge
pub mod Sums
pub mod Squares
pub mod Around
pub mod Weights
pub mod Meshed
pub mod Counts
pub mod Bounds
pub mod Asked
pub mod Instances
