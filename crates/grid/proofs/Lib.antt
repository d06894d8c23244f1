-- Laws of the grid that belong to no one function: what the conditions leave, the tests against the cap, where rows and cells stand, what
-- holds in a turn of a loop, which corner values are read, which parts of a grid are its layers, and which of three lists a width means. Assumes nothing.
pub mod Tests
pub mod Faults
pub mod Lengths
pub mod Bounds
pub mod Beyond
pub mod Runs
pub mod Sides
pub mod Owned
pub mod Rows
pub mod Walks
pub mod Order
pub mod Layers
pub mod LayerWalks
pub mod Slab
pub mod Parts
pub mod Widths
pub mod Places
pub mod Instances
pub mod OneResult
