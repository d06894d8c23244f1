-- Laws of estimating a layer's cells in batches: entries side by side, vertices written one run after the other, cells that can be read, and the numbers of a
-- turn.
pub mod Lanes
pub mod Writing
pub mod Reading
pub mod Numbers
