-- Laws of one cell: that the code's tables and loops are the rules', that each contract fixes its result, and the closed cell: every fraction and
-- every component of the centroid from 0 to 1, every position within its cell, every number finite.
pub mod Answer
pub mod CubeTables
pub mod OneResult
pub mod Taking
pub mod Unique
pub mod Corners
pub mod Fraction
pub mod UnitCentroid
pub mod ClosedCell
pub mod Finite
pub mod Samples
pub mod UnderCaps
