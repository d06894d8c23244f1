-- The volume bounded from the distances alone: what is counted, and the points that the proof sees.
pub mod Round
pub mod Placed
pub mod Bounded
