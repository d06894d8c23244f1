-- A full tank weighs the cells between its outermost points. Assumes nothing.
pub mod Flat
pub mod Tank
pub mod Edges
pub mod Areas
pub mod Count
pub mod Filled
pub mod Calls
pub mod Instances
