-- Laws of document 02, request 8, for every grid, box and flags, and the proofs of the code in src/. Assumes nothing.
pub mod Rings
pub mod Neighbours
pub mod Squares
pub mod Inner
pub mod Skin
pub mod Closed
pub mod Premise
pub mod Instances
pub mod Scans
pub mod Judged
pub mod Said
pub mod LayerByLayer
pub mod LayerCases
