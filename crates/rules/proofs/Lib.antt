-- Laws about the definitions, which need no code: counts of cells, the edges and their four cells, vertex numbers, the edge that a face shows, cutting and what it
-- doubles; indexes, the P cases of document 01, vectors of the Rust, crossings, locality, pieces that are accepted, and flat boxes.
pub mod Counting
pub mod FourCells
pub mod Edges
pub mod Numbers
pub mod Shown
pub mod Ownership
pub mod OneFlag
pub mod Seen
pub mod Cutting
pub mod Twice
pub mod Indexes
pub mod Cases
pub mod Vectors
pub mod Crossings
pub mod Inside
pub mod Locality
pub mod Accepted
pub mod Flat
