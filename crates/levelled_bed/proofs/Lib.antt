-- Theorems on the levels over the contracts: what each number says of its column, layers one after the other, the mesh beside the level, one outcome. Assumes nothing.
pub mod Columns
pub mod Bounds
pub mod Told
pub mod Layered
pub mod Accepting
pub mod Mesh
pub mod Calls
pub mod Beside
pub mod Functions
