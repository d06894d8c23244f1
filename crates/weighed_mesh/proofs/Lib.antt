-- Request 14 for what the calls write: theorems over the contracts of the mesh call and of the volume. Assumes nothing.
pub mod Sides
pub mod Moved
pub mod Answers
pub mod Outcomes
pub mod Once
pub mod Faces
pub mod Cut
pub mod Mesh
pub mod Facing
pub mod Instances
pub mod Unique
