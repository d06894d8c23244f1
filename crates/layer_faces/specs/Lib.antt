-- What the faces of a layer are, and what the layer below is known by.
pub mod Below
pub mod Quads
pub mod Filing
