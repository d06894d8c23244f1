-- Laws of a layer's faces: what is looked up is the vertex that the rules name, so that the faces put are those that the rules say.
pub mod Steps
pub mod Lookups
pub mod Cells
pub mod Alike
pub mod Chosen
pub mod Signs
pub mod Listing
pub mod Filing
pub mod Putting
pub mod Vertices
pub mod Batches
pub mod Numbers
