-- How the lent lists render document 01's buffers, and what the layers of a box leave of them.
pub mod LentLists
pub mod Layers
