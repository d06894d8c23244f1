-- Laws of marking a layer: what its points leave one after the other, cells and others; how a row is classed into the map and its marked cells are
-- numbered; and that a layer's points leave what the rules say.
pub mod Entries
pub mod Points
pub mod Clearing
pub mod Passing
pub mod Rows
pub mod Numbering
pub mod Finding
pub mod Alike
