-- How the structs of src/ render document 01's dimensions, box and max plane, and what the inner functions say of themselves.
pub mod Block
pub mod Faults
pub mod Inside
pub mod Corners
pub mod Order
pub mod Layers
pub mod Signs
pub mod Values
