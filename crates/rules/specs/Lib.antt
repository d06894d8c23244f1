-- Document 01 as short executable definitions, in the document's own order. Numbers are plain numbers, with no width;
-- floats are `lib.Ieee` at binary32, one rounding for each operation. Assumes nothing.
pub mod Grid
pub mod Cell
pub mod Vertices
pub mod Faces
pub mod Call
pub mod Cutting
