-- Document 02, request 14, as short executable definitions: a coordinate in steps of 1/256, a triangle's determinant, the sum, and the
-- answers of the call. Whole numbers throughout. Assumes nothing.
pub mod Steps
pub mod Volume
pub mod Answers
pub mod Triangles
