-- Document 02, request 2, as short executable definitions: the record, the file of a mesh, the writer's answers and the reader's.
-- Bytes and words are plain numbers; floats are `lib.Ieee` at binary32, a float's word its bit pattern. Assumes nothing.
pub mod Record
pub mod Mesh
pub mod Reading
pub mod Writing
