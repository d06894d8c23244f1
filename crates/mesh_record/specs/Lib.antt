-- Document 02, request 2, one record: its bytes and words, its faults and the step that it is. Bytes and words are plain numbers; floats are
-- `lib.Ieee` at binary32, a float's word its bit pattern. Assumes nothing.
pub mod Record
pub mod Refusal
pub mod Faults
pub mod Written
