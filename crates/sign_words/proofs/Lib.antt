-- Laws of words of signs: how one is made of its bits, what becomes of the tests where words are joined, turned round and moved on, the places of the bits
-- that are set; and words that the kernel computes.
pub mod Word
pub mod Joins
pub mod Cells
pub mod Places
pub mod Cases
