-- What an answer of 0 says to the write pass.
pub mod Done
