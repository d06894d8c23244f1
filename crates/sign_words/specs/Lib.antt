-- What a word of 64 signs is.
pub mod Words
