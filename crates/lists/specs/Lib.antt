-- The small general functions on lists. Assumes nothing.
pub mod Lists
pub mod Floats
