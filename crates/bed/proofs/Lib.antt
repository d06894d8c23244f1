-- The laws that belong to no one function.
pub mod Asked
pub mod Left
pub mod Places
pub mod Numbered
pub mod FixturePlaces
