-- Laws of lists, counts and tests.
pub mod Tests
pub mod Either
pub mod Lists
pub mod Some
pub mod Searching
pub mod Runs
pub mod Permutation
