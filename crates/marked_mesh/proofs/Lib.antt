-- Laws over lists of which a first part is lent, the uniqueness of what comes back, and one case in numbers. Assumes nothing.
pub mod Parts
pub mod Unique
pub mod Cases
