-- Laws of the counts.
pub mod Rows
pub mod Boxes
pub mod Answering
pub mod Cases
pub mod Once
