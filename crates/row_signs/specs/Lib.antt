-- What the signs of a row of points are: counted, and kept as codes.
pub mod Signs
pub mod Codes
