-- How the answer's structs render document 01's.
pub mod AsRules
