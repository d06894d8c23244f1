-- How the call's structs render document 01's answer and buffers.
pub mod AsRules
