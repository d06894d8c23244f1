-- What the theorems on the counts speak of: calls with what came of them, and a weight between two numbers. Assumes nothing.
pub mod Calls
pub mod Between
