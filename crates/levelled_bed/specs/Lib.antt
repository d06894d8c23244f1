-- What the theorems on the levels speak of: the highest point of a column below zero, and the layers of a grid one after the other. Assumes nothing.
pub mod Highest
pub mod Layers
