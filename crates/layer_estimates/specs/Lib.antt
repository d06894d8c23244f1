-- Room for a layer's vertices, and what a batch of cells holds.
pub mod Estimates
