-- What the theorems on a closed bed are stated with. Assumes nothing.
pub mod Standing
pub mod Layers
