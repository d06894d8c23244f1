-- The theorems. Assumes nothing.
pub mod Whole
pub mod Agree
pub mod Narrow
pub mod Fits
pub mod Moved
pub mod Faces
pub mod Cut
pub mod Layered
pub mod LayerFits
pub mod Offers
pub mod Outcomes
pub mod Once
pub mod Calls
pub mod Instances
