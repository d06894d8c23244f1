-- The theorem over all layers, and what follows from it.
pub mod Agree
pub mod Step
pub mod Layered
pub mod Cases
pub mod Words
pub mod Once
pub mod AsServed
pub mod Follows
pub mod Again
pub mod Taken
pub mod SoFar
pub mod Untouched
pub mod Instances
pub mod Runs
pub mod NoHole
