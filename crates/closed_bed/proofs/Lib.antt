-- Theorems over the contracts of closing, of the test for holes and of the mesher: a closed bed is enclosed, is let in where the open one is, and is the same
-- by layers; and where a far wall stands. Assumes nothing.
pub mod Values
pub mod Enclosing
pub mod Passing
pub mod Joining
pub mod Outcome
pub mod Calls
pub mod Tiny
pub mod Ones
pub mod Fractions
pub mod Sides
pub mod Standing
pub mod Meshed
pub mod Deepest
pub mod Tank
pub mod Once
pub mod Instances
pub mod Inside
pub mod Unique
