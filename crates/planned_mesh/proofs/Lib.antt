-- What follows from the contracts of the plan checker and of the mesher together.
pub mod Planned
pub mod Once
