-- What follows from the definitions and contracts of fixtures and of the mesher together: a fixture's value is bounded, so that a grid that the mesher accepts is
-- accepted still; computed cases, the mesh of a cut bed among them; that the layers of a grid, cut one by one, are the grid cut at once; and one outcome alone fits
-- each contract.
pub mod Bounds
pub mod Accepted
pub mod Cases
pub mod Once
pub mod Then
pub mod Layers
pub mod LayerCases
pub mod Unique
