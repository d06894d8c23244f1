-- A contract that one result alone meets, as of one cell: the form of the statements for the crates that stand on the grid. Assumes nothing.
pub use Rattle.cube.proofs.OneResult.{OneResult}
