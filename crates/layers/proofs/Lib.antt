-- Laws of the kept memory and of what a layer leaves, for the proofs of the functions and for the theorem over all layers; and a bed in numbers.
pub mod BedInNumbers
pub mod Halves
pub mod Judging
pub mod Said
pub mod Cells
pub mod Brought
pub mod Left
