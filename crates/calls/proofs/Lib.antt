-- Calls of exported functions with numbers no two of which are alike, and what each comes to, computed by the kernel from the contracts.
pub mod Lists
pub mod ClosingInNumbers
pub mod LevelsInNumbers
pub mod FixturesInNumbers
pub mod FilesInNumbers
pub mod WeighingInNumbers
pub mod TallyInNumbers
pub mod LayersInNumbers
pub mod LentInNumbers
pub mod PlansInNumbers
pub mod MeshInNumbers
pub mod EnclosedInNumbers
