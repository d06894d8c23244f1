-- What follows from the public contracts themselves: one outcome alone fits each; of the call, that the answer alone tells its answer and what to lend,
-- what it depends on, what the map shows, that a second call leaves what it alone would, that flat boxes give 0, 0, that every position lies in its cell,
-- the number of crossings, and the cutting law of what is written, faces and vertices; and that calls over whole numbers come to what those over floats do.
pub mod OneOutcome
pub mod Once
pub mod OnceOfTypes
pub mod OnceOfMethods
pub mod Runs
pub mod Asked
pub mod Done
pub mod Local
pub mod Again
pub mod Flat
pub mod ClosedMesh
pub mod WholeRuns
pub mod Wholes
pub mod WholeAsked
pub mod ReadBack
pub mod Crossings
pub mod CutMesh
pub mod CutVertices
