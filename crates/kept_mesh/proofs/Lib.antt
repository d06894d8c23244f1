-- What follows from the contracts of the mesher and of the mesh file together: the writer accepts every mesh that the mesher makes, a write and a read give
-- the mesh back, single records make up the file, the reader's steps amount to its check, and one outcome alone fits each contract of the mesh file.
pub mod Kept
pub mod Filed
pub mod Records
pub mod FileRuns
pub mod ReaderGoes
pub mod Once
pub mod ReaderOnce
pub mod OnceRecord
