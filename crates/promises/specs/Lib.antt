-- A call with what came of it, the mesh that is read back from its lists, and what an answer tells of the lists to lend.
pub mod Served
pub mod Told
