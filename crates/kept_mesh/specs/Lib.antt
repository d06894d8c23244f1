-- The mesh of a call, as it is handed on to the writer; and calls of the writer, the reader and the checker of files and of the writer of one record, with
-- what came of them.
pub mod Parts
pub mod Filed
