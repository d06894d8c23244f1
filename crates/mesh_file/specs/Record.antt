-- Document 02, request 2: one record, defined in the crate mesh_record and passed on from there. Assumes nothing.
unfoldable pub use Rattle.mesh_record.specs.Record.{bytes_of, word_at, total, sum_of, record_of, each}
pub use Rattle.mesh_record.specs.Record.{laid}
