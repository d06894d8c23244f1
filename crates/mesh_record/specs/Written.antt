-- Document 02, request 2, of one record: what is answered and left where it is written into lent bytes, "29 lent room too short" and "A refusal writes
-- nothing". Definitions only. Assumes nothing.
use Rattle.std.specs.Prelude.{ℕ, cond, List}
use Rattle.mesh_record.specs.Record.{record_of, laid}
use Rattle.mesh_record.specs.Faults.{cut}

-- the answer for a record at a place of the lent bytes: 29 where it would end past them
abbrev pub record_answer : ℕ → List ℕ → ℕ
record_answer at f = cond (cut f at) 29 0

-- the lent bytes afterwards, for a record of these seven words and their sum
abbrev pub record_written : List ℕ → ℕ → List ℕ → List ℕ
record_written ws at f = cond (cut f at) f (laid (record_of ws) at f)
