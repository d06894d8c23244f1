-- Document 02, request 2: the number of each refusal, 21 to 30, and the answer of a call: 0 where it was not refused. Definitions only. Assumes nothing.
use Rattle.std.specs.Prelude.{ℕ, Result, Ok, Err}
use Rattle.mesh_record.specs.declared.refusal.Refusal.{Refusal}
use Rattle.mesh_record.specs.declared.refusal.Refusal.TheVariants.{CutFile, BadSum, BadKind, NotZero, WrongCounts, IndexWithoutVertex, FloatNotFinite, BytesAfterClosing, ShortRoom, BadLists}

-- "21 cut file", "22 bad sum", "23 bad kind or order", "24 a word that should be zero", "25 wrong counts", "26 an index without its vertex", "27 a float that
-- is not finite", "28 bytes after the closing record", "29 lent room too short", "30 [..] lists not in threes, normals not as long as positions or a count
-- above 32 bits"
abbrev pub number_of_refusal : Refusal → ℕ
number_of_refusal CutFile = 21
number_of_refusal BadSum = 22
number_of_refusal BadKind = 23
number_of_refusal NotZero = 24
number_of_refusal WrongCounts = 25
number_of_refusal IndexWithoutVertex = 26
number_of_refusal FloatNotFinite = 27
number_of_refusal BytesAfterClosing = 28
number_of_refusal ShortRoom = 29
number_of_refusal BadLists = 30

-- the answer of a call that gives a value or a refusal
abbrev pub answer_of : {A : Type 0} → Result A Refusal → ℕ
answer_of (Ok x) = 0
answer_of (Err r) = number_of_refusal r
