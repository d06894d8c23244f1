-- An answer that was asked for without a list being lent, and what it tells of the lists to lend: room for so many vertices and indices, and the answer that
-- a call with room is then given. Definitions only. Assumes nothing.
use Rattle.std.specs.Prelude.{ℕ, ◌*◌, ◌≡◌, cond, ◌⊎◌, leb}
use Rattle.rules.specs.Call.{Call, Room, Answer, answers, answer}
use Rattle.bed.specs.Boundary.{room_asked}

-- a call of document 01 that was asked about, the lengths of its lists, and what was said; the last is what the contracts of judge::answer_for and of
-- bed_answer say, over floats and over whole numbers
pub record Question : Type 0 where
  pub call : Call
  pub rooms : Room
  pub says : Answer
  pub answered : says ≡ answer call rooms

-- 0, 6 and 7, which say V and I
abbrev pub Tells : ℕ → Type 0
Tells n = (n ≡ 0) ⊎ ((n ≡ 6) ⊎ (n ≡ 7))

-- nothing lent but a map of so many entries
abbrev pub map_alone : ℕ → Room
map_alone entries = room_asked 0 0 0 0 0 entries 0

-- a map of so many entries, and exactly what so many vertices and indices take: 3V, 3V, 3V, V, V and I numbers
abbrev pub exactly : ℕ → ℕ → ℕ → Room
exactly entries v i = room_asked (3 * v) (3 * v) (3 * v) v v entries i

-- 6 and 7 become 0, and every other answer stays
abbrev pub with_room : Answer → Answer
with_room a = answers (cond (leb 6 a.number) 0 a.number) a.vertices a.indices
