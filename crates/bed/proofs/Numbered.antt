-- What the boundary's words and loose numbers stand for, on numbers no two of which are alike: a word, a corner, a flag or a length that is read at another's place, in
-- the definition and in the code alike, would show here. Computed by the kernel; the wanted records are written out by include/bed.h's order. Assumes nothing.
use mathlib.Core.Bool.{true, false}
use Prim.Native.Nat.{ℕ}
use mathlib.Core.List.{List, [], ◌∷◌}
use mathlib.Core.Path.{◌≡◌, refl}
use Rattle.rules.specs.Grid.{GridPoint, Box}
use Rattle.rules.specs.Faces.{Flags}
use Rattle.rules.specs.Call.{Call, Room, Answer}
use Rattle.grid.specs.declared.Block.{Block}
use Rattle.bed.specs.Boundary.{asked, room_asked, said}
use Rattle.bed.specs.Layered.{words_started}
use Rattle.bed.specs.Version.{version}
use Rattle.bed.specs.Words12.{block_words}
use Rattle.bed.specs.Tallied.{counts_in, counts_left}
use Rattle.tally.specs.declared.Counts.{Counts}

abbrev wanted_block : Block
wanted_block =
    record {
      dims = record { x = 11; y = 12; z = 13 };
      low = record { x = 21; y = 22; z = 23 };
      high = record { x = 31; y = 32; z = 33 };
      max_plane = record { x = false; y = true; z = false };
    }

-- twelve words: dims, min, max, max_plane, each x, y, z; a flag is set by any word but 0
pub twelve-words : block_words (11 ∷ 12 ∷ 13 ∷ 21 ∷ 22 ∷ 23 ∷ 31 ∷ 32 ∷ 33 ∷ 0 ∷ 5 ∷ 0 ∷ []) ≡ wanted_block
twelve-words = refl

-- the same of the call: its dimensions, its box and its flags
abbrev wanted_dimensions : GridPoint
wanted_dimensions = record { x = 11; y = 12; z = 13 }

abbrev wanted_box : Box
wanted_box = record { low = record { x = 21; y = 22; z = 23 }; high = record { x = 31; y = 32; z = 33 } }

abbrev wanted_flags : Flags
wanted_flags = record { x = false; y = true; z = false }

abbrev call : Call
call = asked [] (11 ∷ 12 ∷ 13 ∷ 21 ∷ 22 ∷ 23 ∷ 31 ∷ 32 ∷ 33 ∷ 0 ∷ 5 ∷ 0 ∷ [])

pub call-dimensions : call.grid.dims ≡ wanted_dimensions
call-dimensions = refl

pub call-box : call.box ≡ wanted_box
call-box = refl

pub call_flags : call.flags ≡ wanted_flags
call_flags = refl

-- and of a bed that is taken layer by layer, as its state holds it after a start: no layer taken, no vertex; a flag is then 1
abbrev old : List ℕ
old = 1 ∷ 2 ∷ 3 ∷ 4 ∷ 5 ∷ 6 ∷ 7 ∷ 8 ∷ 9 ∷ 10 ∷ 11 ∷ 12 ∷ 13 ∷ 14 ∷ 15 ∷ []

pub state-started : words_started 0 wanted_block old ≡ 11 ∷ 12 ∷ 13 ∷ 21 ∷ 22 ∷ 23 ∷ 31 ∷ 32 ∷ 33 ∷ 0 ∷ 1 ∷ 0 ∷ 0 ∷ 0 ∷ 0 ∷ []
state-started = refl

pub state-kept : words_started 4 wanted_block old ≡ old
state-kept = refl

-- the version, 0.2.0
pub version-number : version ≡ 0x000200
version-number = refl

-- seven lengths, and an answer with its counts
abbrev wanted_room : Room
wanted_room = record { positions = 1; normals = 2; cells = 3; strides = 4; crossings = 5; map = 6; indices = 7 }

pub seven-lengths : room_asked 1 2 3 4 5 6 7 ≡ wanted_room
seven-lengths = refl

abbrev wanted_answer : Answer
wanted_answer = record { number = 6; vertices = 8; indices = 18 }

pub answer-and-counts : said 6 8 18 ≡ wanted_answer
answer-and-counts = refl

-- three words: the cells wholly in the sludge, V, I; written on 0 and kept on a refusal
abbrev wanted_counts : Counts
wanted_counts = record { whole = 41; vertices = 42; indices = 43 }

pub three-words : counts_in (41 ∷ 42 ∷ 43 ∷ []) ≡ wanted_counts
three-words = refl

pub counts-written : counts_left (record { answer = 0; counts = wanted_counts }) (1 ∷ 2 ∷ 3 ∷ []) ≡ 41 ∷ 42 ∷ 43 ∷ []
counts-written = refl

pub counts-kept : counts_left (record { answer = 3; counts = wanted_counts }) (1 ∷ 2 ∷ 3 ∷ []) ≡ 1 ∷ 2 ∷ 3 ∷ []
counts-kept = refl
