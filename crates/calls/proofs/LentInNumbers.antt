-- The definitions by which contracts name lists that are lent, and the fifteen words of a state, on numbers no two of which are alike: a list that is taken at another's place,
-- or as it is afterwards where it is meant before, in the definition and in the code alike, would show here. The words' order is that of include/bed.h. Computed by the kernel.
-- Assumes nothing.
use Prim.Native.Nat.{ℕ}
use mathlib.Core.Bool.{true, false}
use mathlib.Core.List.{List, [], ◌∷◌}
use mathlib.Core.Path.{◌≡◌, refl}
use denote.Ref.{MutBor}
use lib.IntN.{pos}
use lib.Ieee.{Float, fin}
use Rattle.rules.specs.Call.{Buffers}
use Rattle.layer_vertices.specs.Lent.{Lent}
use Rattle.whole_box.specs.LentLists.{buffers_given, buffers_before, buffers_after}
use Rattle.layers.specs.declared.State.{State}
use Rattle.layers.specs.Memory.{Memory}
use Rattle.layers.specs.Offer.{Output}
use Rattle.layers.specs.Words.{state_of, words_of, words_on}
use Rattle.layers.specs.Lent.{memory_before, memory_after, output_given, output_before, output_after}

-- a list of one number that is lent, and one that is another number afterwards
abbrev to : {X : Type 0} → X → MutBor X
to x = record { ref_ptr = (0, 0); ghost_name = 0; now = x }

abbrev float : ℕ → List Float
float n = fin false n (pos 0) ∷ []

abbrev floats_lent : ℕ → ℕ → Lent Float
floats_lent before after = record { entry = to (float before); exit = to (float after) }

abbrev numbers_lent : ℕ → ℕ → Lent ℕ
numbers_lent before after = record { entry = to (before ∷ []); exit = to (after ∷ []) }

-- ---- kept memory: distances, map, positions

abbrev memory_of : ℕ → ℕ → ℕ → Memory
memory_of distances map positions = record { distances = float distances; map = map ∷ []; positions = float positions }

pub memory-before : memory_before (floats_lent 1 21) (numbers_lent 2 22) (floats_lent 3 23) ≡ memory_of 1 2 3
memory-before = refl

pub memory-after : memory_after (floats_lent 1 21) (numbers_lent 2 22) (floats_lent 3 23) ≡ memory_of 21 22 23
memory-after = refl

-- ---- six lists for output: positions, normals, cells, strides, crossings, indices

abbrev output_of : ℕ → ℕ → ℕ → ℕ → ℕ → ℕ → Output
output_of positions normals cells strides crossings indices =
    record { positions = float positions; normals = float normals; cells = cells ∷ []; strides = strides ∷ []; crossings = crossings ∷ []; indices = indices ∷ [] }

pub output-given : output_given (to (float 1)) (to (float 2)) (to (3 ∷ [])) (to (4 ∷ [])) (to (5 ∷ [])) (to (6 ∷ [])) ≡ output_of 1 2 3 4 5 6
output-given = refl

pub output-before : output_before (floats_lent 1 21) (floats_lent 2 22) (numbers_lent 3 23) (numbers_lent 4 24) (numbers_lent 5 25) (numbers_lent 6 26) ≡ output_of 1 2 3 4 5 6
output-before = refl

pub output-after : output_after (floats_lent 1 21) (floats_lent 2 22) (numbers_lent 3 23) (numbers_lent 4 24) (numbers_lent 5 25) (numbers_lent 6 26) ≡ output_of 21 22 23 24 25 26
output-after = refl

-- ---- seven lists of the mesher: positions, normals, cells, strides, crossings, map, indices

abbrev buffers_of : ℕ → ℕ → ℕ → ℕ → ℕ → ℕ → ℕ → Buffers
buffers_of positions normals cells strides crossings map indices =
    record {
      positions = float positions;
      normals = float normals;
      cells = cells ∷ [];
      strides = strides ∷ [];
      crossings = crossings ∷ [];
      map = map ∷ [];
      indices = indices ∷ [];
    }

pub buffers-given : buffers_given (to (float 1)) (to (float 2)) (to (3 ∷ [])) (to (4 ∷ [])) (to (5 ∷ [])) (to (6 ∷ [])) (to (7 ∷ [])) ≡ buffers_of 1 2 3 4 5 6 7
buffers-given = refl

pub buffers-before : buffers_before (floats_lent 1 21) (floats_lent 2 22) (numbers_lent 3 23) (numbers_lent 4 24) (numbers_lent 5 25) (numbers_lent 6 26) (numbers_lent 7 27)
    ≡ buffers_of 1 2 3 4 5 6 7
buffers-before = refl

pub buffers-after : buffers_after (floats_lent 1 21) (floats_lent 2 22) (numbers_lent 3 23) (numbers_lent 4 24) (numbers_lent 5 25) (numbers_lent 6 26) (numbers_lent 7 27)
    ≡ buffers_of 21 22 23 24 25 26 27
buffers-after = refl

-- ---- the state of a bed that is taken layer by layer

abbrev state : State
state =
    record {
      block = record {
        dims = record { x = 11; y = 12; z = 13 };
        low = record { x = 21; y = 22; z = 23 };
        high = record { x = 31; y = 32; z = 33 };
        max_plane = record { x = true; y = false; z = true };
      };
      taken = 41;
      next = 42;
      first = 43;
    }

-- a flag is set by any word but 0, and is written as 1
pub state-read : state_of (11 ∷ 12 ∷ 13 ∷ 21 ∷ 22 ∷ 23 ∷ 31 ∷ 32 ∷ 33 ∷ 2 ∷ 0 ∷ 256 ∷ 41 ∷ 42 ∷ 43 ∷ []) ≡ state
state-read = refl

pub state-written : words_of state ≡ 11 ∷ 12 ∷ 13 ∷ 21 ∷ 22 ∷ 23 ∷ 31 ∷ 32 ∷ 33 ∷ 1 ∷ 0 ∷ 1 ∷ 41 ∷ 42 ∷ 43 ∷ []
state-written = refl

-- over another's words: the last three alone
pub state-stepped : words_on (51 ∷ 52 ∷ 53 ∷ 54 ∷ 55 ∷ 56 ∷ 57 ∷ 58 ∷ 59 ∷ 60 ∷ 61 ∷ 62 ∷ 63 ∷ 64 ∷ 65 ∷ []) state
    ≡ 51 ∷ 52 ∷ 53 ∷ 54 ∷ 55 ∷ 56 ∷ 57 ∷ 58 ∷ 59 ∷ 60 ∷ 61 ∷ 62 ∷ 41 ∷ 42 ∷ 43 ∷ []
state-stepped = refl
