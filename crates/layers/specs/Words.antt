-- The fifteen numbers of a state. Definitions only. Assumes nothing.
use Rattle.std.specs.Prelude.{ℕ, Bool, not, List, [], ◌∷◌, eqb, get_or}
use Rattle.std.proofs.lemmas.List.Edits.{sets}
use Rattle.lists.specs.Lists.{one}
use Rattle.grid.specs.declared.Extent.{Extent}
use Rattle.grid.specs.declared.Block.{Block}
use Rattle.layers.specs.declared.State.{State}

abbrev pub word_at : List ℕ → ℕ → ℕ
word_at w i = get_or w i 0

-- a flag is set where its number is not 0
abbrev pub flag_at : List ℕ → ℕ → Bool
flag_at w i = not (eqb (word_at w i) 0)

abbrev pub extent_at : List ℕ → ℕ → ℕ → ℕ → Extent
extent_at w x y z = record { x = word_at w x; y = word_at w y; z = word_at w z }

-- dimensions, min, max, the flags, and then the three numbers that change
abbrev pub block_of : List ℕ → Block
block_of w =
    record {
      dims = extent_at w 0 1 2;
      low = extent_at w 3 4 5;
      high = extent_at w 6 7 8;
      max_plane = record { x = flag_at w 9; y = flag_at w 10; z = flag_at w 11 };
    }

abbrev pub state_of : List ℕ → State
state_of w = record { block = block_of w; taken = word_at w 12; next = word_at w 13; first = word_at w 14 }

abbrev pub words_of : State → List ℕ
words_of s =
    let k = s.block in
    let m = k.max_plane in
    k.dims.x ∷ k.dims.y ∷ k.dims.z ∷ k.low.x ∷ k.low.y ∷ k.low.z ∷ k.high.x ∷ k.high.y ∷ k.high.z
    ∷ one m.x ∷ one m.y ∷ one m.z ∷ s.taken ∷ s.next ∷ s.first ∷ []

-- the same with another state of that block
abbrev pub words_on : List ℕ → State → List ℕ
words_on w s = sets w 12 (s.taken ∷ s.next ∷ s.first ∷ [])
