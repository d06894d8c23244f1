-- What the code says of itself: the first wrong edge of the three axes, as it stands in a struct. Definitions only. Assumes nothing.
use Rattle.std.specs.Prelude.{ℕ, List, [], ◌∷◌, map, ◌≡◌, slice_get, Option, unwrap_or, MatchOption}
use Rattle.lists.specs.Lists.{up_to}
use Rattle.rules.specs.Faces.{Edge}
use Rattle.rules.specs.Cutting.{Piece, Plan}
use Rattle.witness.specs.declared.search.Wrong.{Wrong}
use Rattle.witness.specs.Witness.{owners, axis_number, FirstWrong, no_block}
use Rattle.witness.specs.Steps.{Near, axis_of, placed}

abbrev pub edge_of : Wrong → Edge
edge_of f = record { axis = axis_of f.axis; from = placed f.at }

abbrev pub words_told : Wrong → List ℕ
words_told f = axis_number (axis_of f.axis) ∷ f.at.x ∷ f.at.y ∷ f.at.z ∷ unwrap_or f.first no_block ∷ unwrap_or f.second no_block ∷ []

-- the first wrong edge with its first two owners
pub record Told (blocks : ℕ → Piece) (n : ℕ) (whole : Piece) (f : Wrong) : Type 0 where
  pub near : Near f.at
  pub wrong : FirstWrong blocks n whole (edge_of f)
  pub first : f.first ≡ slice_get (owners blocks n whole (edge_of f)) 0
  pub second : f.second ≡ slice_get (owners blocks n whole (edge_of f)) 1

-- that, or the blocks are a plan
abbrev pub Names : (ℕ → Piece) → ℕ → Piece → Option Wrong → Type 0
Names blocks n whole r = MatchOption r (Plan (map blocks (up_to 0 n)) whole) (Told blocks n whole)
