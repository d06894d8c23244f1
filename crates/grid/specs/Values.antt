-- What the numbers of a grid mean. Document 02, request 5: "signed 16-bit distances", "signed 8-bit", "each number meaning the float of the same value".
-- Definitions only. Assumes nothing.
use Rattle.std.specs.Prelude.{ℕ, ◌<◌, ◌≡◌, refl, List, [], ◌∷◌, map, ℤ, pos, length, get_or, Float}
use Rattle.std.proofs.Common.{ap}
use Rattle.std.specs.Float.{binary32}
use Rattle.std.specs.Float.Ieee.{of_int}
use Rattle.rules.specs.Grid.{Field}
use Rattle.grid.specs.declared.Block.{Block}
use Rattle.grid.specs.Layers.{two_layers}
use Rattle.rounding.specs.Signed.{InBits}

-- two layers that are lent apart, by what their lists mean: the field that they are
abbrev pub between : {A : Type 0} → (List A → List Float) → List A → List A → Block → ℕ → Field
between floats lower upper k z = two_layers (floats lower) (floats upper) k z

-- "the float of the same value" for each number
abbrev pub as_floats : List ℤ → List Float
as_floats l = map (of_int binary32) l

-- the floats of a list of floats are itself
pub floats-themselves : (l : List Float) → l ≡ map (λ x. x) l
floats-themselves [] = refl
floats-themselves (x ∷ l) = ap (λ (r : List Float). x ∷ r) (floats-themselves l)

-- every number of a list is one of w bits: true of every list of i16 for 16 and of i8 for 8, and the contracts hand it on
abbrev pub Wholes : ℕ → List ℤ → Type 0
Wholes w l = (i : ℕ) → i < length l → InBits w (get_or l i (pos 0))
