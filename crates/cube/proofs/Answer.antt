-- What an edge's answer tells: whether the edge is crossed, and, by its fraction, the crossing's point. Assumes nothing.
use Rattle.std.proofs.Common.{◌≡◌, ℕ, Bool, true, false, List, sym, refl, ap, ◌∙◌, ap₂}
use Rattle.std.specs.Prelude.{Option, Some, None}
use mathlib.Core.Option.{none, some}
use lib.Ieee.{Float}
use Rattle.rules.specs.Cell.{CubeEdge, corner, crosses, fraction, point_between, crossing_point}
use Rattle.cube.specs.AsRules.{fraction_of, pick_fraction, crossing_of}

pick_no : (t : Bool) (f : Float) → pick_fraction t f ≡ none → t ≡ false
pick_no true f e = cc
pick_no false f e = refl

pick_at : (t : Bool) (f g : Float) → pick_fraction t f ≡ some g → (t ≡ true) × (g ≡ f)
pick_at true f g e = (refl, cc)
pick_at false f g e = cc

no_fraction : (r : Option Float) → ((f : Float) → r ≡ Some f → ⊥) → fraction_of r ≡ none
no_fraction None h = refl
no_fraction (Some f) h = absurd (h f refl)

-- the answer r for the values at the corners a and b, which are the ends of the edge e
module _ (d : List Float) (e : CubeEdge) {a b : ℕ} (r : Option Float) (from : a ≡ e.a) (to : b ≡ e.b) (told : fraction_of r ≡ crossing_of (corner d a) (corner d b)) where
  at-ends : fraction_of r ≡ crossing_of (corner d e.a) (corner d e.b)
  at-ends = told ∙ ap₂ (λ (a b : ℕ). crossing_of (corner d a) (corner d b)) from to

  pub not-crossed : ((f : Float) → r ≡ Some f → ⊥) → crosses d e ≡ false
  not-crossed other = pick_no (crosses d e) (fraction (corner d e.a) (corner d e.b)) (sym at-ends ∙ no_fraction r other)

  pub crossed : (f : Float) → r ≡ Some f → (crosses d e ≡ true) × (point_between f a b ≡ crossing_point d e)
  unfolding crossing_point
  crossed f at =
      let found = pick_at (crosses d e) (fraction (corner d e.a) (corner d e.b)) f (sym at-ends ∙ ap fraction_of at) in
      (found.0, λ i. point_between (found.1 i) (from i) (to i))
