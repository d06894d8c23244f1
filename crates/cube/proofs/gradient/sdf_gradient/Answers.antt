-- `cube::gradient::sdf_gradient` meets its contract: each component is the blend that `blended` answers, with n as `sub` gives it.
-- Assumes nothing.
use Rattle.std.proofs.Common.{◌≡◌, List, ap, ◌∙◌}
use lib.Ieee.{Float, of_bits}
use Rattle.rules.specs.Cell.{Vector, one_vector, minus, blend, step, normal}
use Rattle.cube.proofs.gradient.sdf_gradient.Goals as goal

-- the normal's three components, by n
abbrev blend_x : List Float → Vector → Vector → Float
blend_x d s n = blend n.y s.y n.z s.z (step d 1 0) (step d 5 4) (step d 3 2) (step d 7 6)

abbrev blend_y : List Float → Vector → Vector → Float
blend_y d s n = blend n.z s.z n.x s.x (step d 2 0) (step d 3 1) (step d 6 4) (step d 7 5)

abbrev blend_z : List Float → Vector → Vector → Float
blend_z d s n = blend n.x s.x n.y s.y (step d 4 0) (step d 6 2) (step d 5 1) (step d 7 3)

abbrev made : Float → Float → Float → Vector
made x y z = record { x = x; y = y; z = z }

assembled : {x y z : Float} (d : List Float) (s n : Vector) → n ≡ minus one_vector s → x ≡ blend_x d s n → y ≡ blend_y d s n → z ≡ blend_z d s n
    → made x y z ≡ normal d s
unfolding normal
assembled d s n e p q r =
    (λ i. made (p i) (q i) (r i)) ∙ ap (λ (m : Vector). made (blend_x d s m) (blend_y d s m) (blend_z d s m)) e

pub returns : goal.returns
unfolding of_bits
returns c =
    assembled
    _
    _
    _
    c.sub-n.ensures
    c.blended.ensures
    c.blended-2.ensures
    c.blended-3.ensures
