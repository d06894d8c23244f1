-- Document 02, request 14 on small cases, computed by the kernel from the definitions: coordinates at the ends, and a tetrahedron by hand.
-- Assumes nothing.
use Prim.Native.Nat.{ℕ}
use mathlib.Core.Bool.{Bool, true, false}
use mathlib.Core.List.{List, [], ◌∷◌}
use mathlib.Core.Path.{◌≡◌, refl}
use lib.Count.{count_trailing_zeros}
use lib.IntN.{pos, negsuc}
use lib.Ieee.{Float, fin, binary32, odd, of_fields, of_bits}
use Rattle.lists.specs.Lists.{some}
use Rattle.volume.specs.Steps.{past, outside, steps}
use Rattle.volume.specs.Volume.{determinant, sum_over}
use Rattle.volume.specs.Answers.{weighed, weighing}
use Rattle.volume.specs.Triangles.{turned_round}

-- what a computed test opens
opened : Unit {0}
unfolding some past steps determinant sum_over weighing turned_round odd of_fields of_bits count_trailing_zeros
opened = tt

-- the float with these bits: whether it is refused, and its steps
abbrev Coordinate : ℕ → Bool → ℕ → Type 0
Coordinate bits refused n = (outside (of_bits binary32 bits) ≡ refused) × (steps (of_bits binary32 bits) ≡ n)

pub zero-passes : Coordinate 0x0000_0000 false 0
unfolding opened
zero-passes = (refl, refl)

-- "-0.0 counts as 0"
pub negative-zero-passes : Coordinate 0x8000_0000 false 0
unfolding opened
negative-zero-passes = (refl, refl)

pub smallest-passes : Coordinate 0x0000_0001 false 0
unfolding opened
smallest-passes = (refl, refl)

pub smallest-negative-refused : outside (of_bits binary32 0x8000_0001) ≡ true
unfolding opened
smallest-negative-refused = refl

-- 1/256 and its two neighbours
pub first_step : Coordinate 0x3b7f_ffff false 0 × Coordinate 0x3b80_0000 false 1 × Coordinate 0x3b80_0001 false 1
unfolding opened
first_step = ((refl, refl), (refl, refl), (refl, refl))

-- 128 and its two neighbours
pub last_step : Coordinate 0x42ff_ffff false 32767 × Coordinate 0x4300_0000 false 32768 × (outside (of_bits binary32 0x4300_0001) ≡ true)
unfolding opened
last_step = ((refl, refl), (refl, refl), refl)

-- infinities and not-a-number
pub not-finite-refused : (outside (of_bits binary32 0x7f80_0000) ≡ true) × (outside (of_bits binary32 0xff80_0000) ≡ true) × (outside (of_bits binary32 0x7fc0_0000) ≡ true)
unfolding opened
not-finite-refused = (refl, refl, refl)

-- ---- a tetrahedron with the corners (0,0,0), (1,0,0), (0,1,0), (0,0,1), its four triangles facing out: six times its volume is 1, which is 256³ cubed
-- steps, above zero

abbrev one32 : Float
one32 = fin false 1 (pos 0)

abbrev zero32 : Float
zero32 = fin false 0 (pos 0)

abbrev corners : List Float
corners = zero32 ∷ zero32 ∷ zero32 ∷ one32 ∷ zero32 ∷ zero32 ∷ zero32 ∷ one32 ∷ zero32 ∷ zero32 ∷ zero32 ∷ one32 ∷ []

abbrev facing_out : List ℕ
facing_out = 0 ∷ 2 ∷ 1 ∷ 0 ∷ 1 ∷ 3 ∷ 0 ∷ 3 ∷ 2 ∷ 1 ∷ 2 ∷ 3 ∷ []

pub tetrahedron : weighing corners facing_out ≡ weighed 0 (pos 16777216)
unfolding opened
tetrahedron = refl

-- "Below zero is an answer": facing in
pub tetrahedron-in : weighing corners (turned_round facing_out) ≡ weighed 0 (negsuc 16777215)
unfolding opened
tetrahedron-in = refl
