-- The weighing on small cases, computed by the kernel from the definitions; the numbers were worked out by hand and by a second program from the fractions
-- themselves. A triangle with nine different coordinates, request 14's tetrahedron, the ends of every test with a neighbour that passes, and the order of
-- the refusals. Assumes nothing.
use Rattle.std.proofs.Common.{◌≡◌, ℕ, ◌+◌, ◌*◌, ◌^◌, Bool, true, false, List, [], ◌∷◌, ℤ, pos, negsuc, refl}
use lib.Count.{count_trailing_zeros}
use lib.Ieee.{Float, fin, binary32, odd, of_fields, of_bits}
use Rattle.lists.specs.Lists.{some}
use Rattle.volume.specs.Steps.{past, steps}
use Rattle.volume.specs.Volume.{determinant, sum_over}
use Rattle.volume.specs.Answers.{weighed, weighing}
use Rattle.weigh.specs.Sums.{shadow_of, pillar_of, sum_of}
use Rattle.weigh.specs.Words.{high_of, low_of}
use Rattle.weigh.specs.Answers.{Answer, beyond, too_many, some_wide, refuses, weight}

-- what a computed test opens
opened : Unit {0}
unfolding some past steps determinant sum_over weighing shadow_of pillar_of sum_of high_of low_of some_wide weight odd of_fields of_bits count_trailing_zeros
opened = tt

abbrev f : ℕ → Float
f bits = of_bits binary32 bits

-- an answer 0: the two words and the shadow
abbrev answers : ℕ → ℤ → ℤ → Answer
answers low high shadow = record { answer = 0; low = low; high = high; shadow = shadow }

-- ---- one triangle: (1.5, 2.25, 3.75), (2.5, 2.75, 5), (1.75, 4, 0.5)

abbrev one : List Float
one = f 0x3fc0_0000 ∷ f 0x4010_0000 ∷ f 0x4070_0000 ∷ f 0x4020_0000 ∷ f 0x4030_0000 ∷ f 0x40a0_0000 ∷ f 0x3fe0_0000 ∷ f 0x4080_0000 ∷ f 0x3f00_0000 ∷ []

-- in steps (384, 576, 960), (640, 704, 1280), (448, 1024, 128): 256·448 - 128·64 is 106,496, and (960 + 1280 + 128) times that 252,182,528
pub one-triangle : weight one 0 (0 ∷ 1 ∷ 2 ∷ []) ≡ answers 252182528 (pos 0) (pos 106496)
unfolding opened
one-triangle = refl

-- turned round: -252,182,528 is 2^64 - 252,182,528 less 2^64
pub one-round : weight one 0 (0 ∷ 2 ∷ 1 ∷ []) ≡ answers 18446744073457369088 (negsuc 0) (negsuc 106495)
unfolding opened
one-round = refl

-- the same vertices numbered from 7 on
pub one-from-seven : weight one 7 (7 ∷ 8 ∷ 9 ∷ []) ≡ answers 252182528 (pos 0) (pos 106496)
unfolding opened
one-from-seven = refl

-- two triangles that share a side, the second with a corner of its own: (1, 1, 2), (2.5, 1, 2.5), (2.5, 2.75, 3), (1, 2.75, 4.25)
pub two-triangles : weight (f 0x3f80_0000 ∷ f 0x3f80_0000 ∷ f 0x4000_0000 ∷ f 0x4020_0000 ∷ f 0x3f80_0000 ∷ f 0x4020_0000 ∷ f 0x4020_0000 ∷ f 0x4030_0000
    ∷ f 0x4040_0000 ∷ f 0x3f80_0000 ∷ f 0x4030_0000 ∷ f 0x4088_0000 ∷ []) 0 (0 ∷ 1 ∷ 2 ∷ 0 ∷ 2 ∷ 3 ∷ []) ≡ answers 737673216 (pos 0) (pos 344064)
unfolding opened
two-triangles = refl

-- at the far end: (16777214, 16777215, 16777216), (16777216, 16777213, 16777213), (16777215, 16777216, 16777214)
abbrev far : List Float
far = f 0x4b7f_fffe ∷ f 0x4b7f_ffff ∷ f 0x4b80_0000 ∷ f 0x4b80_0000 ∷ f 0x4b7f_fffd ∷ f 0x4b7f_fffd ∷ f 0x4b7f_ffff ∷ f 0x4b80_0000 ∷ f 0x4b7f_fffe ∷ []

pub far-triangle : weight far 0 (0 ∷ 1 ∷ 2 ∷ []) ≡ answers 3377699384983552 (pos 0) (pos 262144)
unfolding opened
far-triangle = refl

-- its second and third corner are 768 steps apart, so that turned in place it is wide
pub far-turned : weight far 0 (2 ∷ 0 ∷ 1 ∷ []) ≡ refuses 76
unfolding opened
far-turned = refl

-- ---- request 14's tetrahedron, with the corners (0,0,0), (1,0,0), (0,1,0), (0,0,1): both calls say 256³, and seen from above its areas cancel

abbrev corners : List Float
corners = f 0 ∷ f 0 ∷ f 0 ∷ f 0x3f80_0000 ∷ f 0 ∷ f 0 ∷ f 0 ∷ f 0x3f80_0000 ∷ f 0 ∷ f 0 ∷ f 0 ∷ f 0x3f80_0000 ∷ []

abbrev facing_out : List ℕ
facing_out = 0 ∷ 2 ∷ 1 ∷ 0 ∷ 1 ∷ 3 ∷ 0 ∷ 3 ∷ 2 ∷ 1 ∷ 2 ∷ 3 ∷ []

pub tetrahedron : (weight corners 0 facing_out ≡ answers 16777216 (pos 0) (pos 0)) × (weighing corners facing_out ≡ weighed 0 (pos 16777216))
unfolding opened
tetrahedron = (refl, refl)

-- ---- two words: 5, 2^64, 2^64 + 5, -1, -2^64, -2^64 - 1

abbrev Split : ℤ → ℤ → ℕ → Type 0
Split z high low = (high_of z ≡ high) × (low_of z ≡ low)

pub words : Split (pos 5) (pos 0) 5 × Split (pos (2 ^ 64)) (pos 1) 0 × Split (pos (2 ^ 64 + 5)) (pos 1) 5 × Split (negsuc 0) (negsuc 0) 18446744073709551615
    × Split (negsuc 18446744073709551615) (negsuc 0) 0 × Split (negsuc 18446744073709551616) (negsuc 1) 18446744073709551615
unfolding opened
words = ((refl, refl), (refl, refl), (refl, refl), (refl, refl), (refl, refl), (refl, refl))

-- ---- each refusal, with neighbours that pass

-- 61: a coordinate more; an index more; two more
pub not-threes : (weight (f 0 ∷ one) 0 (0 ∷ 1 ∷ 2 ∷ []) ≡ refuses 61) × (weight one 0 (0 ∷ 1 ∷ 2 ∷ 0 ∷ []) ≡ refuses 61)
    × (weight one 0 (0 ∷ 1 ∷ 2 ∷ 0 ∷ 1 ∷ []) ≡ refuses 61) × (weight one 0 [] ≡ answers 0 (pos 0) (pos 0)) × (weight [] 3 [] ≡ answers 0 (pos 0) (pos 0))
unfolding opened
not-threes = (refl, refl, refl, refl, refl)

-- 63: 2^24 and -0.0 pass; the next float up, the smallest below zero, infinities and not-a-number do not
abbrev Refused : ℕ → Bool → Type 0
Refused bits refused = beyond (f bits) ≡ refused

pub coordinates : Refused 0x4b80_0000 false × Refused 0x4b80_0001 true × Refused 0x8000_0000 false × Refused 0x8000_0001 true × Refused 0x7f80_0000 true
    × Refused 0xff80_0000 true × Refused 0x7fc0_0000 true × Refused 0x0000_0001 false
unfolding opened
coordinates = (refl, refl, refl, refl, refl, refl, refl, refl)

-- a vertex that no triangle has counts too
pub unused-beyond : weight (f 0 ∷ f 0x8000_0001 ∷ f 0 ∷ []) 0 [] ≡ refuses 63
unfolding opened
unused-beyond = refl

-- 64: three vertices from 7 on are 7, 8 and 9
pub without-vertex : (weight one 7 (6 ∷ 8 ∷ 9 ∷ []) ≡ refuses 64) × (weight one 7 (7 ∷ 8 ∷ 10 ∷ []) ≡ refuses 64) × (weight one 0 (0 ∷ 1 ∷ 3 ∷ []) ≡ refuses 64)
    × (weight one 7 (9 ∷ 9 ∷ 7 ∷ []) ≡ answers 0 (pos 0) (pos 0))
unfolding opened
without-vertex = (refl, refl, refl, refl)

-- 75, by the number of indices: 2^33 triangles pass
pub many-triangles : (too_many (3 * 2 ^ 33) ≡ false) × (too_many (3 * 2 ^ 33 + 2) ≡ false) × (too_many (3 * 2 ^ 33 + 3) ≡ true)
many-triangles = (refl, refl, refl)

-- 76: from a corner of 769 steps in x and y, 512 steps pass and 513 do not; the second corner's x and y, then the third's, up and down
abbrev from769 : ℕ → ℕ → ℕ → ℕ → List Float
from769 bx by cx cy = at 769 ∷ at 769 ∷ f 0 ∷ at bx ∷ at by ∷ f 0 ∷ at cx ∷ at cy ∷ f 0 ∷ []
  where
    at : ℕ → Float
    at n = fin false n (negsuc 7)

abbrev Narrow : ℕ → ℕ → ℕ → ℕ → Type 0
Narrow bx by cx cy = (weight (from769 bx by cx cy) 0 (0 ∷ 1 ∷ 2 ∷ [])).answer ≡ 0

abbrev Wide : ℕ → ℕ → ℕ → ℕ → Type 0
Wide bx by cx cy = weight (from769 bx by cx cy) 0 (0 ∷ 1 ∷ 2 ∷ []) ≡ refuses 76

pub widths : Narrow 1281 1281 1281 1281 × Narrow 257 257 257 257 × Wide 1282 769 769 769 × Wide 256 769 769 769 × Wide 769 1282 769 769 × Wide 769 256 769 769
    × Wide 769 769 1282 769 × Wide 769 769 256 769 × Wide 769 769 769 1282 × Wide 769 769 769 256
unfolding opened
widths = (refl, refl, refl, refl, refl, refl, refl, refl, refl, refl)

-- the height does not count: 0 and 2^32 steps
pub high-and-low : weight (f 0 ∷ f 0 ∷ f 0 ∷ f 0x3f80_0000 ∷ f 0 ∷ f 0x4b80_0000 ∷ f 0 ∷ f 0x3f80_0000 ∷ f 0 ∷ []) 0 (0 ∷ 1 ∷ 2 ∷ []) ≡ answers 281474976710656 (pos 0) (pos 65536)
unfolding opened
high-and-low = refl

-- ---- the order: each list breaks two tests or more

pub first-61 : weight (f 0x8000_0001 ∷ []) 0 (5 ∷ []) ≡ refuses 61
unfolding opened
first-61 = refl

pub then-63 : weight (f 0x8000_0001 ∷ f 0 ∷ f 0 ∷ []) 0 (5 ∷ 5 ∷ 5 ∷ []) ≡ refuses 63
unfolding opened
then-63 = refl

-- the first triangle is wide, the second without a vertex
pub then-64 : weight far 0 (2 ∷ 0 ∷ 1 ∷ 0 ∷ 1 ∷ 3 ∷ []) ≡ refuses 64
unfolding opened
then-64 = refl

-- the last triangle of two
pub last-wide : weight far 0 (0 ∷ 1 ∷ 2 ∷ 2 ∷ 0 ∷ 1 ∷ []) ≡ refuses 76
unfolding opened
last-wide = refl
