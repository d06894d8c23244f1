-- The centroid and the normal of a few cells, bit for bit, computed from the definitions. The numbers come from a small Rust program in plain f32, which
-- does the same steps in document 01's order and shares no text with this; it also showed which slip each cell can see. Assumes nothing.
use Rattle.std.proofs.Common.{◌≡◌, ℕ, List, [], ◌∷◌, map, refl}
use lib.Ieee.{Float, binary32, of_bits, to_bits, add, sub, mul, div, lt, of_int}
use Rattle.lists.specs.Lists.{keep, many}
use Rattle.rules.specs.Cell.{Vector, fraction, point_between, crossing_point, crossing_points, summed, crossings, centroid, normal}
use Rattle.lists.proofs.Lists.{All, none, more}

-- the bits of eight corner values, and those of x, y, z of the centroid and of the normal
pub record Sample : Type 0 where
  pub corners : List ℕ
  pub middle : List ℕ
  pub slope : List ℕ

abbrev sample : List ℕ → List ℕ → List ℕ → Sample
sample c m s = record { corners = c; middle = m; slope = s }

-- 1.0, -1.0 and -0.0
abbrev o : ℕ
o = 0x3F800000

abbrev i : ℕ
i = 0xBF800000

abbrev z : ℕ
z = 0x80000000

abbrev pub samples : List Sample
samples =
    -- corner 7 alone is negative, as at vertex 0 of Ball
    sample (o ∷ o ∷ o ∷ o ∷ o ∷ o ∷ o ∷ i ∷ []) (0x3F555555 ∷ 0x3F555555 ∷ 0x3F555555 ∷ []) (0xBFB1C71C ∷ 0xBFB1C71C ∷ 0xBFB1C71C ∷ [])
    -- the fraction of the edge 0-1 is -0.0
    ∷ sample (z ∷ i ∷ o ∷ o ∷ o ∷ o ∷ o ∷ o ∷ []) (0x3F2AAAAB ∷ 0x3E2AAAAB ∷ 0x3E2AAAAB ∷ []) (0xBF31C71C ∷ 0x3FB1C71D ∷ 0x3FB1C71D ∷ [])
    -- with the terms of the normal added in pairs, x would end in C8
    ∷ sample (i ∷ 0 ∷ 0 ∷ i ∷ 0 ∷ 0 ∷ 0 ∷ i ∷ []) (0x3EDB6DB7 ∷ 0x3EDB6DB7 ∷ 0x3EDB6DB7 ∷ []) (0xBDD0FACA ∷ 0xBDD0FACA ∷ 0x3EA72F04 ∷ [])
    -- with fused steps in the normal, x would end in 37
    ∷ sample (0 ∷ i ∷ 0 ∷ 0 ∷ 0xC0000000 ∷ o ∷ 0 ∷ 0 ∷ []) (0x3EE38E39 ∷ 0x3EAAAAAB ∷ 0x3ED55555 ∷ []) (0x3EE38E36 ∷ 0x3F097B43 ∷ 0xBE17B428 ∷ [])
    -- a difference that overflows gives a zero fraction: the centroid is in the cell, and the normal is infinite above the cap
    ∷ sample (0x7F61B1E6 ∷ 0xFF61B1E6 ∷ 0x7F61B1E6 ∷ 0x7F61B1E6 ∷ 0x7F61B1E6 ∷ 0x7F61B1E6 ∷ 0x7F61B1E6 ∷ 0x7F61B1E6 ∷ [])
    (0x3F2AAAAB ∷ 0 ∷ 0 ∷ []) (0xFF800000 ∷ 0x7F800000 ∷ 0x7F800000 ∷ [])
    -- the smallest value, and values that are no sums of a few powers of two
    ∷ sample (1 ∷ i ∷ 0x3E99999A ∷ 0x3F333333 ∷ 0xBE4CCCCD ∷ 0x3F666666 ∷ 0x3DCCCCCD ∷ 0x3F000000 ∷ [])
    (0x3EBA2E8C ∷ 0x3E562B80 ∷ 0x3ED79435 ∷ []) (0xBC01A140 ∷ 0x3EF9A174 ∷ 0x3ECECED0 ∷ [])
    ∷ []

abbrev pub floats : List ℕ → List Float
floats bits = map (of_bits binary32) bits

abbrev pub bits : Vector → List ℕ
bits v = to_bits binary32 v.x ∷ to_bits binary32 v.y ∷ to_bits binary32 v.z ∷ []

abbrev pub AsComputed : Sample → Type 0
AsComputed s = (bits (centroid (floats s.corners)) ≡ s.middle) × (bits (normal (floats s.corners) (centroid (floats s.corners))) ≡ s.slope)

pub samples-computed : All AsComputed samples
unfolding keep many fraction point_between crossing_point crossing_points summed crossings centroid normal of_bits to_bits add sub mul div lt of_int
samples-computed = more (refl, refl) (more (refl, refl) (more (refl, refl) (more (refl, refl) (more (refl, refl) (more (refl, refl) none)))))
