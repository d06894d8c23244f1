-- One call of the volume and one of the weighing, by the places of their arguments: whatever fits the contract on these numbers answered 0 with these sums. Two triangles over
-- four vertices, no two of whose coordinates are alike and few of which are whole steps of 1/256; for the weighing the vertices are numbered from 40 on. The sum is below zero
-- where the shadow is above it. The wanted numbers were worked out by a small program over fractions, from document 02, request 14, and include/bed.h. Computed by the kernel.
-- Assumes nothing.
use Prim.Native.Nat.{ℕ}
use mathlib.Core.List.{List, [], ◌∷◌}
use mathlib.Core.Path.{◌≡◌, ap, subst}
use lib.Count.{count_trailing_zeros}
use lib.IntN.{pos, negsuc}
use lib.Ieee.{Float, odd, of_fields, of_bits}
use Rattle.lists.specs.Lists.{some}
use Rattle.volume.specs.Steps.{past, steps}
use Rattle.volume.specs.Volume.{determinant, sum_over}
use Rattle.volume.specs.Answers.{Weighed, weighed, weighing}
use Rattle.weigh.specs.Sums.{shadow_of, pillar_of, sum_of}
use Rattle.weigh.specs.Words.{high_of, low_of}
use Rattle.weigh.specs.Answers.{Answer, some_wide, told, weight}
use Rattle.bed.proofs.Places.{VolumeCall, WeighCall, volume-by-place, weigh-by-place}
use Rattle.calls.proofs.Lists.{floats}

-- what a computed fact opens
opened : Unit {0}
unfolding some past steps determinant sum_over weighing shadow_of pillar_of sum_of high_of low_of some_wide weight odd of_fields of_bits count_trailing_zeros
opened = tt

-- (1.3, 2.7, 3.1), (2.2, 1.9, 9.4), (1.75, 3.6, 0.3), (2.9, 2.05, 4.45); in steps (332, 691, 793), (563, 486, 2406), (448, 921, 76), (742, 524, 1139)
abbrev positions : List Float
positions =
    floats
    (0x3FA66666 ∷ 0x402CCCCD ∷ 0x40466666 ∷ 0x400CCCCD ∷ 0x3FF33333 ∷ 0x41166666 ∷ 0x3FE00000 ∷ 0x40666666 ∷ 0x3E99999A ∷ 0x4039999A ∷ 0x40033333 ∷ 0x408E6666 ∷ [])

-- ---- bed_volume: positions, indices, six times the volume

abbrev VolumeLent : Type 0
VolumeLent = List Float × List ℕ

abbrev volume_lent : VolumeLent
volume_lent = (positions, 1 ∷ 0 ∷ 2 ∷ 3 ∷ 2 ∷ 0 ∷ [])

abbrev volume_given : VolumeCall → VolumeLent
volume_given u = let (positions', (indices, _)) = u.args in (positions'.now, indices.now)

pub volume-called : (u : VolumeCall) → volume_given u ≡ volume_lent → (let (_, (_, (sixfold, _))) = u.last in (u.result ≡ 0) × (sixfold ≡ pos 103982075))
unfolding opened
volume-called u e =
    let (_, (_, (sixfold, _))) = u.last in
    let w : weighed u.result sixfold ≡ weighed 0 (pos 103982075) =
    subst (λ (g : VolumeLent). weighed u.result sixfold ≡ weighing g.0 g.1) e (volume-by-place u) in
    (ap (λ (x : Weighed). x.answer) w, ap (λ (x : Weighed). x.volume) w)

-- ---- bed_weigh: positions, the number of the first vertex, indices, the low and the high word of the sum, the shadow

abbrev WeighLent : Type 0
WeighLent = List Float × ℕ × List ℕ

abbrev weigh_lent : WeighLent
weigh_lent = (positions, 40, 41 ∷ 40 ∷ 42 ∷ 43 ∷ 42 ∷ 40 ∷ [])

abbrev weigh_given : WeighCall → WeighLent
weigh_given u = let (positions', (first, (indices, _))) = u.args in (positions'.now, first, indices.now)

-- the sum is -23,626,874: -1 · 2^64 and 18,446,744,073,685,924,742
pub weigh-called : (u : WeighCall) → weigh_given u ≡ weigh_lent
    → (let (_, (_, (_, (low, (high, (shadow, _)))))) = u.last in
    (u.result ≡ 0) × (low ≡ 18446744073685924742) × (high ≡ negsuc 0) × (shadow ≡ pos 36762))
unfolding opened
weigh-called u e =
    let (_, (_, (_, (low, (high, (shadow, _)))))) = u.last in
    let w : told u.result low high shadow ≡ told 0 18446744073685924742 (negsuc 0) (pos 36762) =
    subst (λ (g : WeighLent). told u.result low high shadow ≡ weight g.0 g.1 g.2) e (weigh-by-place u) in
    (ap (λ (x : Answer). x.answer) w, ap (λ (x : Answer). x.low) w, ap (λ (x : Answer). x.high) w, ap (λ (x : Answer). x.shadow) w)
