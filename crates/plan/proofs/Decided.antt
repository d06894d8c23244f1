-- The three tests decide a plan of blocks that are not refused: those that pass are a plan, and a plan passes. And no word of their sums is large.
-- Assumes nothing.
use Prim.Native.Nat.{ℕ, ◌+◌, ◌<◌}
use native.Mathlib.Omega.{arith}
use native.Mathlib.Nat.{zero-add}
use mathlib.Core.Bool.{Bool, false, not, ◌&&◌}
use mathlib.Core.List.{List, [], ◌∷◌, map}
use mathlib.Core.Path.{◌≡◌, refl, sym, ap, subst, ◌∙◌}
use lib.Dec.{T}
use lib.Ieee.Fits.{and_i, and_l, and_r}
use lib.ListN.{length, get_or, take, length-map}
use Rattle.std.specs.List.{list_all, fold, enumerate_from}
use Rattle.std.proofs.lemmas.List.{get_or-take, length-take-le}
use Rattle.std.proofs.lemmas.List.FromFn.{length-enumerate_from, get_or-enumerate_from}
use Rattle.rules.specs.Grid.{Axis, axis_x, axis_y, axis_z}
use Rattle.rules.specs.Cutting.{Plan}
use Rattle.lists.proofs.Lists.{total}
use Rattle.plan.specs.declared.Block.{Block}
use Rattle.plan.specs.declared.size.Sum.{Sum}
use Rattle.plan.specs.Triples.{Sums}
use Rattle.plan.specs.Plan.{piece}
use Rattle.plan.specs.Region.{owned_of, owned_meet}
use Rattle.plan.specs.Size.{sizes_of, same_sum, same_sums, value}
use Rattle.plan.specs.Tests.{is_inside, is_apart, no_sums, with_sizes, sums_of, covers_once}
use Rattle.plan.proofs.Places.{at_map, all-places, places-all, none-places, places-none}
use Rattle.plan.proofs.Covering.{volume, Within, Apart, nowhere, box, Covers, covers, covers-apart, covers-within, covers-size}
use Rattle.plan.proofs.Regions.{owned_box, plan-covers, covers-plan, blocks-apart, apart-blocks, block_within, within_block}
use Rattle.plan.proofs.Sums.{size-value, same-value, value_same}

-- past the end: no block that a test looks at
abbrev blank : Block
blank =
    record {
      min_x = 0;
      min_y = 0;
      min_z = 0;
      max_x = 0;
      max_y = 0;
      max_z = 0;
      max_plane_x = false;
      max_plane_y = false;
      max_plane_z = false;
    }

-- ---- the sums, on each axis

abbrev sum_on : Axis → Sums → Sum
sum_on axis_x s = s.x
sum_on axis_y s = s.y
sum_on axis_z s = s.z

size-on : (a : Axis) (b : Block) → value (sum_on a (sizes_of (owned_of b))) ≡ volume (owned_box a b)
size-on axis_x b = size-value (owned_of b).x
size-on axis_y b = size-value (owned_of b).y
size-on axis_z b = size-value (owned_of b).z

both-on : (a : Axis) (s : Sums) (b : Block) → value (sum_on a (with_sizes s b)) ≡ value (sum_on a s) + value (sum_on a (sizes_of (owned_of b)))
both-on axis_x s b = omega arith
both-on axis_y s b = omega arith
both-on axis_z s b = omega arith

added-on : (a : Axis) (s : Sums) (bs : List Block) → value (sum_on a (fold with_sizes s bs)) ≡ value (sum_on a s) + total volume (map (owned_box a) bs)
unfolding total
added-on a s [] = omega arith
added-on a s (b ∷ bs) = omega (arith, added-on a (with_sizes s b) bs, both-on a s b, size-on a b)

summed : (a : Axis) (bs : List Block) → value (sum_on a (sums_of bs)) ≡ total volume (map (owned_box a) bs)
summed a bs = omega (arith, added-on a no_sums bs, none_on a)
  where
    none_on : (a : Axis) → value (sum_on a no_sums) ≡ 0
    none_on axis_x = refl
    none_on axis_y = refl
    none_on axis_z = refl

module _ (bs : List Block) (w : Block) where
  abbrev block : ℕ → Block
  block i = get_or bs i blank

  abbrev ThePlan : Type 0
  ThePlan = Plan (map piece bs) (piece w)

  abbrev SomeApart : Type 0
  SomeApart = (i j : ℕ) → j < i → i < length bs → (a : Axis) → Apart (owned_box a (block i)) (owned_box a (block j))

  abbrev AllWithin : Type 0
  AllWithin = (i : ℕ) → i < length bs → (a : Axis) → Within (owned_box a (block i)) (owned_box a w)

  -- ---- each block lies within

  all-within : T (list_all (is_inside w) bs) → AllWithin
  all-within t i h = block_within (block i) w (all-places (is_inside w) blank bs t i h)

  within_all : AllWithin → T (list_all (is_inside w) bs)
  within_all h = places-all (is_inside w) blank bs (λ i k. within_block (block i) w (h i k))

  -- ---- no two share an edge

  abbrev apart : Bool
  apart = list_all (is_apart bs) (enumerate_from 0 bs)

  abbrev meets : ℕ → Block → Bool
  meets i c = owned_meet (owned_of (block i)) (owned_of c)

  entry : (i : ℕ) → i < length bs → get_or (enumerate_from 0 bs) i (0, blank) ≡ (i, block i)
  entry i h = get_or-enumerate_from 0 bs i (0, blank) h ∙ ap (λ (n : ℕ). (n, block i)) (zero-add i)

  entries : length (enumerate_from 0 bs) ≡ length bs
  entries = length-enumerate_from 0 bs

  before : (i j : ℕ) → j < i → get_or (take i bs) j blank ≡ block j
  before i j h = get_or-take i bs j blank h

  first_of : (i : ℕ) → i < length bs → length (take i bs) ≡ i
  first_of i h = length-take-le i bs (omega arith)

  all-apart : T apart → SomeApart
  all-apart t i j k h =
      let here : T (is_apart bs (i, block i)) = subst (λ e. T (is_apart bs e)) (entry i h) (all-places (is_apart bs) (0, blank) (enumerate_from 0 bs) t i (omega (arith, entries))) in
      let there : T (not (meets i (get_or (take i bs) j blank))) = none-places (meets i) blank (take i bs) here j (omega (arith, first_of i h)) in
      blocks-apart (block i) (block j) (subst (λ c. T (not (meets i c))) (before i j k) there)

  apart-all : SomeApart → T apart
  apart-all h =
      places-all (is_apart bs) (0, blank) (enumerate_from 0 bs)
      (λ i k. let l : i < length bs = omega (arith, entries) in
      subst (λ e. T (is_apart bs e)) (sym (entry i l)) (places-none (meets i) blank (take i bs) (λ j m. let n : j < i = omega (arith, first_of i l) in
      subst (λ c. T (not (meets i c))) (sym (before i j n)) (apart-blocks (block i) (block j) (h i j n l)))))

  -- ---- as many

  abbrev same-on : Axis → Bool
  same-on a = same_sum (sum_on a (sums_of bs)) (sum_on a (sizes_of (owned_of w)))

  abbrev as_many : Bool
  as_many = same_sums (sums_of bs) (sizes_of (owned_of w))

  each : T as_many → (a : Axis) → T (same-on a)
  each t axis_x = and_l (same-on axis_x) (same-on axis_y) (and_l (same-on axis_x && same-on axis_y) (same-on axis_z) t)
  each t axis_y = and_r (same-on axis_x) (same-on axis_y) (and_l (same-on axis_x && same-on axis_y) (same-on axis_z) t)
  each t axis_z = and_r (same-on axis_x && same-on axis_y) (same-on axis_z) t

  all-same : T as_many → (a : Axis) → total volume (map (owned_box a) bs) ≡ volume (owned_box a w)
  all-same t a = sym (summed a bs) ∙ same-value (sum_on a (sums_of bs)) (sum_on a (sizes_of (owned_of w))) (each t a) ∙ size-on a w

  same-all : ((a : Axis) → total volume (map (owned_box a) bs) ≡ volume (owned_box a w)) → T as_many
  same-all h = and_i (same-on axis_x && same-on axis_y) (same-on axis_z) (and_i (same-on axis_x) (same-on axis_y) (so axis_x) (so axis_y)) (so axis_z)
    where
      so : (a : Axis) → T (same-on a)
      so a = value_same (sum_on a (sums_of bs)) (sum_on a (sizes_of (owned_of w))) (summed a bs ∙ h a ∙ sym (size-on a w))

  -- ---- the three

  box-at : (a : Axis) (i : ℕ) → i < length bs → box (map (owned_box a) bs) i ≡ owned_box a (block i)
  box-at a i h = at_map (owned_box a) bs i blank nowhere h

  boxes : (a : Axis) → length (map (owned_box a) bs) ≡ length bs
  boxes a = length-map bs (owned_box a)

  pub tests-plan : T (covers_once bs w) → ThePlan
  tests-plan t = covers-plan bs w on
    where
      I : Bool
      I = list_all (is_inside w) bs

      rest : T (apart && as_many)
      rest = and_r I (apart && as_many) t

      on : (a : Axis) → Covers (map (owned_box a) bs) (owned_box a w)
      on a = covers (map (owned_box a) bs) (owned_box a w) inside no-two (all-same (and_r apart as_many rest) a)
        where
          inside : (i : ℕ) → i < length (map (owned_box a) bs) → Within (box (map (owned_box a) bs) i) (owned_box a w)
          inside i m =
              let l : i < length bs = omega (arith, boxes a) in
              subst (λ r. Within r (owned_box a w)) (sym (box-at a i l)) (all-within (and_l I (apart && as_many) t) i l a)

          no-two : (i j : ℕ) → j < i → i < length (map (owned_box a) bs) → Apart (box (map (owned_box a) bs) i) (box (map (owned_box a) bs) j)
          no-two i j k m =
              let l : i < length bs = omega (arith, boxes a) in
              subst (λ r. Apart r (box (map (owned_box a) bs) j)) (sym (box-at a i l))
              (subst (λ r. Apart (owned_box a (block i)) r) (sym (box-at a j (omega arith))) (all-apart (and_l apart as_many rest) i j k l a))

  pub plan-tests : ThePlan → T (covers_once bs w)
  plan-tests h =
      and_i (list_all (is_inside w) bs) (apart && as_many) (within_all inside)
      (and_i apart as_many (apart-all no-two) (same-all (λ a. covers-size (map (owned_box a) bs) (owned_box a w) (plan-covers bs w h a))))
    where
      inside : AllWithin
      inside i l a =
          subst (λ r. Within r (owned_box a w)) (box-at a i l)
          (covers-within (map (owned_box a) bs) (owned_box a w) (plan-covers bs w h a) i (omega (arith, boxes a)))

      no-two : SomeApart
      no-two i j k l a =
          subst (λ r. Apart r (owned_box a (block j))) (box-at a i l)
          (subst (λ r. Apart (box (map (owned_box a) bs) i) r) (box-at a j (omega arith))
          (covers-apart (map (owned_box a) bs) (owned_box a w) (plan-covers bs w h a) i j k (omega (arith, boxes a))))
