-- `wall_for` of `deepest` is a far wall, for finite distances that lie at most 2 ^ 99 below zero: the deepest is no less than any magnitude below zero, and the
-- power of two that is found is no less than the deepest. Assumes nothing.
use Prim.Native.Nat.{ℕ, zero, suc, ◌+◌, ◌*◌, ◌^◌, ◌≤◌, ◌<◌, zero-le}
use native.Mathlib.Nat.{le_refl, le_trans, le_of_eq, mul-one, zero-mul, mul_comm, mul_assoc, mul_left_comm, mul_right_comm, mul-le-mul_right, le_of_mul-le-mul_right, mul-pos, not-le_of_lt, le_of_lt, le_antisymm}
use native.Mathlib.Omega.{arith}
use mathlib.Core.Bool.{Bool, true, false, not, cond, true≢false}
use mathlib.Core.List.{List, [], ◌∷◌}
use mathlib.Core.Logic.{◌⊎◌, inl, inr}
use mathlib.Core.Path.{◌≡◌, refl, sym, ap, subst, ◌∙◌}
use borrow.Author.Tests.{ltb-true, ltb-false, eqb-true}
use lib.Dec.{T, eqb, ltb, lit<, ltb→lt}
use lib.Ieee.{Float, nan, inf, fin, lt, neg, up, down}
use lib.Ieee.Bits.{is_true}
use lib.Ieee.Fits.{up_pos}
use lib.Ieee.Positive.{num, den, den_pos}
use lib.Ieee.Scale.{finite}
use lib.ListN.{length, get_or}
use Rattle.lists.specs.Lists.{up_to, place}
use Rattle.lists.proofs.Tests.{less-or-not}
use Rattle.rounding.specs.Values.{plain, below_zero}
use Rattle.rules.specs.Cell.{zero32, one32, negative}
use Rattle.closing.specs.Wall.{deeper, deepest, depth, wall_at, far_enough, wall_for}
use Rattle.closing.proofs.Walls.{First, place-first}
use Rattle.closed_bed.specs.Standing.{Deep, FarWall}
use Rattle.closed_bed.proofs.Sides.{negative-below}
use Rattle.closed_bed.proofs.Fractions.{all_below, all-below}

-- ---- the deepest

-- the magnitude of x is at most that of y
abbrev AtMost : Float → Float → Type 0
AtMost x y = num x * den y ≤ num y * den x

at-most-trans : (x y z : Float) → AtMost x y → AtMost y z → AtMost x z
at-most-trans x y z h k = go (num x) (den x) (num y) (den y) (num z) (den z) (den_pos y) h k
  where
    go : (a b c d e f : ℕ) → 0 < d → a * d ≤ c * b → c * f ≤ e * d → a * f ≤ e * b
    go a b c d e f d0 h k =
        le_of_mul-le-mul_right
        (le_trans (le_of_eq (mul_right_comm a f d)) (le_trans (mul-le-mul_right f h) (le_trans (le_of_eq (mul_right_comm c b f)) (le_trans (mul-le-mul_right b k) (le_of_eq (mul_right_comm e d b)))))) d0

-- one distance more: still plain, no less than before, and no less than the distance where that is below zero
record Deeper (found d new : Float) : Type 0 where
  clear : T (plain new)
  kept : AtMost found new
  above : T (negative d) → AtMost d new

deeper-is : (found d : Float) → T (plain found) → T (finite d) → Deeper found d (deeper found d)
unfolding lt neg
deeper-is nan d p f = absurd p
deeper-is (inf s) d p f = absurd p
deeper-is (fin true q k) d p f = absurd p
deeper-is (fin false q k) nan p f = absurd f
deeper-is (fin false q k) (inf s) p f = absurd f
deeper-is (fin false q k) (fin false m e) p f =
    record { clear = tt; kept = le_refl (q * up k * down k); above = λ t. absurd (not-le_of_lt (ltb-true _ _ (is_true _ t)) (le_trans (le_of_eq (zero-mul (down e))) zero-le)) }
deeper-is (fin false q k) (fin true m e) p f = go (ltb (q * up k * down e) (m * up e * down k)) refl
  where
    go : (t : Bool) → ltb (q * up k * down e) (m * up e * down k) ≡ t → Deeper (fin false q k) (fin true m e) (cond t (fin false m e) (fin false q k))
    go true h = record { clear = tt; kept = le_of_lt (ltb-true (q * up k * down e) (m * up e * down k) h); above = λ t. le_refl (m * up e * down e) }
    go false h = record { clear = tt; kept = le_refl (q * up k * down k); above = λ t. ltb-false (q * up k * down e) (m * up e * down k) h }

-- every number of a list is finite
abbrev pub AllFinite : List Float → Type 0
AllFinite l = (i : ℕ) → i < length l → T (finite (get_or l i nan))

record Deepest (found : Float) (l : List Float) (new : Float) : Type 0 where
  clear : T (plain new)
  kept : AtMost found new
  above : (i : ℕ) → i < length l → T (negative (get_or l i nan)) → AtMost (get_or l i nan) new

deepest-is : (found : Float) (l : List Float) → T (plain found) → AllFinite l → Deepest found l (deepest found l)
unfolding deepest
deepest-is found [] p f = record { clear = p; kept = le_refl (num found * den found); above = λ i h n. absurd (omega arith) }
deepest-is found (d ∷ l) p f =
    let s = deeper-is found d p (f 0 (omega arith)) in
    let r = deepest-is (deeper found d) l s.clear (λ i h. f (suc i) (omega arith)) in
    record { clear = r.clear; kept = at-most-trans found (deeper found d) (deepest (deeper found d) l) s.kept r.kept; above = each s r }
  where
    each : Deeper found d (deeper found d) → Deepest (deeper found d) l (deepest (deeper found d) l)
        → (i : ℕ) → i < suc (length l) → T (negative (get_or (d ∷ l) i nan)) → AtMost (get_or (d ∷ l) i nan) (deepest (deeper found d) l)
    each s r zero h n = at-most-trans d (deeper found d) (deepest (deeper found d) l) (s.above n) r.kept
    each s r (suc i) h n = r.above i (omega arith) n

-- ---- the power of two

-- 2 ^ 25 times 2 ^ (k - 149) is 2 ^ (k - 124): by computing
scaled : ℕ → Bool
scaled k = eqb (num (depth k) * 2 ^ 25 * den (wall_at k)) (num (wall_at k) * den (depth k))

scaled-table : all_below scaled 249 ≡ true
unfolding all_below scaled
scaled-table = refl

scaled-is : (k : ℕ) → k < 249 → num (depth k) * 2 ^ 25 * den (wall_at k) ≡ num (wall_at k) * den (depth k)
unfolding scaled
scaled-is k h = eqb-true (num (depth k) * 2 ^ 25 * den (wall_at k)) (num (wall_at k) * den (depth k)) (all-below scaled 249 scaled-table k h)

not-below : (x y : Float) → T (plain x) → T (plain y) → lt x y ≡ false → AtMost y x
unfolding lt
not-below nan y p q h = absurd p
not-below (inf s) y p q h = absurd p
not-below (fin true m e) y p q h = absurd p
not-below (fin false m e) nan p q h = absurd q
not-below (fin false m e) (inf s) p q h = absurd q
not-below (fin false m e) (fin true n k) p q h = absurd q
not-below (fin false m e) (fin false n k) p q h = ltb-false (m * up e * down k) (n * up k * down e) h

-- the power that is found is no less
module _ (found : Float) (p : T (plain found)) (reach : lt (depth 248) found ≡ false) where
  abbrev pub end : ℕ
  end = place (far_enough found) (up_to 0 248)

  first : First (far_enough found) 0 248 end
  first = place-first (far_enough found) 248 0

  far-end : AtMost found (depth end)
  far-end = not-below (depth end) found tt p (go (less-or-not end 248))
    where
      unnot : (b : Bool) → not b ≡ true → b ≡ false
      unnot true h = absurd (true≢false (sym h))
      unnot false h = refl

      go : (end < 248) ⊎ (248 ≤ end) → lt (depth end) found ≡ false
      go (inl h) = let z : 0 + end ≡ end = omega arith in unnot (lt (depth end) found) (sym (ap (far_enough found) z) ∙ first.here h)
      go (inr h) = let z : end ≡ 248 = omega (arith, first.within) in ap (λ (n : ℕ). lt (depth n) found) z ∙ reach

  deep-end : (d : Float) → AtMost d found → Deep (wall_at end) d
  deep-end d h = go (num d) (den d) (num (depth end)) (den (depth end)) (num (wall_at end)) (den (wall_at end)) (2 ^ 25) (den_pos (depth end)) (at-most-trans d found (depth end) h far-end)
      (scaled-is end (omega (arith, first.within)))
    where
      go : (n e a b W D P : ℕ) → 0 < b → n * b ≤ a * e → a * P * D ≡ W * b → n * P * D ≤ W * e
      go n e a b W D P b0 h s =
          let l : n * P * D * b ≡ n * b * (P * D) = simp (mul_assoc, mul_comm, mul_left_comm) in
          let m : a * e * (P * D) ≡ a * P * D * e = simp (mul_assoc, mul_comm, mul_left_comm) in
          le_of_mul-le-mul_right (le_trans (le_of_eq l) (le_trans (mul-le-mul_right (P * D) h) (le_of_eq (m ∙ ap (λ (z : ℕ). z * e) s ∙ mul_right_comm W b e)))) b0

-- what is not above zero is nothing
nothing : (x : Float) → T (plain x) → lt zero32 x ≡ false → num x ≡ 0
unfolding lt
nothing nan p h = absurd p
nothing (inf s) p h = absurd p
nothing (fin true m e) p h = absurd p
nothing (fin false m e) p h = le_antisymm (le_trans (le_of_eq (sym (mul-one (m * up e)))) (le_trans (ltb-false (0 * down e) (m * up e * 1) h) (le_of_eq (zero-mul (down e))))) zero-le

some_below : (x : Float) → T (below_zero x) → 0 < num x
some_below nan p = absurd p
some_below (inf s) p = absurd p
some_below (fin false m e) p = absurd p
some_below (fin true m e) p = mul-pos (ltb→lt 0 m p) (up_pos e)

-- ---- the law

pub wall-for-is-far : (sdf : List Float) → AllFinite sdf → lt (depth 248) (deepest zero32 sdf) ≡ false → FarWall (wall_for (deepest zero32 sdf)) sdf
unfolding wall_for
wall-for-is-far sdf f reach = go (lt zero32 (deepest zero32 sdf)) refl
  where
    r : Deepest zero32 sdf (deepest zero32 sdf)
    r = deepest-is zero32 sdf tt f

    none_below : lt zero32 (deepest zero32 sdf) ≡ false → (i : ℕ) → i < length sdf → T (negative (get_or sdf i nan)) → ⊥
    none_below h i l n =
        let d = get_or sdf i nan in
        let z : num d * den (deepest zero32 sdf) ≤ 0 = le_trans (r.above i l n) (le_of_eq (ap (λ (k : ℕ). k * den d) (nothing (deepest zero32 sdf) r.clear h) ∙ zero-mul (den d))) in
        not-le_of_lt (mul-pos (some_below d (negative-below d (f i l) n)) (den_pos (deepest zero32 sdf))) z

    go : (t : Bool) → lt zero32 (deepest zero32 sdf) ≡ t
        → FarWall (cond (lt zero32 (deepest zero32 sdf)) (wall_at (place (far_enough (deepest zero32 sdf)) (up_to 0 248))) one32) sdf
    go true h =
        subst (λ (t : Bool). FarWall (cond t (wall_at (end (deepest zero32 sdf) r.clear reach)) one32) sdf) (sym h)
        (record {
          exponent = end (deepest zero32 sdf) r.clear reach;
          few = omega (arith, (first (deepest zero32 sdf) r.clear reach).within);
          power = refl;
          deep = λ i l n. deep-end (deepest zero32 sdf) r.clear reach (get_or sdf i nan) (r.above i l n);
        })
    go false h =
        subst (λ (t : Bool). FarWall (cond t (wall_at (end (deepest zero32 sdf) r.clear reach)) one32) sdf) (sym h)
        (record { exponent = 124; few = lit< tt; power = refl; deep = λ i l n. absurd (none_below h i l n) })
