-- The level of a column, which the definition works out from its lowest point up, is what its highest point below zero tells. Assumes nothing.
use Prim.Native.Nat.{ℕ, zero, suc, ◌+◌, ◌-◌, ◌≤◌, ◌<◌}
use native.Mathlib.Omega.{arith}
use mathlib.Core.Bool.{Bool, true, false, cond}
use mathlib.Core.Logic.{◌⊎◌, inl, inr}
use mathlib.Core.Path.{◌≡◌, refl, sym, ap₂, subst, ◌∙◌}
use borrow.Author.Tests.{eq-eqb, ne_eqb}
use lib.Dec.{T}
use lib.Ieee.{Float}
use Rattle.lists.proofs.Tests.{is-test, less-or-not}
use Rattle.rules.specs.Cell.{◌⊕◌, float, negative, fraction}
use Rattle.levels.specs.Column.{no_level, first_level, level_step, level_up_to}
use Rattle.levelled_bed.specs.Highest.{Highest, NoneBelow, told_from}

-- a test that was found to fail does not pass
fails : {t : Bool} → t ≡ false → T t → ⊥
fails e h = subst T e h

split_at : (k m : ℕ) → (k ≤ m) ⊎ (m < k)
split_at k m = elim (less-or-not m k) [ inl h ↦ inr h | inr h ↦ inl h ]

-- the highest point, with the level that it tells
pub record Tells (d : ℕ → Float) (low high : ℕ) (level : Float) : Type 0 where
  pub z : ℕ
  pub highest : Highest d low high z
  pub same : level ≡ told_from d high z

pub record Silent (d : ℕ → Float) (low high : ℕ) (level : Float) : Type 0 where
  pub none_below : NoneBelow d low high
  pub same : level ≡ no_level

-- at the top, and below it
told-top : (d : ℕ → Float) (high z : ℕ) → z ≡ high → told_from d high z ≡ float z
told-top d high z e = rw (eq-eqb z high e)

told_under : (d : ℕ → Float) (high z : ℕ) → (z ≡ high → ⊥) → told_from d high z ≡ float z ⊕ fraction (d z) (d (z + 1))
told_under d high z n = rw (ne_eqb z high n)

module _ (d : ℕ → Float) (low : ℕ) where
  -- one point
  lowest : (t : Bool) → negative (d low) ≡ t → Silent d low (low + 0) (cond t (float low) no_level) ⊎ Tells d low (low + 0) (cond t (float low) no_level)
  lowest true e =
      let top : low ≡ low + 0 = omega arith in
      inr (record {
        z = low;
        highest = record { from = omega arith; to = omega arith; negative-here = is-test (negative (d low)) e; none_above = λ k h l t. absurd (omega arith) };
        same = sym (told-top d (low + 0) low top);
      })
  lowest false e =
      inl (record {
        none_below = λ k h l t. let same : k ≡ low = omega arith in fails e (subst (λ (m : ℕ). T (negative (d m))) same t);
        same = refl;
      })

  -- one more, on top
  module _ (n : ℕ) (level : Float) where
    abbrev top : ℕ
    top = suc (low + n)

    abbrev Now : Float → Type 0
    Now x = Silent d low (low + suc n) x ⊎ Tells d low (low + suc n) x

    reached : top ≡ low + suc n
    reached = omega arith

    on-top : negative (d top) ≡ true → Now (float top)
    on-top e =
        inr (record {
          z = top;
          highest = record { from = omega arith; to = omega arith; negative-here = is-test (negative (d top)) e; none_above = λ k h l t. absurd (omega arith) };
          same = sym (told-top d (low + suc n) top reached);
        })

    -- the point k is not, and the top is not
    above : negative (d top) ≡ false → (k : ℕ) → low + n < k → k ≤ low + suc n → T (negative (d k)) → ⊥
    above e k h l t = let same : k ≡ top = omega arith in fails e (subst (λ (m : ℕ). T (negative (d m))) same t)

    under_top : negative (d top) ≡ false → negative (d (low + n)) ≡ true → Now (float (top - 1) ⊕ fraction (d (low + n)) (d top))
    under_top e f =
        let down : top - 1 ≡ low + n = omega arith in
        let up : top ≡ low + n + 1 = omega arith in
        inr (record {
          z = low + n;
          highest = record { from = omega arith; to = omega arith; negative-here = is-test (negative (d (low + n))) f; none_above = above e };
          same = ap₂ (λ (m u : ℕ). float m ⊕ fraction (d (low + n)) (d u)) down up ∙ sym (told_under d (low + suc n) (low + n) (λ h. omega arith));
        })

    as_before : negative (d top) ≡ false → negative (d (low + n)) ≡ false → Silent d low (low + n) level ⊎ Tells d low (low + n) level → Now level
    as_before e f (inl s) = inl (record { none_below = none; same = s.same })
      where
        none : NoneBelow d low (low + suc n)
        none k h l t = go (split_at k (low + n))
          where
            go : (k ≤ low + n) ⊎ (low + n < k) → ⊥
            go (inl m) = s.none_below k h m t
            go (inr m) = above e k m l t
    as_before e f (inr r) =
        let z = r.z in
        let other : z ≡ low + n → ⊥ = λ h. fails f (subst (λ (m : ℕ). T (negative (d m))) h r.highest.negative-here) in
        inr (record {
          z = z;
          highest = record { from = r.highest.from; to = omega (arith, r.highest.to); negative-here = r.highest.negative-here; none_above = none };
          same = r.same ∙ told_under d (low + n) z other ∙ sym (told_under d (low + suc n) z (λ h. omega (arith, r.highest.to, h)));
        })
      where
        none : (k : ℕ) → r.z < k → k ≤ low + suc n → T (negative (d k)) → ⊥
        none k h l t = go (split_at k (low + n))
          where
            go : (k ≤ low + n) ⊎ (low + n < k) → ⊥
            go (inl m) = r.highest.none_above k h m t
            go (inr m) = above e k m l t

    one_more : (s t : Bool) → negative (d top) ≡ s → negative (d (low + n)) ≡ t → Silent d low (low + n) level ⊎ Tells d low (low + n) level
        → Now (cond s (float top) (cond t (float (top - 1) ⊕ fraction (d (low + n)) (d top)) level))
    one_more true t e f r = on-top e
    one_more false true e f r = under_top e f
    one_more false false e f r = as_before e f r

  pub column-told : (n : ℕ) → Silent d low (low + n) (level_up_to d low n) ⊎ Tells d low (low + n) (level_up_to d low n)
  unfolding level_up_to level_step first_level
  column-told zero = lowest (negative (d low)) refl
  column-told (suc n) = one_more n (level_up_to d low n) (negative (d (suc (low + n)))) (negative (d (low + n))) refl refl (column-told n)
