-- What the loop over the triangles keeps, how one triangle more keeps it, and what it says at the end. Assumes nothing.
use Rattle.std.proofs.Common.{◌≡◌, ℕ, ◌+◌, ◌*◌, ◌^◌, ◌<◌, ◌≤◌, Bool, true, false, cond, List, length, drop, ℤ, pos, ◌+ℤ◌, ◌-ℤ◌, sym, refl, ap, ◌∙◌, ap₂, arith}
use lib.IntN.{+ℤ_idl, +ℤ_idr}
use Rattle.volume.specs.declared.Corner.{Corner}
use Rattle.weigh.specs.declared.total.Total.{Total}
use Rattle.weigh.specs.Sums.{shadow_of, pillar_of, sum_of}
use Rattle.weigh.specs.Answers.{Answer, wide, some_wide, refuses, says}
use Rattle.weigh.specs.Biased.{Holds, Adds, kept}
use Rattle.weigh.proofs.Summing.{first, second, third, one_more, wide-found, wide-passed, sum_past, wide-past}

-- the sums of k triangles and of those after them are together those of all, and no triangle so far is wide
pub record Summed (at : ℕ → Corner) (l : List ℕ) (k : ℕ) (t : Total) : Type 0 where
  pub holds : Holds k t
  pub pillars : (pos (kept t) -ℤ pos (k * 2 ^ 55)) +ℤ sum_of pillar_of at (drop (3 * k) l) ≡ sum_of pillar_of at l
  pub shadows : (pos t.shadow -ℤ pos (k * 2 ^ 21)) +ℤ sum_of shadow_of at (drop (3 * k) l) ≡ sum_of shadow_of at l
  pub narrow : some_wide at l ≡ some_wide at (drop (3 * k) l)

module _ (at : ℕ → Corner) (l : List ℕ) where
  pub none_yet : (t : Total) → Holds 0 t → kept t ≡ 0 → t.shadow ≡ 0 → Summed at l 0 t
  none_yet t h e f = record {
    holds = h;
    pillars = ap (λ (n : ℕ). (pos n -ℤ pos 0) +ℤ sum_of pillar_of at l) e ∙ +ℤ_idl (sum_of pillar_of at l);
    shadows = ap (λ (n : ℕ). (pos n -ℤ pos 0) +ℤ sum_of shadow_of at l) f ∙ +ℤ_idl (sum_of shadow_of at l);
    narrow = refl;
  }

  more-holds : (k : ℕ) (a b c : Corner) (t r : Total) → Holds k t → Adds a b c t r → Holds (k + 1) r
  more-holds k a b c t r h s = record { low = s.low; sum = omega (arith, s.sum, h.sum); shadow = omega (arith, s.shadow, h.shadow) }

  pub one_further : (k : ℕ) (t r : Total) (a b c : Corner) → 3 * k + 2 < length l → Summed at l k t
      → a ≡ first at l k → b ≡ second at l k → c ≡ third at l k → wide a b c ≡ false → Adds a b c t r → Summed at l (k + 1) r
  one_further k t r a b c h s p q u w d = record {
    holds = more-holds k a b c t r s.holds d;
    pillars = one_more at l k h pillar_of (2 ^ 55) (kept t) (kept r) (sum_of pillar_of at l) s.pillars (d.pillar-is ∙ (λ i. pillar_of (p i) (q i) (u i)));
    shadows = one_more at l k h shadow_of (2 ^ 21) t.shadow r.shadow (sum_of shadow_of at l) s.shadows (d.shadow-is ∙ (λ i. shadow_of (p i) (q i) (u i)));
    narrow = s.narrow ∙ wide-passed at l k h (sym (λ i. wide (p i) (q i) (u i)) ∙ w);
  }

  -- the answer where a triangle is wide, and where none is
  abbrev ended : Answer
  ended = cond (some_wide at l) (refuses 76) (says 0 (sum_of pillar_of at l) (sum_of shadow_of at l))

  pub wide-answer : (k : ℕ) (t : Total) (a b c : Corner) → 3 * k + 2 < length l → Summed at l k t
      → a ≡ first at l k → b ≡ second at l k → c ≡ third at l k → wide a b c ≡ true → refuses 76 ≡ ended
  wide-answer k t a b c h s p q u w =
      let e : some_wide at l ≡ true = s.narrow ∙ wide-found at l k h (sym (λ i. wide (p i) (q i) (u i)) ∙ w) in
      sym (ap (λ (b : Bool). cond b (refuses 76) (says 0 (sum_of pillar_of at l) (sum_of shadow_of at l))) e)

  pub all-summed : (n : ℕ) (t : Total) → length l ≤ 3 * n → Summed at l n t → says 0 (pos (kept t) -ℤ pos (n * 2 ^ 55)) (pos t.shadow -ℤ pos (n * 2 ^ 21)) ≡ ended
  all-summed n t h s =
      let e : some_wide at l ≡ false = s.narrow ∙ wide-past at l (3 * n) h in
      let p : pos (kept t) -ℤ pos (n * 2 ^ 55) ≡ sum_of pillar_of at l =
      sym (+ℤ_idr (pos (kept t) -ℤ pos (n * 2 ^ 55))) ∙ ap (λ (z : ℤ). (pos (kept t) -ℤ pos (n * 2 ^ 55)) +ℤ z) (sym (sum_past at l (3 * n) h pillar_of)) ∙ s.pillars in
      let q : pos t.shadow -ℤ pos (n * 2 ^ 21) ≡ sum_of shadow_of at l =
      sym (+ℤ_idr (pos t.shadow -ℤ pos (n * 2 ^ 21))) ∙ ap (λ (z : ℤ). (pos t.shadow -ℤ pos (n * 2 ^ 21)) +ℤ z) (sym (sum_past at l (3 * n) h shadow_of)) ∙ s.shadows in
      ap₂ (λ (y z : ℤ). says 0 y z) p q ∙ sym (ap (λ (b : Bool). cond b (refuses 76) (says 0 (sum_of pillar_of at l) (sum_of shadow_of at l))) e)
