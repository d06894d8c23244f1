-- Document 01, "Under the caps every number written is finite": with distances up to 2 ^ k in magnitude, k up to 124, each component of the normal is
-- at most 2 ^ (k + 3). A difference is at most 2 · 2 ^ k, a weight at most 1, and the sum of four at most four times that: each bound is a value of
-- binary32, so no rounding passes it. Assumes nothing.
use Rattle.std.proofs.Common.{◌≡◌, ℕ, suc, ◌+◌, ◌*◌, ◌^◌, ◌<◌, ◌≤◌, not, T, List, length, sym, ap, ◌∙◌, subst, lt_of_le_of_lt, add-mul, mul-le-mul, one-mul, arith, lit<, lit≤, nltb→le, pow_mono, pow-add}
use native.Mathlib.Nat.{two-pow-succ}
use lib.Ieee.{Float, nan, inf, fin, binary32, fits, up, down}
use Rattle.rounding.specs.Values.{UpTo, Within, Holds}
use Rattle.rounding.proofs.Bounds.{holds-times, holds-whole}
use Rattle.rounding.proofs.Operations.{add-within, sub_within, mul-within, mul-up, up-to-within, up-to-share}
use Rattle.rounding.proofs.Mixing.{rest_up}
use Rattle.rules.specs.Cell.{◌⊕◌, ◌⊖◌, ◌⊗◌, one32, corner, surface, centroid, blend, step, normal}
use Rattle.rules.specs.Call.{cap, beyond}
use Rattle.cube.proofs.Corners.{Corners, Each, Finite, Cell}
use Rattle.cube.proofs.UnitCentroid.{centroid-up}

-- ---- the bounds are values of binary32

-- twice 2 ^ k, m times, for k up to 124 and m up to 4
few-held : (k m : ℕ) → k ≤ 124 → m ≤ 4 → Holds binary32 (m * (2 ^ k + 2 ^ k)) 1
few-held k m K M =
    subst (λ (n : ℕ). Holds binary32 (m * n) 1) (two-pow-succ k)
    (holds-times binary32 m (suc k) (lt_of_le_of_lt M (lit< tt)) (lt_of_le_of_lt (mul-le-mul M (pow_mono {j = 125} (omega arith))) (lit< tt)))

module _ (A : ℕ) (held : (m : ℕ) → m ≤ 4 → Holds binary32 (m * A) 1) where
  term : (w a : Float) → UpTo 1 w → Within A a → Within (1 * A) (w ⊗ a)
  term w a u h = mul-within binary32 1 A w a (held 1 (lit≤ tt)) (up-to-within 1 w u) h

  more : (m : ℕ) (x y : Float) → m + 1 ≤ 4 → Within (m * A) x → Within (1 * A) y → Within ((m + 1) * A) (x ⊕ y)
  more m x y h p q =
      subst (λ (n : ℕ). Within n (x ⊕ y)) (sym (add-mul m 1 A))
      (add-within binary32 (m * A) (1 * A) x y (subst (λ (n : ℕ). Holds binary32 n 1) (add-mul m 1 A) (held (m + 1) h)) p q)

  -- "((ny·nz)·A + (ny·sz)·B) + (sy·nz)·C, then + (sy·sz)·D"
  blend-within : (s s' a b c d : Float) → UpTo 1 s → UpTo 1 s' → Within A a → Within A b → Within A c → Within A d → Within (4 * A) (blend (one32 ⊖ s) s (one32 ⊖ s') s' a b c d)
  blend-within s s' a b c d u u' ha hb hc hd =
      let n = one32 ⊖ s in
      let n' = one32 ⊖ s' in
      let v = rest s u in
      let v' = rest s' u' in
      let t1 = term (n ⊗ n') a (weight n n' v v') ha in
      let t2 = term (n ⊗ s') b (weight n s' v u') hb in
      let t3 = term (s ⊗ n') c (weight s n' u v') hc in
      let t4 = term (s ⊗ s') d (weight s s' u u') hd in
      more 3 (((n ⊗ n') ⊗ a ⊕ (n ⊗ s') ⊗ b) ⊕ (s ⊗ n') ⊗ c) ((s ⊗ s') ⊗ d) (lit≤ tt)
      (more 2 ((n ⊗ n') ⊗ a ⊕ (n ⊗ s') ⊗ b) ((s ⊗ n') ⊗ c) (lit≤ tt) (more 1 ((n ⊗ n') ⊗ a) ((n ⊗ s') ⊗ b) (lit≤ tt) t1 t2) t3) t4
    where
      weight : (x y : Float) → UpTo 1 x → UpTo 1 y → UpTo 1 (x ⊗ y)
      weight x y p q = mul-up binary32 1 1 x y (holds-whole binary32 1 (lit≤ tt)) p q

      rest : (x : Float) → UpTo 1 x → UpTo 1 (one32 ⊖ x)
      rest x p = rest_up binary32 x (up-to-share x p)

-- ---- the normal

step-within : (k : ℕ) (d : List Float) (a b : ℕ) → k ≤ 124 → Corners (Within (2 ^ k)) d → a < 8 → b < 8 → Within (2 ^ k + 2 ^ k) (step d a b)
step-within k d a b K h p q =
    sub_within binary32 (2 ^ k) (2 ^ k) (corner d a) (corner d b) (subst (λ (n : ℕ). Holds binary32 n 1) (one-mul (2 ^ k + 2 ^ k)) (few-held k 1 K (lit≤ tt))) (h a p) (h b q)

four-times : (k : ℕ) → 4 * (2 ^ k + 2 ^ k) ≡ 2 ^ (k + 3)
four-times k = ap (λ (n : ℕ). 4 * n) (sym (two-pow-succ k)) ∙ sym (pow-add 2 2 (suc k)) ∙ ap (λ (n : ℕ). 2 ^ n) e
  where
    e : 2 + suc k ≡ k + 3
    e = omega arith

pub normal-within : (k : ℕ) (d : List Float) → k ≤ 124 → Cell d → T (surface d) → Corners (Within (2 ^ k)) d → Each (Within (2 ^ (k + 3))) (normal d (centroid d))
unfolding normal
normal-within k d K c s h =
    let v = centroid d in
    let u = centroid-up d c s in
    subst (λ (n : ℕ). Each (Within n) (normal d v)) (four-times k) (
      four v.y v.z (step d 1 0) (step d 5 4) (step d 3 2) (step d 7 6) u.1 u.2
          (two 1 0 (lit< tt) (lit< tt)) (two 5 4 (lit< tt) (lit< tt)) (two 3 2 (lit< tt) (lit< tt)) (two 7 6 (lit< tt) (lit< tt)),
      four v.z v.x (step d 2 0) (step d 3 1) (step d 6 4) (step d 7 5) u.2 u.0
          (two 2 0 (lit< tt) (lit< tt)) (two 3 1 (lit< tt) (lit< tt)) (two 6 4 (lit< tt) (lit< tt)) (two 7 5 (lit< tt) (lit< tt)),
      four v.x v.y (step d 4 0) (step d 6 2) (step d 5 1) (step d 7 3) u.0 u.1
          (two 4 0 (lit< tt) (lit< tt)) (two 6 2 (lit< tt) (lit< tt)) (two 5 1 (lit< tt) (lit< tt)) (two 7 3 (lit< tt) (lit< tt)),
    )
  where
    two : (a b : ℕ) → a < 8 → b < 8 → Within (2 ^ k + 2 ^ k) (step d a b)
    two a b p q = step-within k d a b K h p q

    four : (s s' a b c d : Float) → UpTo 1 s → UpTo 1 s' → Within (2 ^ k + 2 ^ k) a → Within (2 ^ k + 2 ^ k) b → Within (2 ^ k + 2 ^ k) c → Within (2 ^ k + 2 ^ k) d
        → Within (4 * (2 ^ k + 2 ^ k)) (blend (one32 ⊖ s) s (one32 ⊖ s') s' a b c d)
    four = blend-within (2 ^ k + 2 ^ k) (λ (m : ℕ) (M : m ≤ 4). few-held k m K M)

pub finite-normal : (k : ℕ) (d : List Float) → k ≤ 124 → Cell d → T (surface d) → Corners (Within (2 ^ k)) d → Each Finite (normal d (centroid d))
finite-normal k d K c s h =
    let r = normal-within k d K c s h in
    (r.0.0, r.1.0, r.2.0)

-- ---- the cap of condition 5: `finite-normal` at its exponent

-- what condition 5 lets pass is finite, and at most the cap in magnitude
pub not_beyond : (x : Float) → T (not (beyond x)) → Within cap x
unfolding beyond
not_beyond nan h = absurd h
not_beyond (inf s) h = absurd h
not_beyond (fin s m e) h = (tt, nltb→le (cap * down e) (m * up e) h)

-- a value of binary32 that condition 5 lets pass
abbrev pub Capped : Float → Type 0
Capped x = T (fits binary32 x) × T (not (beyond x))

pub capped-cell : (d : List Float) → length d ≡ 8 → Corners Capped d → Cell d
capped-cell d e h = (e, λ (i : ℕ) (l : i < 8). ((h i l).0, (not_beyond (corner d i) (h i l).1).0))

pub finite-normal-capped : (d : List Float) → length d ≡ 8 → Corners Capped d → T (surface d) → Each Finite (normal d (centroid d))
finite-normal-capped d e h s = finite-normal 124 d (lit≤ tt) (capped-cell d e h) s (λ (i : ℕ) (l : i < 8). not_beyond (corner d i) (h i l).1)
