-- Moved by whole steps, for any list of triangles: along x and y neither the sum nor the shadow changes; moved up by t steps the sum grows by 3·t times the
-- shadow, and the shadow stays. Assumes nothing.
use Prim.Native.Nat.{ℕ, suc, ◌+◌, ◌*◌}
use native.Mathlib.Omega.{arith}
use mathlib.Core.List.{List}
use mathlib.Core.Path.{◌≡◌, refl, sym, ap, ap₂, ◌∙◌}
use lib.IntN.{ℤ, pos, negsuc, neg_ℤ, ◌+ℤ◌, ◌-ℤ◌, ◌*ℤ◌, +ℤ_idl, +ℤ_idr, +ℤ_invr, neg_ℤ-+ℤ, *ℤ_comm, *ℤ-zero, zero-*ℤ}
use Rattle.lists.proofs.Lists.{All, none, more}
use Rattle.volume.specs.declared.Corner.{Corner}
use Rattle.volume.proofs.Whole.{exchange, minus_plus}
use Rattle.weigh.specs.Sums.{shadow_of, pillar_of, sum_of}
use Rattle.weigh.proofs.Terms.{height}
use Rattle.weigh.proofs.Whole.{same-difference, times}
use Rattle.weighed_mesh.proofs.Moved.{Shift, Moves}

-- ---- a product of a sum

-- every whole number as a difference of two natural numbers
over : ℤ → ℕ
over (pos n) = n
over (negsuc n) = 0

under : ℤ → ℕ
under (pos n) = 0
under (negsuc n) = suc n

as-difference : (z : ℤ) → z ≡ pos (over z) -ℤ pos (under z)
unfolding over under
as-difference (pos n) = sym (+ℤ_idr (pos n))
as-difference (negsuc n) = sym (+ℤ_idl (negsuc n))

pub product-sum : (x y z : ℤ) → (x +ℤ y) *ℤ z ≡ x *ℤ z +ℤ y *ℤ z
product-sum x y z =
    let a = over x in
    let b = under x in
    let c = over y in
    let d = under y in
    let e = over z in
    let f = under z in
    (λ i. (as-difference x i +ℤ as-difference y i) *ℤ as-difference z i)
    ∙ ap (λ (n : ℤ). n *ℤ (pos e -ℤ pos f)) (sym (minus_plus a b c d))
    ∙ times (a + c) (b + d) e f
    ∙ same-difference ((a + c) * e + (b + d) * f) ((a + c) * f + (b + d) * e) ((a * e + b * f) + (c * e + d * f)) ((a * f + b * e) + (c * f + d * e)) (omega arith)
    ∙ minus_plus (a * e + b * f) (a * f + b * e) (c * e + d * f) (c * f + d * e)
    ∙ ap₂ ◌+ℤ◌ (sym (times a b e f)) (sym (times c d e f))
    ∙ sym (λ i. as-difference x i *ℤ as-difference z i +ℤ as-difference y i *ℤ as-difference z i)

sum-product : (x y z : ℤ) → x *ℤ (y +ℤ z) ≡ x *ℤ y +ℤ x *ℤ z
sum-product x y z = *ℤ_comm x (y +ℤ z) ∙ product-sum y z x ∙ ap₂ ◌+ℤ◌ (*ℤ_comm y x) (*ℤ_comm z x)

once : (t : ℤ) → pos 1 *ℤ t ≡ t
once (pos n) = ap (λ (m : ℕ). pos m) {x = 1 * n} {y = n} (omega arith)
once (negsuc n) = ap (λ (m : ℕ). neg_ℤ (pos m)) {x = 1 * suc n} {y = suc n} (omega arith)

thrice : (t : ℤ) → (t +ℤ t) +ℤ t ≡ pos 3 *ℤ t
thrice t =
    sym
    (product-sum (pos 1 +ℤ pos 1) (pos 1) t
    ∙ ap₂ ◌+ℤ◌ (product-sum (pos 1) (pos 1) t ∙ ap₂ ◌+ℤ◌ (once t) (once t)) (once t))

-- ---- one triangle

-- two coordinates moved by the same steps differ as before
same-steps : (t a b a' b' : ℤ) → a' ≡ a +ℤ t → b' ≡ b +ℤ t → b' -ℤ a' ≡ b -ℤ a
same-steps t a b a' b' e f =
    ap₂ ◌-ℤ◌ f e
    ∙ ap (λ (z : ℤ). (b +ℤ t) +ℤ z) (neg_ℤ-+ℤ a t)
    ∙ exchange b t (neg_ℤ a) (neg_ℤ t)
    ∙ ap (λ (z : ℤ). (b -ℤ a) +ℤ z) (+ℤ_invr t)
    ∙ +ℤ_idr (b -ℤ a)

module _ (t : Shift) (a b c a' b' c' : Corner) (A : Moves t a a') (B : Moves t b b') (C : Moves t c c') where
  shadow-moved : shadow_of a' b' c' ≡ shadow_of a b c
  unfolding shadow_of
  shadow-moved =
      let p = same-steps t.x (pos a.x) (pos b.x) (pos a'.x) (pos b'.x) A.x B.x in
      let q = same-steps t.y (pos a.y) (pos c.y) (pos a'.y) (pos c'.y) A.y C.y in
      let r = same-steps t.y (pos a.y) (pos b.y) (pos a'.y) (pos b'.y) A.y B.y in
      let s = same-steps t.x (pos a.x) (pos c.x) (pos a'.x) (pos c'.x) A.x C.x in
      λ i. p i *ℤ q i -ℤ r i *ℤ s i

  height-moved : pos (height a' b' c') ≡ pos (height a b c) +ℤ pos 3 *ℤ t.z
  height-moved =
      (λ i. (A.z i +ℤ B.z i) +ℤ C.z i)
      ∙ ap (λ (z : ℤ). z +ℤ (pos c.z +ℤ t.z)) (exchange (pos a.z) t.z (pos b.z) t.z)
      ∙ exchange (pos a.z +ℤ pos b.z) (t.z +ℤ t.z) (pos c.z) t.z
      ∙ ap (λ (z : ℤ). pos (height a b c) +ℤ z) (thrice t.z)

  pillar-moved : pillar_of a' b' c' ≡ pillar_of a b c +ℤ pos 3 *ℤ t.z *ℤ shadow_of a b c
  unfolding pillar_of
  pillar-moved = ap₂ ◌*ℤ◌ height-moved shadow-moved ∙ product-sum (pos (height a b c)) (pos 3 *ℤ t.z) (shadow_of a b c)

-- ---- any list, for any two ways to place the vertices, one moved from the other

module _ (t : Shift) (at at' : ℕ → Corner) where
  pub moved-shadows : {l : List ℕ} → All (λ (i : ℕ). Moves t (at i) (at' i)) l → sum_of shadow_of at' l ≡ sum_of shadow_of at l
  unfolding sum_of
  moved-shadows none = refl
  moved-shadows (more p none) = refl
  moved-shadows (more p (more q none)) = refl
  moved-shadows (more {x = i} p (more {x = j} q (more {x = k} r rest))) =
      ap₂ ◌+ℤ◌ (shadow-moved t (at i) (at j) (at k) (at' i) (at' j) (at' k) p q r) (moved-shadows rest)

  pub moved-pillars : {l : List ℕ} → All (λ (i : ℕ). Moves t (at i) (at' i)) l → sum_of pillar_of at' l ≡ sum_of pillar_of at l +ℤ pos 3 *ℤ t.z *ℤ sum_of shadow_of at l
  unfolding sum_of
  moved-pillars none = sym (ap (λ (z : ℤ). pos 0 +ℤ z) (*ℤ-zero (pos 3 *ℤ t.z)))
  moved-pillars (more p none) = sym (ap (λ (z : ℤ). pos 0 +ℤ z) (*ℤ-zero (pos 3 *ℤ t.z)))
  moved-pillars (more p (more q none)) = sym (ap (λ (z : ℤ). pos 0 +ℤ z) (*ℤ-zero (pos 3 *ℤ t.z)))
  moved-pillars (more {x = i} p (more {x = j} q (more {x = k} {xs = is} r rest))) =
      let s = shadow_of (at i) (at j) (at k) in
      let n = pos 3 *ℤ t.z in
      ap₂ ◌+ℤ◌ (pillar-moved t (at i) (at j) (at k) (at' i) (at' j) (at' k) p q r) (moved-pillars rest)
      ∙ exchange (pillar_of (at i) (at j) (at k)) (n *ℤ s) (sum_of pillar_of at is) (n *ℤ sum_of shadow_of at is)
      ∙ ap (λ (z : ℤ). (pillar_of (at i) (at j) (at k) +ℤ sum_of pillar_of at is) +ℤ z) (sym (sum-product n s (sum_of shadow_of at is)))

-- along x and y alone: nothing changes
pub moved-along : (t : Shift) (at at' : ℕ → Corner) {l : List ℕ} → t.z ≡ pos 0 → All (λ (i : ℕ). Moves t (at i) (at' i)) l → sum_of pillar_of at' l ≡ sum_of pillar_of at l
moved-along t at at' {l} e m =
    moved-pillars t at at' m
    ∙ ap (λ (z : ℤ). sum_of pillar_of at l +ℤ pos 3 *ℤ z *ℤ sum_of shadow_of at l) e
    ∙ ap (λ (z : ℤ). sum_of pillar_of at l +ℤ z) (zero-*ℤ (sum_of shadow_of at l))
    ∙ +ℤ_idr (sum_of pillar_of at l)
