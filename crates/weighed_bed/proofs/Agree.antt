-- The weighing and document 02's request 14 agree: a triangle's weight over z = 0 is its determinant and, for each of its three directed sides, a number that
-- changes sign with the side; so on a list in which each directed side occurs as often as its reverse the two sums are one. Assumes nothing.
use Prim.Native.Nat.{ℕ, ◌+◌, ◌*◌}
use native.Mathlib.Omega.{arith}
use mathlib.Core.List.{List, [], ◌∷◌}
use mathlib.Core.Path.{◌≡◌, refl, sym, ap, ap₂, subst, ◌∙◌}
use lib.IntN.{ℤ, pos, ◌+ℤ◌, ◌-ℤ◌, +ℤ_idr, +ℤ_invr}
use lib.Ieee.{Float}
use Rattle.lists.proofs.Lists.{total}
use Rattle.skin.specs.Links.{Link, links}
use Rattle.skin.specs.Enclosed.{Enclosed}
use Rattle.skin.proofs.Skin.{skin-law}
use Rattle.volume.specs.declared.Corner.{Corner}
use Rattle.volume.specs.Volume.{corner_at, falling, rising, determinant, sum_over, sixfold}
use Rattle.volume.specs.Answers.{Weighed}
use Rattle.volume.proofs.Whole.{exchange, minus_plus}
use Rattle.volume.proofs.Weighing.{accepted, weighs}
use Rattle.weigh.specs.Sums.{shadow_of, pillar_of, sum_of, pillars}
use Rattle.weigh.specs.Answers.{Answer, weight, sum_in}
use Rattle.weigh.proofs.Terms.{forth, back, height, shadow-parts, pillar-parts}
use Rattle.weigh.proofs.Weighing.{sum_told}
use Rattle.promises.specs.Served.{Served, Done}
use Rattle.promises.proofs.ReadBack.{indices-back}
use Rattle.weighed_mesh.specs.Told.{Told as Volumed, positions_of, indices_of}
use Rattle.weighed_mesh.proofs.Sides.{Even, even-total}
use Rattle.weighed_bed.specs.Told.{Told}
use Rattle.weighed_bed.proofs.Whole.{from_zero}

-- ---- one triangle

-- (az + bz)·ax·by of a side from a to b: the side's reverse has (az + bz)·bx·ay
abbrev side : Corner → Corner → ℕ
side a b = (a.z + b.z) * (a.x * b.y)

module _ (ax ay az bx by bz cx cy cz : ℕ) where
  more-forth : (az + bz + cz) * (ax * by + bx * cy + cx * ay) ≡ (ax * by * cz + ay * bz * cx + az * bx * cy)
      + ((az + bz) * (ax * by) + ((bz + cz) * (bx * cy) + (cz + az) * (cx * ay)))
  more-forth = omega arith

  more-back : (az + bz + cz) * (ay * bx + by * cx + cy * ax) ≡ (ax * bz * cy + ay * bx * cz + az * by * cx)
      + ((bz + az) * (bx * ay) + ((cz + bz) * (cx * by) + (az + cz) * (ax * cy)))
  more-back = omega arith

pub with-sides : (a b c : Corner) → pillar_of a b c ≡ determinant a b c +ℤ (pos (side a b + (side b c + side c a)) -ℤ pos (side b a + (side c b + side a c)))
unfolding determinant
with-sides a b c =
    let p : height a b c * forth a b c ≡ falling a b c + (side a b + (side b c + side c a)) = more-forth a.x a.y a.z b.x b.y b.z c.x c.y c.z in
    let q : height a b c * back a b c ≡ rising a b c + (side b a + (side c b + side a c)) = more-back a.x a.y a.z b.x b.y b.z c.x c.y c.z in
    pillar-parts a b c
    ∙ ap₂ (λ (m n : ℕ). pos m -ℤ pos n) p q
    ∙ minus_plus (falling a b c) (rising a b c) (side a b + (side b c + side c a)) (side b a + (side c b + side a c))

-- ---- all of them

module _ (at : ℕ → Corner) where
  abbrev ahead : Link → ℕ
  ahead s = side (at s.tail) (at s.head)

  abbrev behind : Link → ℕ
  behind s = side (at s.head) (at s.tail)

  grouped : (a b c t : ℕ) → (a + (b + c)) + t ≡ a + (b + (c + t))
  grouped a b c t = omega arith

  -- the sum, and then what the sides add and take off
  sides-sum : (l : List ℕ) → sum_of pillar_of at l ≡ sum_over at l +ℤ (pos (total ahead (links l)) -ℤ pos (total behind (links l)))
  unfolding sum_of sum_over links total
  sides-sum [] = refl
  sides-sum (i ∷ []) = refl
  sides-sum (i ∷ j ∷ []) = refl
  sides-sum (i ∷ j ∷ k ∷ is) =
      let a = at i in
      let b = at j in
      let c = at k in
      let p : ℕ = side a b + (side b c + side c a) in
      let q : ℕ = side b a + (side c b + side a c) in
      let s : ℕ = total ahead (links is) in
      let t : ℕ = total behind (links is) in
      ap₂ ◌+ℤ◌ (with-sides a b c) (sides-sum is)
      ∙ exchange (determinant a b c) (pos p -ℤ pos q) (sum_over at is) (pos s -ℤ pos t)
      ∙ ap (λ (z : ℤ). (determinant a b c +ℤ sum_over at is) +ℤ z)
      (sym (minus_plus p q s t) ∙ ap₂ (λ (m n : ℕ). pos m -ℤ pos n) (grouped (side a b) (side b c) (side c a) s) (grouped (side b a) (side c b) (side a c) t))

  -- each directed side as often as its reverse: the two sums are one
  pub even-agree : (l : List ℕ) → Even (links l) → sum_of pillar_of at l ≡ sum_over at l
  even-agree l even =
      let t : ℕ = total behind (links l) in
      sides-sum l
      ∙ ap (λ (n : ℕ). sum_over at l +ℤ (pos n -ℤ pos t)) (even-total (λ (i j : ℕ). side (at i) (at j)) (links l) even)
      ∙ ap (λ (z : ℤ). sum_over at l +ℤ z) (+ℤ_invr (pos t))
      ∙ +ℤ_idr (sum_over at l)

-- ---- the shadow

-- ax·by of a side from a to b: the side's reverse has bx·ay
abbrev across : Corner → Corner → ℕ
across a b = a.x * b.y

shadow-sides : (a b c : Corner) → shadow_of a b c ≡ pos (across a b + (across b c + across c a)) -ℤ pos (across b a + (across c b + across a c))
shadow-sides a b c =
    let p : forth a b c ≡ across a b + (across b c + across c a) = omega arith in
    let q : back a b c ≡ across b a + (across c b + across a c) = omega arith in
    shadow-parts a b c ∙ ap₂ (λ (m n : ℕ). pos m -ℤ pos n) p q

module _ (at : ℕ → Corner) where
  shadow-total : (l : List ℕ)
      → sum_of shadow_of at l ≡ pos (total (λ (s : Link). across (at s.tail) (at s.head)) (links l)) -ℤ pos (total (λ (s : Link). across (at s.head) (at s.tail)) (links l))
  unfolding sum_of links total
  shadow-total [] = refl
  shadow-total (i ∷ []) = refl
  shadow-total (i ∷ j ∷ []) = refl
  shadow-total (i ∷ j ∷ k ∷ is) =
      let a = at i in
      let b = at j in
      let c = at k in
      let s : ℕ = total (λ (s : Link). across (at s.tail) (at s.head)) (links is) in
      let t : ℕ = total (λ (s : Link). across (at s.head) (at s.tail)) (links is) in
      ap₂ ◌+ℤ◌ (shadow-sides a b c) (shadow-total is)
      ∙ sym (minus_plus (across a b + (across b c + across c a)) (across b a + (across c b + across a c)) s t)
      ∙ ap₂ (λ (m n : ℕ). pos m -ℤ pos n) (grouped at (across a b) (across b c) (across c a) s) (grouped at (across b a) (across c b) (across a c) t)

  -- what faces up and what faces down cancel
  pub even-shadow : (l : List ℕ) → Even (links l) → sum_of shadow_of at l ≡ pos 0
  even-shadow l even =
      let t : ℕ = total (λ (s : Link). across (at s.head) (at s.tail)) (links l) in
      shadow-total l ∙ ap (λ (n : ℕ). pos n -ℤ pos t) (even-total (λ (i j : ℕ). across (at i) (at j)) (links l) even) ∙ +ℤ_invr (pos t)

pub pillars-sixfold : (p : List Float) (i : List ℕ) → Even (links i) → pillars p 0 i ≡ sixfold p i
pillars-sixfold p i even = ap (λ (at : ℕ → Corner). sum_of pillar_of at i) (from_zero p) ∙ even-agree (corner_at p) i even

-- ---- the answers of the two calls

-- a call of the weighing and one of the volume on the same lists, both answered 0
pub record BothWeigh (t : Told) (v : Volumed) : Type 0 where
  pub first : t.first ≡ 0
  pub positions : t.positions ≡ v.positions
  pub indices : t.indices ≡ v.indices
  pub weighed : t.says.answer ≡ 0
  pub volumed : v.says.answer ≡ 0

pub both-agree : (t : Told) (v : Volumed) → BothWeigh t v → Even (links v.indices) → sum_in t.says ≡ v.says.volume
both-agree t v b even =
    let p = v.positions in
    let i = v.indices in
    let e : t.says ≡ weight p 0 i = t.told ∙ (λ k. weight (b.positions k) (b.first k) (b.indices k)) in
    ap sum_in e
    ∙ sum_told p 0 i (sym (ap (λ (w : Answer). w.answer) e) ∙ b.weighed)
    ∙ pillars-sixfold p i even
    ∙ sym (ap (λ (w : Weighed). w.volume) (v.told ∙ weighs p i (accepted p i (sym (ap (λ (w : Weighed). w.answer) v.told) ∙ b.volumed))))

-- the mesher's own mesh, under request 8's premise: any flags
pub own-mesh-agree : (u : Served) (t : Told) (v : Volumed) → Done u → Enclosed u.call.grid u.call.box → v.positions ≡ positions_of u → v.indices ≡ indices_of u
    → BothWeigh t v → sum_in t.says ≡ v.says.volume
own-mesh-agree u t v d h p i b =
    both-agree t v b
    (subst (λ (l : List ℕ). Even (links l)) (sym (i ∙ indices-back u d)) (skin-law u.call.grid u.call.box u.call.flags h))
