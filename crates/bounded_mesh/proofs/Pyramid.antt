-- A pyramid over the face of a grid edge, from the edge's low end, as bare numbers: a whole that is never below zero, give or take 256³.
-- Each number with a sign is said as the products that count plus and those that count minus. Assumes nothing.
use Prim.Native.Nat.{ℕ, ◌+◌, ◌-◌, ◌*◌, ◌≤◌}
use native.Mathlib.Nat.{mul-le-mul, mul-le-mul_right}
use native.Mathlib.Omega.{arith}
use mathlib.Core.Logic.{inl, inr}
use mathlib.Core.Path.{◌≡◌, sym, ap, ap₂, ◌∙◌}
use Rattle.lists.proofs.Tests.{less-or-not}

-- ---- products of two distances from a point

module _ (β γ b c x y : ℕ) where
  -- both above the point
  pub high-high : b ≡ β + x → c ≡ γ + y → b * c + β * γ ≡ β * c + b * γ + x * y
  high-high e f = rw (e, f) (omega arith)

  pub low-low : β ≡ b + x → γ ≡ c + y → b * c + β * γ ≡ β * c + b * γ + x * y
  low-low e f = rw (e, f) (omega arith)

  -- one above and one below
  pub high-low : b ≡ β + x → γ ≡ c + y → b * c + β * γ + x * y ≡ β * c + b * γ
  high-low e f = rw (e, f) (omega arith)

  pub low-high : β ≡ b + x → c ≡ γ + y → b * c + β * γ + x * y ≡ β * c + b * γ
  low-high e f = rw (e, f) (omega arith)

-- ---- the cross product of two corners as seen from a point

-- the products that count plus: those that count minus are those of the two corners the other way round
abbrev pub plus : ℕ → ℕ → ℕ → ℕ → ℕ → ℕ → ℕ
plus β γ b c b' c' = b * c' + c * β + b' * γ

-- the determinant's products that fall, of three corners by their coordinates
abbrev pub fall : ℕ → ℕ → ℕ → ℕ → ℕ → ℕ → ℕ → ℕ → ℕ → ℕ
fall a b c a' b' c' a'' b'' c'' = a * b' * c'' + b * c' * a'' + c * a' * b''

-- by how far the three lie along the edge
fall-by : (a b c a' b' c' a'' b'' c'' : ℕ) → fall a b c a' b' c' a'' b'' c'' ≡ a * (b' * c'') + a' * (b'' * c) + a'' * (b * c')
fall-by a b c a' b' c' a'' b'' c'' = omega arith

fall-point : (α β γ a b c a' b' c' : ℕ) → fall α β γ a b c a' b' c' ≡ α * (b * c') + a * (b' * γ) + a' * (c * β)
fall-point α β γ a b c a' b' c' = omega arith

gather : (α a1 a2 a3 x1 y1 z1 x2 y2 z2 x3 y3 z3 e1 e2 e3 : ℕ)
    → a1 * x1 + a2 * x2 + a3 * x3 + ((α * e1 + a2 * z2 + a1 * y1) + (α * e2 + a3 * z3 + a2 * y2) + (α * e3 + a1 * z1 + a3 * y3))
    ≡ a1 * (x1 + y1 + z1) + a2 * (x2 + y2 + z2) + a3 * (x3 + y3 + z3) + α * (e1 + e2 + e3)
gather α a1 a2 a3 x1 y1 z1 x2 y2 z2 x3 y3 z3 e1 e2 e3 = omega arith

-- a triangle u v w, and those of its three sides turned back with the point α β γ
fall-back : (α β γ a1 b1 c1 a2 b2 c2 a3 b3 c3 : ℕ) → fall a1 b1 c1 a2 b2 c2 a3 b3 c3
    + (fall α β γ a2 b2 c2 a1 b1 c1 + fall α β γ a3 b3 c3 a2 b2 c2 + fall α β γ a1 b1 c1 a3 b3 c3)
    ≡ a1 * plus β γ b2 c2 b3 c3 + a2 * plus β γ b3 c3 b1 c1 + a3 * plus β γ b1 c1 b2 c2 + α * (b2 * c1 + b3 * c2 + b1 * c3)
fall-back α β γ a1 b1 c1 a2 b2 c2 a3 b3 c3 =
    ap₂ ◌+◌ (fall-by a1 b1 c1 a2 b2 c2 a3 b3 c3)
    (ap₂ ◌+◌ (ap₂ ◌+◌ (fall-point α β γ a2 b2 c2 a1 b1 c1) (fall-point α β γ a3 b3 c3 a2 b2 c2)) (fall-point α β γ a1 b1 c1 a3 b3 c3))
    ∙ gather α a1 a2 a3 (b2 * c3) (c2 * β) (b3 * γ) (b3 * c1) (c3 * β) (b1 * γ) (b1 * c2) (c1 * β) (b2 * γ) (b2 * c1) (b3 * c2) (b1 * c3)

weighed : (α h1 h2 h3 p1 p2 p3 l1 l2 l3 d e : ℕ) → p1 + p2 + p3 + e ≡ l1 + l2 + l3 + d
    → (α + h1) * p1 + (α + h2) * p2 + (α + h3) * p3 + α * e + (h1 * l1 + h2 * l2 + h3 * l3) ≡ (α + h1) * l1 + (α + h2) * l2 + (α + h3) * l3 + α * d + (h1 * p1 + h2 * p2 + h3 * p3)
weighed α h1 h2 h3 p1 p2 p3 l1 l2 l3 d e s = let t : α * (p1 + p2 + p3 + e) ≡ α * (l1 + l2 + l3 + d) = ap (λ (n : ℕ). α * n) s in omega arith

balance : (β γ b1 c1 b2 c2 b3 c3 : ℕ)
    → plus β γ b2 c2 b3 c3 + plus β γ b3 c3 b1 c1 + plus β γ b1 c1 b2 c2 + (b2 * c1 + b3 * c2 + b1 * c3)
    ≡ plus β γ b3 c3 b2 c2 + plus β γ b1 c1 b3 c3 + plus β γ b2 c2 b1 c1 + (b3 * c1 + b2 * c3 + b1 * c2)
balance β γ b1 c1 b2 c2 b3 c3 = omega arith

order : (x y z w : ℕ) → x + z + y + w ≡ x + y + z + w
order x y z w = omega arith

-- a triangle's determinant, by the cross products of its corners as seen from the point α β γ, each above α by h
module _ (α β γ h1 b1 c1 h2 b2 c2 h3 b3 c3 : ℕ) where
  pub triangle : fall (α + h1) b1 c1 (α + h2) b2 c2 (α + h3) b3 c3
      + (fall α β γ (α + h2) b2 c2 (α + h1) b1 c1 + fall α β γ (α + h3) b3 c3 (α + h2) b2 c2 + fall α β γ (α + h1) b1 c1 (α + h3) b3 c3)
      + (h1 * plus β γ b3 c3 b2 c2 + h2 * plus β γ b1 c1 b3 c3 + h3 * plus β γ b2 c2 b1 c1)
      ≡ fall (α + h1) b1 c1 (α + h3) b3 c3 (α + h2) b2 c2
      + (fall α β γ (α + h3) b3 c3 (α + h1) b1 c1 + fall α β γ (α + h2) b2 c2 (α + h3) b3 c3 + fall α β γ (α + h1) b1 c1 (α + h2) b2 c2)
      + (h1 * plus β γ b2 c2 b3 c3 + h2 * plus β γ b3 c3 b1 c1 + h3 * plus β γ b1 c1 b2 c2)
  triangle =
      ap (λ (n : ℕ). n + (h1 * p32 + h2 * p13 + h3 * p21)) (fall-back α β γ (α + h1) b1 c1 (α + h2) b2 c2 (α + h3) b3 c3)
      ∙ weighed α h1 h2 h3 p23 p31 p12 p32 p13 p21 (b3 * c1 + b2 * c3 + b1 * c2) (b2 * c1 + b3 * c2 + b1 * c3) (balance β γ b1 c1 b2 c2 b3 c3)
      ∙ ap (λ (n : ℕ). n + (h1 * p23 + h2 * p31 + h3 * p12))
      (sym (fall-back α β γ (α + h1) b1 c1 (α + h3) b3 c3 (α + h2) b2 c2 ∙ order ((α + h1) * p32) ((α + h2) * p13) ((α + h3) * p21) (α * (b3 * c1 + b2 * c3 + b1 * c2))))
    where
      p12 : ℕ
      p12 = plus β γ b1 c1 b2 c2

      p23 : ℕ
      p23 = plus β γ b2 c2 b3 c3

      p31 : ℕ
      p31 = plus β γ b3 c3 b1 c1

      p21 : ℕ
      p21 = plus β γ b2 c2 b1 c1

      p32 : ℕ
      p32 = plus β γ b3 c3 b2 c2

      p13 : ℕ
      p13 = plus β γ b1 c1 b3 c3

-- ---- the two triangles of a face

-- two of a triangle's corners by the cross products alone, the third as it is
pub one_side : (f r h h' h'' q q'' k k'' u v : ℕ) → f + (h * q + h' * u + h'' * q'') ≡ r + (h * (q + k) + h' * v + h'' * (q'' + k''))
    → f + h' * u ≡ r + (h * k + h' * v + h'' * k'')
one_side f r h h' h'' q q'' k k'' u v e = omega arith

pub both-sides : (f r f' r' s12 s21 s24 s42 s43 s34 s31 s13 s14 s41 u v u' v' d g d' g' a b a' b' : ℕ)
    → f + (s21 + s42 + s14) + u ≡ r + (s41 + s24 + s12) + (a + v + b) → f' + (s41 + s34 + s13) + v' ≡ r' + (s31 + s43 + s14) + (a' + u' + b') → u + d ≡ v + g → u' + d' ≡ v' + g'
    → f + f' + (s21 + s42 + s34 + s13) + (d' + g) ≡ r + r' + (s12 + s24 + s43 + s31) + (a + a' + (b + b')) + (g' + d)
both-sides f r f' r' s12 s21 s24 s42 s43 s34 s31 s13 s14 s41 u v u' v' d g d' g' a b a' b' e1 e2 e3 e4 = omega arith

-- two heights within 256 and two products within 256²: exchanged, they make a difference of at most 256³
pub swing : (h h' k m : ℕ) → h ≤ 256 → h' ≤ 256 → k ≤ 65536 → m ≤ 65536 → h' * m + h * k ≤ h' * k + h * m + 16777216
swing h h' k m l l' lk lm = elim (less-or-not h h') [ inl t ↦ lower (h' - h) (omega arith) (omega arith) | inr t ↦ upper (h - h') (omega arith) (omega arith) ]
  where
    lower : (d : ℕ) → h' ≡ h + d → d ≤ 256 → h' * m + h * k ≤ h' * k + h * m + 16777216
    lower d e t = let w : d * m ≤ 256 * 65536 = mul-le-mul t lm in rw e (omega arith)

    upper : (d : ℕ) → h ≡ h' + d → d ≤ 256 → h' * m + h * k ≤ h' * k + h * m + 16777216
    upper d e t = let w : d * k ≤ 256 * 65536 = mul-le-mul t lk in rw e (omega arith)

-- what is left, within bounds
pub within : (f r h1 h2 h3 h4 k12 k24 k43 k31 k m : ℕ) → h1 ≤ 256 → h2 ≤ 256 → h3 ≤ 256 → h4 ≤ 256 → k ≤ 65536 → m ≤ 65536
    → f + (h3 * m + h2 * k) ≡ r + (h1 * k24 + h1 * k43 + (h4 * k12 + h4 * k31)) + (h3 * k + h2 * m)
    → (r ≤ f + 16777216) × (f ≤ r + 256 * (k12 + k24 + k43 + k31) + 16777216)
within f r h1 h2 h3 h4 k12 k24 k43 k31 k m l1 l2 l3 l4 lk lm e =
    let s : h3 * m + h2 * k ≤ h3 * k + h2 * m + 16777216 = swing h2 h3 k m l2 l3 lk lm in
    let t : h3 * k + h2 * m ≤ h3 * m + h2 * k + 16777216 = swing h2 h3 m k l2 l3 lm lk in
    let a : h1 * k24 ≤ 256 * k24 = mul-le-mul_right k24 l1 in
    let b : h1 * k43 ≤ 256 * k43 = mul-le-mul_right k43 l1 in
    let c : h4 * k12 ≤ 256 * k12 = mul-le-mul_right k12 l4 in
    let d : h4 * k31 ≤ 256 * k31 = mul-le-mul_right k31 l4 in
    (omega arith, omega arith)
