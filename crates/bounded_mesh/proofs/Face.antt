-- The face of a grid edge with the edge's two ends, in coordinates that begin along the edge: the pyramid from the low end lies between -256³ and 256 times
-- twice the face's area, 256³ more; and the pyramids from the two ends make 256 times twice the area together. Assumes nothing.
use Prim.Native.Nat.{ℕ, ◌+◌, ◌*◌, ◌≤◌}
use native.Mathlib.Nat.{mul-add, mul-le-mul}
use native.Mathlib.Omega.{arith}
use mathlib.Core.Bool.{Bool, true, false}
use mathlib.Core.Path.{◌≡◌, sym, ap, ap₂, subst, ◌∙◌}
use Rattle.volume.specs.declared.Corner.{Corner}
use Rattle.volume.specs.Volume.{corner, falling}
use Rattle.bounded_mesh.specs.Round.{away, quad_fall, quad_rise, sides, sides_back}
use Rattle.bounded_mesh.proofs.Pyramid.{high-high, low-low, high-low, low-high, plus, triangle, one_side, both-sides, within}

-- ---- seen along the edge

abbrev seen : Corner → Corner → Corner → ℕ
seen p u w = plus p.y p.z u.y u.z w.y w.z

-- from the low end: the products that fall and the sides turned back, against those that rise and the sides
pub record Between (f r : ℕ) (a : ℕ) : Type 0 where
  pub low : r ≤ f + 16777216
  pub high : f ≤ r + 256 * a + 16777216

-- a face that is cut from w1 to w4, its corners in the order w1 w2 w4 w3
module _ (p w1 w2 w3 w4 : Corner) (h1 h2 h3 h4 k12 k24 k43 k31 k m : ℕ) (x1 : w1.x ≡ p.x + h1) (x2 : w2.x ≡ p.x + h2) (x3 : w3.x ≡ p.x + h3) (x4 : w4.x ≡ p.x + h4)
    (e12 : seen p w1 w2 ≡ seen p w2 w1 + k12) (e24 : seen p w2 w4 ≡ seen p w4 w2 + k24) (e43 : seen p w4 w3 ≡ seen p w3 w4 + k43) (e31 : seen p w3 w1 ≡ seen p w1 w3 + k31)
    (e14 : seen p w1 w4 + m ≡ seen p w4 w1 + k) (l1 : h1 ≤ 256) (l2 : h2 ≤ 256) (l3 : h3 ≤ 256) (l4 : h4 ≤ 256) (lk : k ≤ 65536) (lm : m ≤ 65536) where
  abbrev at : ℕ → Corner → Corner
  at h w = corner (p.x + h) w.y w.z

  abbrev Says : Corner → Corner → Corner → ℕ → ℕ → ℕ → Type 0
  Says u v w h h' h'' =
      falling u v w + (falling p v u + falling p w v + falling p u w) + (h * seen p w v + h' * seen p u w + h'' * seen p v u)
      ≡ falling u w v + (falling p w u + falling p v w + falling p u v) + (h * seen p v w + h' * seen p w u + h'' * seen p u v)

  same : (h : ℕ) (w : Corner) → w.x ≡ p.x + h → at h w ≡ w
  same h w e = λ i. corner (sym e i) w.y w.z

  one-triangle : (u v w : Corner) (h h' h'' : ℕ) → u.x ≡ p.x + h → v.x ≡ p.x + h' → w.x ≡ p.x + h'' → Says u v w h h' h''
  one-triangle u v w h h' h'' e e' e'' =
      subst (λ (t : Corner). Says t v w h h' h'') (same h u e)
      (subst (λ (t : Corner). Says (at h u) t w h h' h'') (same h' v e')
      (subst (λ (t : Corner). Says (at h u) (at h' v) t h h' h'') (same h'' w e'')
      (triangle p.x p.y p.z h u.y u.z h' v.y v.z h'' w.y w.z)))

  first : falling w1 w2 w4 + (falling p w2 w1 + falling p w4 w2 + falling p w1 w4) + h2 * seen p w1 w4
      ≡ falling w1 w4 w2 + (falling p w4 w1 + falling p w2 w4 + falling p w1 w2) + (h1 * k24 + h2 * seen p w4 w1 + h4 * k12)
  first =
      one_side (falling w1 w2 w4 + (falling p w2 w1 + falling p w4 w2 + falling p w1 w4)) (falling w1 w4 w2 + (falling p w4 w1 + falling p w2 w4 + falling p w1 w2))
      h1 h2 h4 (seen p w4 w2) (seen p w2 w1) k24 k12 (seen p w1 w4) (seen p w4 w1)
      (one-triangle w1 w2 w4 h1 h2 h4 x1 x2 x4
      ∙ ap₂ (λ (n n' : ℕ). falling w1 w4 w2 + (falling p w4 w1 + falling p w2 w4 + falling p w1 w2) + (h1 * n + h2 * seen p w4 w1 + h4 * n')) e24 e12)

  last-two : (n a b c : ℕ) → n + (a + b + c) ≡ n + (a + c + b)
  last-two n a b c = omega arith

  second : falling w1 w4 w3 + (falling p w4 w1 + falling p w3 w4 + falling p w1 w3) + h3 * seen p w4 w1
      ≡ falling w1 w3 w4 + (falling p w3 w1 + falling p w4 w3 + falling p w1 w4) + (h1 * k43 + h3 * seen p w1 w4 + h4 * k31)
  second =
      one_side (falling w1 w4 w3 + (falling p w4 w1 + falling p w3 w4 + falling p w1 w3)) (falling w1 w3 w4 + (falling p w3 w1 + falling p w4 w3 + falling p w1 w4))
      h1 h3 h4 (seen p w3 w4) (seen p w1 w3) k43 k31 (seen p w4 w1) (seen p w1 w4)
      (last-two (falling w1 w4 w3 + (falling p w4 w1 + falling p w3 w4 + falling p w1 w3)) (h1 * seen p w3 w4) (h3 * seen p w4 w1) (h4 * seen p w1 w3)
      ∙ one-triangle w1 w4 w3 h1 h4 h3 x1 x4 x3
      ∙ last-two (falling w1 w3 w4 + (falling p w3 w1 + falling p w4 w3 + falling p w1 w4)) (h1 * seen p w4 w3) (h4 * seen p w3 w1) (h3 * seen p w1 w4)
      ∙ ap₂ (λ (n n' : ℕ). falling w1 w3 w4 + (falling p w3 w1 + falling p w4 w3 + falling p w1 w4) + (h1 * n + h3 * seen p w1 w4 + h4 * n')) e43 e31)

  times : (h : ℕ) → h * seen p w1 w4 + h * m ≡ h * seen p w4 w1 + h * k
  times h = sym (mul-add h (seen p w1 w4) m) ∙ ap (λ (n : ℕ). h * n) e14 ∙ mul-add h (seen p w4 w1) k

  pub pyramid : Between (falling w1 w2 w4 + falling w1 w4 w3 + (falling p w2 w1 + falling p w4 w2 + falling p w3 w4 + falling p w1 w3))
      (falling w1 w4 w2 + falling w1 w3 w4 + (falling p w1 w2 + falling p w2 w4 + falling p w4 w3 + falling p w3 w1)) (k12 + k24 + k43 + k31)
  pyramid =
      let f : ℕ = falling w1 w2 w4 + falling w1 w4 w3 + (falling p w2 w1 + falling p w4 w2 + falling p w3 w4 + falling p w1 w3) in
      let r : ℕ = falling w1 w4 w2 + falling w1 w3 w4 + (falling p w1 w2 + falling p w2 w4 + falling p w4 w3 + falling p w3 w1) in
      let w = within f r h1 h2 h3 h4 k12 k24 k43 k31 k m l1 l2 l3 l4 lk lm
      (both-sides (falling w1 w2 w4) (falling w1 w4 w2) (falling w1 w4 w3) (falling w1 w3 w4) (falling p w1 w2) (falling p w2 w1) (falling p w2 w4) (falling p w4 w2)
      (falling p w4 w3) (falling p w3 w4) (falling p w3 w1) (falling p w1 w3) (falling p w1 w4) (falling p w4 w1) (h2 * seen p w1 w4) (h2 * seen p w4 w1) (h3 * seen p w1 w4)
      (h3 * seen p w4 w1) (h2 * m) (h2 * k) (h3 * m) (h3 * k) (h1 * k24) (h4 * k12) (h1 * k43) (h4 * k31) first second (times h2) (times h3)) in
      record { low = w.0; high = w.1 }

-- ---- the four quadrants round the edge

-- at most a cell's side above, and below
abbrev pub Above : ℕ → ℕ → Type 0
Above m n = (n ≤ m) × (m ≤ n + 256)

abbrev pub Below : ℕ → ℕ → Type 0
Below m n = (m ≤ n) × (n ≤ m + 256)

-- v1 to v4 stand between the ends along the edge, and each in its own cell round it
pub record Cells (p v1 v2 v3 v4 : Corner) : Type 0 where
  pub x1 : Above v1.x p.x
  pub x2 : Above v2.x p.x
  pub x3 : Above v3.x p.x
  pub x4 : Above v4.x p.x
  pub y1 : Above v1.y p.y
  pub z1 : Above v1.z p.z
  pub y2 : Below v2.y p.y
  pub z2 : Above v2.z p.z
  pub y3 : Above v3.y p.y
  pub z3 : Below v3.z p.z
  pub y4 : Below v4.y p.y
  pub z4 : Below v4.z p.z

above-is : (m n : ℕ) → Above m n → m ≡ n + away m n
above-is m n h = omega (arith, h.0, h.1)

below-is : (m n : ℕ) → Below m n → n ≡ m + away m n
below-is m n h = omega (arith, h.0, h.1)

above_most : (m n : ℕ) → Above m n → away m n ≤ 256
above_most m n h = omega (arith, h.0, h.1)

below-most : (m n : ℕ) → Below m n → away m n ≤ 256
below-most m n h = omega (arith, h.0, h.1)

-- the cross product of two neighbours as seen from the edge
abbrev turn : Corner → Corner → Corner → ℕ
turn p u w = away u.y p.y * away w.z p.z + away u.z p.z * away w.y p.y

abbrev pub area_seen : Corner → Corner → Corner → Corner → Corner → ℕ
area_seen p v1 v2 v3 v4 = turn p v1 v2 + turn p v2 v4 + turn p v4 v3 + turn p v3 v1

-- what the face of an edge from p to q weighs, cut either way
pub record Weighs (s : Bool) (p q v1 v2 v3 v4 : Corner) (area : ℕ) : Type 0 where
  pub low : quad_rise s v1 v2 v3 v4 + sides p v1 v2 v3 v4 ≤ quad_fall s v1 v2 v3 v4 + sides_back p v1 v2 v3 v4 + 16777216
  pub high : quad_fall s v1 v2 v3 v4 + sides_back p v1 v2 v3 v4 ≤ quad_rise s v1 v2 v3 v4 + sides p v1 v2 v3 v4 + 256 * area + 16777216
  pub ends : sides_back p v1 v2 v3 v4 + sides q v1 v2 v3 v4 ≡ sides p v1 v2 v3 v4 + sides_back q v1 v2 v3 v4 + 256 * area

same-plus : (β γ b c b' c' w x y z : ℕ) → b * c' + β * γ ≡ β * c' + b * γ + w * z → b' * c + β * γ + x * y ≡ β * c + b' * γ
    → plus β γ b c b' c' ≡ plus β γ b' c' b c + (w * z + y * x)
same-plus β γ b c b' c' w x y z e f = omega arith

opposite : (β γ b c b' c' w x y z : ℕ) → b * c' + β * γ + w * z ≡ β * c' + b * γ → b' * c + β * γ + x * y ≡ β * c + b' * γ
    → plus β γ b c b' c' + w * z ≡ plus β γ b' c' b c + y * x
opposite β γ b c b' c' w x y z e f = omega arith

opposite-too : (β γ b c b' c' w x y z : ℕ) → b * c' + β * γ ≡ β * c' + b * γ + w * z → b' * c + β * γ ≡ β * c + b' * γ + x * y
    → plus β γ b c b' c' + x * y ≡ plus β γ b' c' b c + w * z
opposite-too β γ b c b' c' w x y z e f = omega arith

-- the sides begun at another corner
rolled : (f f' r r' b21 b42 b34 b13 s12 s24 s43 s31 k12 k24 k43 k31 : ℕ) → Between (f + f' + (b42 + b34 + b13 + b21)) (r + r' + (s24 + s43 + s31 + s12)) (k24 + k43 + k31 + k12)
    → Between (f + f' + (b21 + b42 + b34 + b13)) (r + r' + (s12 + s24 + s43 + s31)) (k12 + k24 + k43 + k31)
rolled f f' r r' b21 b42 b34 b13 s12 s24 s43 s31 k12 k24 k43 k31 h = record { low = omega (arith, h.low); high = omega (arith, h.high) }

cycle : (β γ b1 c1 b2 c2 b3 c3 b4 c4 k12 k24 k43 k31 : ℕ)
    → plus β γ b1 c1 b2 c2 ≡ plus β γ b2 c2 b1 c1 + k12 → plus β γ b2 c2 b4 c4 ≡ plus β γ b4 c4 b2 c2 + k24
    → plus β γ b4 c4 b3 c3 ≡ plus β γ b3 c3 b4 c4 + k43 → plus β γ b3 c3 b1 c1 ≡ plus β γ b1 c1 b3 c3 + k31
    → b1 * c2 + b2 * c4 + b4 * c3 + b3 * c1 ≡ b2 * c1 + b4 * c2 + b3 * c4 + b1 * c3 + (k12 + k24 + k43 + k31)
cycle β γ b1 c1 b2 c2 b3 c3 b4 c4 k12 k24 k43 k31 e12 e24 e43 e31 = omega arith

ends-are : (p12 p24 p43 p31 p21 p42 p34 p13 q12 q24 q43 q31 q21 q42 q34 q13 m12 m24 m43 m31 m21 m42 m34 m13 a : ℕ)
    → q12 ≡ p12 + 256 * m12 → q24 ≡ p24 + 256 * m24 → q43 ≡ p43 + 256 * m43 → q31 ≡ p31 + 256 * m31
    → q21 ≡ p21 + 256 * m21 → q42 ≡ p42 + 256 * m42 → q34 ≡ p34 + 256 * m34 → q13 ≡ p13 + 256 * m13
    → m12 + m24 + m43 + m31 ≡ m21 + m42 + m34 + m13 + a
    → p21 + p42 + p34 + p13 + (q12 + q24 + q43 + q31) ≡ p12 + p24 + p43 + p31 + (q21 + q42 + q34 + q13) + 256 * a
ends-are p12 p24 p43 p31 p21 p42 p34 p13 q12 q24 q43 q31 q21 q42 q34 q13 m12 m24 m43 m31 m21 m42 m34 m13 a e1 e2 e3 e4 e5 e6 e7 e8 e9 = omega arith

module _ (p v1 v2 v3 v4 : Corner) (c : Cells p v1 v2 v3 v4) where
  abbrev Y : Corner → ℕ
  Y u = away u.y p.y

  abbrev Z : Corner → ℕ
  Z u = away u.z p.z

  t12 : seen p v1 v2 ≡ seen p v2 v1 + turn p v1 v2
  t12 =
      same-plus p.y p.z v1.y v1.z v2.y v2.z (Y v1) (Y v2) (Z v1) (Z v2)
      (high-high p.y p.z v1.y v2.z (Y v1) (Z v2) (above-is v1.y p.y c.y1) (above-is v2.z p.z c.z2))
      (low-high p.y p.z v2.y v1.z (Y v2) (Z v1) (below-is v2.y p.y c.y2) (above-is v1.z p.z c.z1))

  t24 : seen p v2 v4 ≡ seen p v4 v2 + turn p v2 v4
  t24 =
      same-plus p.y p.z v2.y v2.z v4.y v4.z (Y v2) (Y v4) (Z v2) (Z v4)
      (low-low p.y p.z v2.y v4.z (Y v2) (Z v4) (below-is v2.y p.y c.y2) (below-is v4.z p.z c.z4))
      (low-high p.y p.z v4.y v2.z (Y v4) (Z v2) (below-is v4.y p.y c.y4) (above-is v2.z p.z c.z2))

  t43 : seen p v4 v3 ≡ seen p v3 v4 + turn p v4 v3
  t43 =
      same-plus p.y p.z v4.y v4.z v3.y v3.z (Y v4) (Y v3) (Z v4) (Z v3)
      (low-low p.y p.z v4.y v3.z (Y v4) (Z v3) (below-is v4.y p.y c.y4) (below-is v3.z p.z c.z3))
      (high-low p.y p.z v3.y v4.z (Y v3) (Z v4) (above-is v3.y p.y c.y3) (below-is v4.z p.z c.z4))

  t31 : seen p v3 v1 ≡ seen p v1 v3 + turn p v3 v1
  t31 =
      same-plus p.y p.z v3.y v3.z v1.y v1.z (Y v3) (Y v1) (Z v3) (Z v1)
      (high-high p.y p.z v3.y v1.z (Y v3) (Z v1) (above-is v3.y p.y c.y3) (above-is v1.z p.z c.z1))
      (high-low p.y p.z v1.y v3.z (Y v1) (Z v3) (above-is v1.y p.y c.y1) (below-is v3.z p.z c.z3))

  t14 : seen p v1 v4 + Y v1 * Z v4 ≡ seen p v4 v1 + Z v1 * Y v4
  t14 =
      opposite p.y p.z v1.y v1.z v4.y v4.z (Y v1) (Y v4) (Z v1) (Z v4)
      (high-low p.y p.z v1.y v4.z (Y v1) (Z v4) (above-is v1.y p.y c.y1) (below-is v4.z p.z c.z4))
      (low-high p.y p.z v4.y v1.z (Y v4) (Z v1) (below-is v4.y p.y c.y4) (above-is v1.z p.z c.z1))

  t23 : seen p v2 v3 + Y v3 * Z v2 ≡ seen p v3 v2 + Y v2 * Z v3
  t23 =
      opposite-too p.y p.z v2.y v2.z v3.y v3.z (Y v2) (Y v3) (Z v2) (Z v3)
      (low-low p.y p.z v2.y v3.z (Y v2) (Z v3) (below-is v2.y p.y c.y2) (below-is v3.z p.z c.z3))
      (high-high p.y p.z v3.y v2.z (Y v3) (Z v2) (above-is v3.y p.y c.y3) (above-is v2.z p.z c.z2))

  abbrev X : Corner → ℕ
  X u = away u.x p.x

  cut14 : Between (quad_fall true v1 v2 v3 v4 + sides_back p v1 v2 v3 v4) (quad_rise true v1 v2 v3 v4 + sides p v1 v2 v3 v4) (area_seen p v1 v2 v3 v4)
  unfolding quad_fall quad_rise sides sides_back
  cut14 =
      pyramid p v1 v2 v3 v4 (X v1) (X v2) (X v3) (X v4) (turn p v1 v2) (turn p v2 v4) (turn p v4 v3) (turn p v3 v1) (Z v1 * Y v4) (Y v1 * Z v4)
      (above-is v1.x p.x c.x1) (above-is v2.x p.x c.x2) (above-is v3.x p.x c.x3) (above-is v4.x p.x c.x4) t12 t24 t43 t31 t14
      (above_most v1.x p.x c.x1) (above_most v2.x p.x c.x2) (above_most v3.x p.x c.x3) (above_most v4.x p.x c.x4)
      (mul-le-mul (above_most v1.z p.z c.z1) (below-most v4.y p.y c.y4)) (mul-le-mul (above_most v1.y p.y c.y1) (below-most v4.z p.z c.z4))

  cut23 : Between (quad_fall false v1 v2 v3 v4 + sides_back p v1 v2 v3 v4) (quad_rise false v1 v2 v3 v4 + sides p v1 v2 v3 v4) (area_seen p v1 v2 v3 v4)
  unfolding quad_fall quad_rise sides sides_back
  cut23 =
      rolled (falling v2 v4 v3) (falling v2 v3 v1) (falling v2 v3 v4) (falling v2 v1 v3) (falling p v2 v1) (falling p v4 v2) (falling p v3 v4) (falling p v1 v3)
      (falling p v1 v2) (falling p v2 v4) (falling p v4 v3) (falling p v3 v1) (turn p v1 v2) (turn p v2 v4) (turn p v4 v3) (turn p v3 v1)
      (pyramid p v2 v4 v1 v3 (X v2) (X v4) (X v1) (X v3) (turn p v2 v4) (turn p v4 v3) (turn p v3 v1) (turn p v1 v2) (Y v2 * Z v3) (Y v3 * Z v2)
      (above-is v2.x p.x c.x2) (above-is v4.x p.x c.x4) (above-is v1.x p.x c.x1) (above-is v3.x p.x c.x3) t24 t43 t31 t12 t23
      (above_most v2.x p.x c.x2) (above_most v4.x p.x c.x4) (above_most v1.x p.x c.x1) (above_most v3.x p.x c.x3)
      (mul-le-mul (below-most v2.y p.y c.y2) (below-most v3.z p.z c.z3)) (mul-le-mul (above_most v3.y p.y c.y3) (above_most v2.z p.z c.z2)))

  cut : (s : Bool) → Between (quad_fall s v1 v2 v3 v4 + sides_back p v1 v2 v3 v4) (quad_rise s v1 v2 v3 v4 + sides p v1 v2 v3 v4) (area_seen p v1 v2 v3 v4)
  cut true = cut14
  cut false = cut23

  abbrev q : Corner
  q = corner (p.x + 256) p.y p.z

  step : (u w : Corner) → falling q u w ≡ falling p u w + 256 * (u.y * w.z)
  step u w = omega arith

  area-is : v1.y * v2.z + v2.y * v4.z + v4.y * v3.z + v3.y * v1.z ≡ v2.y * v1.z + v4.y * v2.z + v3.y * v4.z + v1.y * v3.z + area_seen p v1 v2 v3 v4
  area-is = cycle p.y p.z v1.y v1.z v2.y v2.z v3.y v3.z v4.y v4.z (turn p v1 v2) (turn p v2 v4) (turn p v4 v3) (turn p v3 v1) t12 t24 t43 t31

  both_ends : sides_back p v1 v2 v3 v4 + sides q v1 v2 v3 v4 ≡ sides p v1 v2 v3 v4 + sides_back q v1 v2 v3 v4 + 256 * area_seen p v1 v2 v3 v4
  unfolding sides sides_back
  both_ends =
      ends-are (falling p v1 v2) (falling p v2 v4) (falling p v4 v3) (falling p v3 v1) (falling p v2 v1) (falling p v4 v2) (falling p v3 v4) (falling p v1 v3)
      (falling q v1 v2) (falling q v2 v4) (falling q v4 v3) (falling q v3 v1) (falling q v2 v1) (falling q v4 v2) (falling q v3 v4) (falling q v1 v3)
      (v1.y * v2.z) (v2.y * v4.z) (v4.y * v3.z) (v3.y * v1.z) (v2.y * v1.z) (v4.y * v2.z) (v3.y * v4.z) (v1.y * v3.z) (area_seen p v1 v2 v3 v4)
      (step v1 v2) (step v2 v4) (step v4 v3) (step v3 v1) (step v2 v1) (step v4 v2) (step v3 v4) (step v1 v3) area-is

  pub face-weighs : (s : Bool) → Weighs s p (corner (p.x + 256) p.y p.z) v1 v2 v3 v4 (area_seen p v1 v2 v3 v4)
  face-weighs s = record { low = (cut s).low; high = (cut s).high; ends = both_ends }
