-- A triangle's two terms as differences of natural numbers, as they are defined and as the code has them with their biases. Assumes nothing.
use Rattle.std.proofs.Common.{◌≡◌, ℕ, ◌+◌, ◌*◌, ◌^◌, ◌≤◌, false, ◌||◌, ltb, ℤ, pos, ◌-ℤ◌, ◌*ℤ◌, sym, ap, ◌∙◌, ap₂, arith, ltb-false}
use Rattle.lists.proofs.Either.{or_left, or_right}
use Rattle.volume.specs.declared.Corner.{Corner}
use Rattle.weigh.specs.Sums.{shadow_of, pillar_of}
use Rattle.weigh.specs.Answers.{apart, wide}
use Rattle.weigh.specs.Biased.{Low, Close}
use Rattle.weigh.proofs.Whole.{same-difference, minus_minus, scaled, times}

-- ---- as they are defined

-- the products along the triangle's sides, and against them
abbrev pub forth : Corner → Corner → Corner → ℕ
forth a b c = a.x * b.y + b.x * c.y + c.x * a.y

abbrev pub back : Corner → Corner → Corner → ℕ
back a b c = a.y * b.x + b.y * c.x + c.y * a.x

abbrev pub height : Corner → Corner → Corner → ℕ
height a b c = a.z + b.z + c.z

-- the difference of the two products, as numbers
module _ (ax ay bx by cx cy : ℕ) where
  crossed : (pos bx -ℤ pos ax) *ℤ (pos cy -ℤ pos ay) -ℤ (pos by -ℤ pos ay) *ℤ (pos cx -ℤ pos ax)
      ≡ pos ((bx * cy + ax * ay) + (by * ax + ay * cx)) -ℤ pos ((bx * ay + ax * cy) + (by * cx + ay * ax))
  crossed = ap₂ ◌-ℤ◌ (times bx ax cy ay) (times by ay cx ax) ∙ minus_minus (bx * cy + ax * ay) (bx * ay + ax * cy) (by * cx + ay * ax) (by * ax + ay * cx)

pub shadow-parts : (a b c : Corner) → shadow_of a b c ≡ pos (forth a b c) -ℤ pos (back a b c)
unfolding shadow_of
shadow-parts a b c =
    crossed a.x a.y b.x b.y c.x c.y
    ∙ same-difference ((b.x * c.y + a.x * a.y) + (b.y * a.x + a.y * c.x)) ((b.x * a.y + a.x * c.y) + (b.y * c.x + a.y * a.x))
    (forth a b c) (back a b c) (omega arith)

pub pillar-parts : (a b c : Corner) → pillar_of a b c ≡ pos (height a b c * forth a b c) -ℤ pos (height a b c * back a b c)
unfolding pillar_of
pillar-parts a b c = ap (λ (z : ℤ). pos (height a b c) *ℤ z) (shadow-parts a b c) ∙ scaled (height a b c) (forth a b c) (back a b c)

-- ---- with their biases

-- bx is b's x as seen from a's, and 512; and so on
module _ (a b c : Corner) (bx by cx cy : ℕ) (BX : bx + a.x ≡ b.x + 512) (BY : by + a.y ≡ b.y + 512) (CX : cx + a.x ≡ c.x + 512) (CY : cy + a.y ≡ c.y + 512) where
  pub shadow-biased : (r : ℕ) → r + by * cx + 512 * (bx + cy) ≡ bx * cy + 512 * (by + cx) + 2097152 → pos r -ℤ pos 2097152 ≡ shadow_of a b c
  unfolding shadow_of
  shadow-biased r e =
      let p : pos b.x -ℤ pos a.x ≡ pos bx -ℤ pos 512 = same-difference b.x a.x bx 512 (omega arith) in
      let q : pos b.y -ℤ pos a.y ≡ pos by -ℤ pos 512 = same-difference b.y a.y by 512 (omega arith) in
      let s : pos c.x -ℤ pos a.x ≡ pos cx -ℤ pos 512 = same-difference c.x a.x cx 512 (omega arith) in
      let t : pos c.y -ℤ pos a.y ≡ pos cy -ℤ pos 512 = same-difference c.y a.y cy 512 (omega arith) in
      sym
      ((λ i. p i *ℤ t i -ℤ q i *ℤ s i)
      ∙ crossed 512 512 bx by cx cy
      ∙ same-difference ((bx * cy + 512 * 512) + (by * 512 + 512 * cx)) ((bx * 512 + 512 * cy) + (by * cx + 512 * 512)) r 2097152 (omega arith))

pub pillar-biased : (a b c : Corner) (r s : ℕ) → pos s -ℤ pos (2 ^ 21) ≡ shadow_of a b c → r + height a b c * 2 ^ 21 ≡ height a b c * s + 2 ^ 55 → pos r -ℤ pos (2 ^ 55) ≡ pillar_of a b c
unfolding pillar_of
pillar-biased a b c r s e f =
    sym
    (ap (λ (z : ℤ). pos (height a b c) *ℤ z) (sym e)
    ∙ scaled (height a b c) s (2 ^ 21)
    ∙ same-difference (height a b c * s) (height a b c * 2 ^ 21) r (2 ^ 55) (sym f))

-- a term added to a sum
pub added : (t r p b : ℕ) → r ≡ t + p → pos r -ℤ pos (t + b) ≡ pos p -ℤ pos b
added t r p b e = same-difference r (t + b) p b (omega arith)

-- ---- a triangle that is not wide

pub near : (m n : ℕ) → apart m n ≡ false → n ≤ 2 ^ 32 → Close m n
near m n e h = record {
  up = ltb-false (m + 512) n (or_left (ltb (m + 512) n) (ltb (n + 512) m) e);
  down = ltb-false (n + 512) m (or_right (ltb (m + 512) n) (ltb (n + 512) m) e);
  low = h;
}

module _ (a b c : Corner) (narrow : wide a b c ≡ false) where
  first_two : (apart a.x b.x || apart a.y b.y) ≡ false
  first_two = or_left (apart a.x b.x || apart a.y b.y) (apart a.x c.x || apart a.y c.y) narrow

  last-two : (apart a.x c.x || apart a.y c.y) ≡ false
  last-two = or_right (apart a.x b.x || apart a.y b.y) (apart a.x c.x || apart a.y c.y) narrow

  pub near-bx : Low b → Close a.x b.x
  near-bx l = near a.x b.x (or_left (apart a.x b.x) (apart a.y b.y) first_two) l.x

  pub near_by : Low b → Close a.y b.y
  near_by l = near a.y b.y (or_right (apart a.x b.x) (apart a.y b.y) first_two) l.y

  pub near-cx : Low c → Close a.x c.x
  near-cx l = near a.x c.x (or_left (apart a.x c.x) (apart a.y c.y) last-two) l.x

  pub near-cy : Low c → Close a.y c.y
  near-cy l = near a.y c.y (or_right (apart a.x c.x) (apart a.y c.y) last-two) l.y
