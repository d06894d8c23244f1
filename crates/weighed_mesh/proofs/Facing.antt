-- No face faces the wrong way. By the closed-cell law the four vertices of a face lie in the four quadrants round its edge, and steps keep the order; so the
-- four go round, and the two triangles together have no area the wrong way. Over what a call wrote, for any flags. Assumes nothing.
use Prim.Native.Nat.{ℕ, zero, suc, ◌+◌, ◌-◌, ◌*◌, ◌≤◌, ◌<◌}
use native.Mathlib.Nat.{le-div_iff_mul-le, mul-le-mul_left, le_trans, le_of_eq, mul_comm, mul-zero, zero-mul, div-one}
use native.Mathlib.Omega.{arith}
use mathlib.Core.Bool.{Bool, true, false, not, cond}
use mathlib.Core.List.{map}
use mathlib.Core.Path.{◌≡◌, refl, sym, ap, ap₂, subst, ◌∙◌}
use lib.Dec.{T, ltb, leb-zero, ltb→lt}
use lib.IntN.{ℤ, pos, negsuc, neg_ℤ, ◌+ℤ◌, ◌-ℤ◌, ◌*ℤ◌, *ℤ_comm, neg_ℤ-neg_ℤ, +ℤ_comm, +ℤ_idl}
use lib.Signed.{◌≤ℤ◌}
use lib.Ieee.{Float, nan, inf, fin, up, down, binary32, fits}
use lib.Ieee.Bits.{is_true}
use lib.Ieee.Fits.{down_pos}
use lib.Ieee.Nearest.{div_mono}
use Rattle.rules.specs.Grid.{GridPoint, Axis, axis_x, axis_y, axis_z, Box, Field, along, index, in_box, value, step_down}
use Rattle.rules.specs.Cell.{Vector, negative}
use Rattle.rules.specs.Vertices.{vertex_position}
use Rattle.rules.specs.Faces.{Edge, Flags, axis_b, axis_c, gives, six, shorter, face_cells, cell1, cell2, cell3, cell4}
use Rattle.rules.specs.Call.{Call, room, bad_dimensions, bad_box, bad_distance}
use Rattle.rules.specs.Cutting.{face_of, corner_at, Corner as Seen}
use Rattle.lists.proofs.Lists.{All, all_then, all_map}
use Rattle.rules.proofs.Accepted.{Accepted}
use Rattle.rules.proofs.Indexes.{index_below}
use Rattle.rules.proofs.FourCells.{Four, Owned, owned-says, gives-owned}
use Rattle.rules.proofs.Edges.{edges-all}
use Rattle.rules.proofs.Numbers.{four-each}
use Rattle.rules.proofs.Seen.{seen-is}
use Rattle.cube.proofs.ClosedCell.{InCell, OnAxes}
use Rattle.cube.proofs.UnderCaps.{under-caps}
use Rattle.volume.specs.declared.Corner.{Corner}
use Rattle.volume.specs.Steps.{steps}
use Rattle.volume.proofs.Whole.{minus_plus, neg-minus}
use Rattle.promises.specs.Served.{Served, Done, piece_of, faces_read}
use Rattle.promises.proofs.Done.{done-accepts}
use Rattle.promises.proofs.ReadBack.{faces-back}
use Rattle.weighed_mesh.specs.Facing.{steps_of, on_axis, areas, GoesRound, vertex_steps, FacesOut}

-- ---- steps keep the order

-- a coordinate from n to n + 1 has from 256·n to 256·(n + 1) steps
pub steps-within : (n : ℕ) (x : Float) → InCell n x → (256 * n ≤ steps x) × (steps x ≤ 256 * (n + 1))
unfolding steps
steps-within n nan h = absurd h.0
steps-within n (inf s) h = absurd h.0
steps-within n (fin true m e) h = absurd h.0
steps-within n (fin false m e) h = (
  (le-div_iff_mul-le (down_pos e)).1 (omega (arith, mul-le-mul_left 256 h.1)),
  le_trans (div_mono (256 * (m * up e)) (down e) (256 * (n + 1)) 1 (down_pos e) (omega arith) (omega (arith, mul-le-mul_left 256 h.2))) (le_of_eq (div-one (256 * (n + 1)))),
)

-- ---- the quadrants, as natural numbers

-- b below β by x, and c below γ by y, and so on: each product as one of β and γ
low-low : (b x c y β γ : ℕ) → β ≡ b + x → γ ≡ c + y → b * c + β * y + x * γ ≡ β * γ + x * y
low-low b x c y β γ e f = rw (e, f) (omega arith)

low-high : (b x y β γ : ℕ) → β ≡ b + x → b * (γ + y) + x * γ + x * y ≡ β * γ + β * y
low-high b x y β γ e = rw e (omega arith)

high-low : (x c y β γ : ℕ) → γ ≡ c + y → (β + x) * c + β * y + x * y ≡ β * γ + x * γ
high-low x c y β γ e = rw e (omega arith)

high-high : (x y β γ : ℕ) → (β + x) * (γ + y) ≡ β * γ + β * y + x * γ + x * y
high-high x y β γ = omega arith

module _ (β γ x1 y1 b2 x2 y2 x3 c3 y3 b4 x4 c4 y4 : ℕ) (B2 : β ≡ b2 + x2) (B4 : β ≡ b4 + x4) (C3 : γ ≡ c3 + y3) (C4 : γ ≡ c4 + y4) where
  not-against : b2 * (γ + y1) + b4 * (γ + y2) + (β + x3) * c4 + (β + x1) * c3 ≤ (β + x1) * (γ + y2) + b2 * c4 + b4 * c3 + (β + x3) * (γ + y1)
  not-against =
      omega (
        arith,
        high-high x1 y2 β γ,
        low-high b2 x2 y1 β γ B2,
        low-low b2 x2 c4 y4 β γ B2 C4,
        low-high b4 x4 y2 β γ B4,
        low-low b4 x4 c3 y3 β γ B4 C3,
        high-low x3 c4 y4 β γ C4,
        high-high x3 y1 β γ,
        high-low x1 c3 y3 β γ C3,
      )

facing : (β γ b1 c1 b2 c2 b3 c3 b4 c4 : ℕ) → β ≤ b1 → γ ≤ c1 → b2 ≤ β → γ ≤ c2 → β ≤ b3 → c3 ≤ γ → b4 ≤ β → c4 ≤ γ
    → b2 * c1 + b4 * c2 + b3 * c4 + b1 * c3 ≤ b1 * c2 + b2 * c4 + b4 * c3 + b3 * c1
facing β γ b1 c1 b2 c2 b3 c3 b4 c4 h1 k1 h2 k2 h3 k3 h4 k4 =
    let e1 : β + (b1 - β) ≡ b1 = omega arith in
    let e2 : γ + (c1 - γ) ≡ c1 = omega arith in
    let e3 : γ + (c2 - γ) ≡ c2 = omega arith in
    let e4 : β + (b3 - β) ≡ b3 = omega arith in
    let f2 : β ≡ b2 + (β - b2) = omega arith in
    let f4 : β ≡ b4 + (β - b4) = omega arith in
    let g3 : γ ≡ c3 + (γ - c3) = omega arith in
    let g4 : γ ≡ c4 + (γ - c4) = omega arith in
    subst (λ (n : ℕ). b2 * c1 + b4 * c2 + b3 * c4 + n * c3 ≤ n * c2 + b2 * c4 + b4 * c3 + b3 * c1) e1
    (subst (λ (n : ℕ). b2 * n + b4 * c2 + b3 * c4 + (β + (b1 - β)) * c3 ≤ (β + (b1 - β)) * c2 + b2 * c4 + b4 * c3 + b3 * n) e2
    (subst (λ (n : ℕ). b2 * (γ + (c1 - γ)) + b4 * n + b3 * c4 + (β + (b1 - β)) * c3 ≤ (β + (b1 - β)) * n + b2 * c4 + b4 * c3 + b3 * (γ + (c1 - γ))) e3
    (subst (λ (n : ℕ). b2 * (γ + (c1 - γ)) + b4 * (γ + (c2 - γ)) + n * c4 + (β + (b1 - β)) * c3 ≤ (β + (b1 - β)) * (γ + (c2 - γ)) + b2 * c4 + b4 * c3 + n * (γ + (c1 - γ))) e4
    (not-against β γ (b1 - β) (c1 - γ) b2 (β - b2) (c2 - γ) (b3 - β) c3 (γ - c3) b4 (β - b4) c4 (γ - c4) f2 f4 g3 g4))))

-- ---- signs

not-below : (k : ℕ) → pos 0 ≤ℤ pos k
not-below k = record { le = subst T (sym (leb-zero k)) tt }

above-by : (b x : ℕ) → pos (b + x) -ℤ pos b ≡ pos x
above-by zero x = ap pos (omega arith)
above-by (suc b) x = go (ltb (suc b + x) (suc b)) (ltb→lt (suc b + x) (suc b))
  where
    go : (t : Bool) → (T t → suc b + x < suc b) → cond t (negsuc (suc b - suc (suc b + x))) (pos (suc b + x - suc b)) ≡ pos x
    go true h = absurd (omega (arith, h tt))
    go false h = ap pos (omega arith)

below_by : (b x : ℕ) → pos b -ℤ pos (b + x) ≡ neg_ℤ (pos x)
below_by b x = neg-minus (pos (b + x)) (pos b) ∙ ap neg_ℤ (above-by b x)

from-high : (a b : ℕ) → b ≤ a → pos a -ℤ pos b ≡ pos (a - b)
from-high a b h =
    let e : a ≡ b + (a - b) = omega arith in
    ap (λ (n : ℕ). pos n -ℤ pos b) e ∙ above-by b (a - b)

from_low : (a b : ℕ) → a ≤ b → pos a -ℤ pos b ≡ neg_ℤ (pos (b - a))
from_low a b h =
    let e : b ≡ a + (b - a) = omega arith in
    ap (λ (n : ℕ). pos a -ℤ pos n) e ∙ below_by a (b - a)

not-above : (k : ℕ) → neg_ℤ (pos k) ≤ℤ pos 0
not-above zero = record { le = tt }
not-above (suc k) = record { le = tt }

up_up : (f r : ℕ) → r ≤ f → pos 0 ≤ℤ (pos f -ℤ pos r)
up_up f r h = subst (λ (z : ℤ). pos 0 ≤ℤ z) (sym (from-high f r h)) (not-below (f - r))

down-down : (f r : ℕ) → f ≤ r → (pos f -ℤ pos r) ≤ℤ pos 0
down-down f r h = subst (λ (z : ℤ). z ≤ℤ pos 0) (sym (from_low f r h)) (not-above (r - f))

pos-neg : (x y : ℕ) → pos x *ℤ neg_ℤ (pos y) ≡ neg_ℤ (pos (x * y))
pos-neg x zero = ap (λ (n : ℕ). pos n) (mul-zero x) ∙ ap (λ (n : ℕ). neg_ℤ (pos n)) (sym (mul-zero x))
pos-neg x (suc y) = refl

neg-pos : (x y : ℕ) → neg_ℤ (pos x) *ℤ pos y ≡ neg_ℤ (pos (x * y))
neg-pos x y = *ℤ_comm (neg_ℤ (pos x)) (pos y) ∙ pos-neg y x ∙ ap (λ (n : ℕ). neg_ℤ (pos n)) (mul_comm y x)

neg-neg : (x y : ℕ) → neg_ℤ (pos x) *ℤ neg_ℤ (pos y) ≡ pos (x * y)
neg-neg zero y = pos-neg zero y ∙ ap (λ (n : ℕ). neg_ℤ (pos n)) (zero-mul y) ∙ ap pos (sym (zero-mul y))
neg-neg (suc x) zero = ap (λ (n : ℕ). neg_ℤ (pos n)) (mul-zero (suc x)) ∙ ap pos (sym (mul-zero (suc x)))
neg-neg (suc x) (suc y) = refl

goes : (m n : ℕ) (p q : ℤ) → p ≡ pos m → q ≡ neg_ℤ (pos n) → pos 0 ≤ℤ (p -ℤ q)
goes m n p q e f =
    subst (λ (z : ℤ). pos 0 ≤ℤ z) (sym (ap₂ ◌-ℤ◌ e f ∙ ap (λ (z : ℤ). pos m +ℤ z) (neg_ℤ-neg_ℤ (pos n)))) (not-below (m + n))

-- ---- the four quadrants round p

record Quadrants (a : Axis) (p : GridPoint) (v1 v2 v3 v4 : Corner) : Type 0 where
  b1 : 256 * along (axis_b a) p ≤ on_axis (axis_b a) v1
  c1 : 256 * along (axis_c a) p ≤ on_axis (axis_c a) v1
  b2 : on_axis (axis_b a) v2 ≤ 256 * along (axis_b a) p
  c2 : 256 * along (axis_c a) p ≤ on_axis (axis_c a) v2
  b3 : 256 * along (axis_b a) p ≤ on_axis (axis_b a) v3
  c3 : on_axis (axis_c a) v3 ≤ 256 * along (axis_c a) p
  b4 : on_axis (axis_b a) v4 ≤ 256 * along (axis_b a) p
  c4 : on_axis (axis_c a) v4 ≤ 256 * along (axis_c a) p

module _ (a : Axis) (p : GridPoint) (v1 v2 v3 v4 : Corner) (q : Quadrants a p v1 v2 v3 v4) where
  abbrev β : ℕ
  β = 256 * along (axis_b a) p

  abbrev γ : ℕ
  γ = 256 * along (axis_c a) p

  abbrev B : Corner → ℕ
  B v = on_axis (axis_b a) v

  abbrev C : Corner → ℕ
  C v = on_axis (axis_c a) v

  go-round : GoesRound a p v1 v2 v3 v4
  go-round =
      record {
        first =
            goes ((B v1 - β) * (C v2 - γ)) ((C v1 - γ) * (β - B v2)) _ _ (ap₂ ◌*ℤ◌ (from-high (B v1) β q.b1) (from-high (C v2) γ q.c2))
            (ap₂ ◌*ℤ◌ (from-high (C v1) γ q.c1) (from_low (B v2) β q.b2) ∙ pos-neg (C v1 - γ) (β - B v2));
        second =
            goes ((β - B v2) * (γ - C v4)) ((C v2 - γ) * (β - B v4)) _ _ (ap₂ ◌*ℤ◌ (from_low (B v2) β q.b2) (from_low (C v4) γ q.c4) ∙ neg-neg (β - B v2) (γ - C v4))
            (ap₂ ◌*ℤ◌ (from-high (C v2) γ q.c2) (from_low (B v4) β q.b4) ∙ pos-neg (C v2 - γ) (β - B v4));
        third =
            goes ((β - B v4) * (γ - C v3)) ((γ - C v4) * (B v3 - β)) _ _ (ap₂ ◌*ℤ◌ (from_low (B v4) β q.b4) (from_low (C v3) γ q.c3) ∙ neg-neg (β - B v4) (γ - C v3))
            (ap₂ ◌*ℤ◌ (from_low (C v4) γ q.c4) (from-high (B v3) β q.b3) ∙ neg-pos (γ - C v4) (B v3 - β));
        fourth =
            goes ((B v3 - β) * (C v1 - γ)) ((γ - C v3) * (B v1 - β)) _ _ (ap₂ ◌*ℤ◌ (from-high (B v3) β q.b3) (from-high (C v1) γ q.c1))
            (ap₂ ◌*ℤ◌ (from_low (C v3) γ q.c3) (from-high (B v1) β q.b1) ∙ neg-pos (γ - C v3) (B v1 - β));
      }

  turns : B v2 * C v1 + B v4 * C v2 + B v3 * C v4 + B v1 * C v3 ≤ B v1 * C v2 + B v2 * C v4 + B v4 * C v3 + B v3 * C v1
  turns = facing β γ (B v1) (C v1) (B v2) (C v2) (B v3) (C v3) (B v4) (C v4) q.b1 q.c1 q.b2 q.c2 q.b3 q.c3 q.b4 q.c4

  both : (f r f' r' : ℕ) → (pos f -ℤ pos r) +ℤ ((pos f' -ℤ pos r') +ℤ pos 0) ≡ pos (f + f') -ℤ pos (r + r')
  both f r f' r' = ap (λ (z : ℤ). (pos f -ℤ pos r) +ℤ z) (+ℤ_comm (pos f' -ℤ pos r') (pos 0) ∙ +ℤ_idl (pos f' -ℤ pos r')) ∙ sym (minus_plus f r f' r')

  upward : (f r f' r' : ℕ) → r + r' ≤ f + f' → pos 0 ≤ℤ ((pos f -ℤ pos r) +ℤ ((pos f' -ℤ pos r') +ℤ pos 0))
  upward f r f' r' h = subst (λ (z : ℤ). pos 0 ≤ℤ z) (sym (both f r f' r')) (up_up (f + f') (r + r') h)

  downward : (f r f' r' : ℕ) → f + f' ≤ r + r' → ((pos f -ℤ pos r) +ℤ ((pos f' -ℤ pos r') +ℤ pos 0)) ≤ℤ pos 0
  downward f r f' r' h = subst (λ (z : ℤ). z ≤ℤ pos 0) (sym (both f r f' r')) (down-down (f + f') (r + r') h)

  -- the products of one triangle that count plus, and those that count minus
  abbrev plus : Corner → Corner → Corner → ℕ
  plus u v w = B u * C v + B v * C w + B w * C u

  abbrev less : Corner → Corner → Corner → ℕ
  less u v w = C u * B v + C v * B w + C w * B u

  six-up : (s : Bool) → pos 0 ≤ℤ areas a (six s true v1 v2 v3 v4)
  unfolding areas
  six-up true = upward (plus v1 v2 v4) (less v1 v2 v4) (plus v1 v4 v3) (less v1 v4 v3) (omega (arith, turns))
  six-up false = upward (plus v2 v4 v3) (less v2 v4 v3) (plus v2 v3 v1) (less v2 v3 v1) (omega (arith, turns))

  six-down : (s : Bool) → areas a (six s false v1 v2 v3 v4) ≤ℤ pos 0
  unfolding areas
  six-down true = downward (plus v1 v4 v2) (less v1 v4 v2) (plus v1 v3 v4) (less v1 v3 v4) (omega (arith, turns))
  six-down false = downward (plus v2 v3 v4) (less v2 v3 v4) (plus v2 v1 v3) (less v2 v1 v3) (omega (arith, turns))

-- ---- the vertices of a face

-- on every axis a vertex has the steps of its cell
on-each : (c : GridPoint) (v : Vector) → OnAxes InCell c v → (a : Axis) → (256 * along a c ≤ on_axis a (steps_of v)) × (on_axis a (steps_of v) ≤ 256 * (along a c + 1))
on-each c v h axis_x = steps-within c.x v.x h.0
on-each c v h axis_y = steps-within c.y v.y h.1
on-each c v h axis_z = steps-within c.z v.z h.2

down-b : (a : Axis) (p : GridPoint) → (along (axis_b a) (step_down (axis_b a) p) ≡ along (axis_b a) p - 1) × (along (axis_c a) (step_down (axis_b a) p) ≡ along (axis_c a) p)
down-b axis_x p = (refl, refl)
down-b axis_y p = (refl, refl)
down-b axis_z p = (refl, refl)

down-c : (a : Axis) (p : GridPoint) → (along (axis_b a) (step_down (axis_c a) p) ≡ along (axis_b a) p) × (along (axis_c a) (step_down (axis_c a) p) ≡ along (axis_c a) p - 1)
down-c axis_x p = (refl, refl)
down-c axis_y p = (refl, refl)
down-c axis_z p = (refl, refl)

module _ (g : Field) (b : Box) (m : Flags) (values32 : (p : GridPoint) → T (in_box b p) → T (fits binary32 (value g p))) (dims : T (not (bad_dimensions g.dims)))
    (fit : T (not (bad_box g.dims b))) (distances : T (not (bad_distance g b))) where
  quadrants : (e : Edge) → T (gives g b m e) → Quadrants e.axis e.from (vertex_steps g (cell1 e)) (vertex_steps g (cell2 e)) (vertex_steps g (cell3 e)) (vertex_steps g (cell4 e))
  quadrants e t =
      record {
        b1 = (w.one B).0;
        c1 = (w.one C).0;
        b2 = le_trans (w.two B).1 (omega (arith, d2.0, o.above_b));
        c2 = le_trans (omega (arith, d2.1)) (w.two C).0;
        b3 = le_trans (omega (arith, d3.0)) (w.three B).0;
        c3 = le_trans (w.three C).1 (omega (arith, d3.1, o.above_c));
        b4 = le_trans (w.four B).1 (omega (arith, d4.0, d2.0, o.above_b));
        c4 = le_trans (w.four C).1 (omega (arith, d4.1, d2.1, o.above_c));
      }
    where
      B : Axis
      B = axis_b e.axis

      C : Axis
      C = axis_c e.axis

      o : Owned b m e
      o = owned-says b m e (gives-owned g b m e t)

      w : Four (λ (c : GridPoint). (a : Axis) → (256 * along a c ≤ on_axis a (vertex_steps g c)) × (on_axis a (vertex_steps g c) ≤ 256 * (along a c + 1))) e
      w = four-each g b m e t (λ c i s l. on-each c (vertex_position g c) (under-caps g b c values32 dims fit distances i s).inside)

      d2 : (along (axis_b e.axis) (cell2 e) ≡ along (axis_b e.axis) e.from - 1) × (along (axis_c e.axis) (cell2 e) ≡ along (axis_c e.axis) e.from)
      d2 = down-b e.axis e.from

      d3 : (along (axis_b e.axis) (cell3 e) ≡ along (axis_b e.axis) e.from) × (along (axis_c e.axis) (cell3 e) ≡ along (axis_c e.axis) e.from - 1)
      d3 = down-c e.axis e.from

      d4 : (along (axis_b e.axis) (cell4 e) ≡ along (axis_b e.axis) (cell2 e)) × (along (axis_c e.axis) (cell4 e) ≡ along (axis_c e.axis) (cell2 e) - 1)
      d4 = down-c e.axis (cell2 e)

  -- the areas of the triangles of an edge's face, by which diagonal is drawn and whether p1 is negative
  abbrev seen_areas : Edge → Bool → Bool → ℤ
  seen_areas e s t = areas e.axis (map (λ (c : Seen). steps_of c.position) (map (corner_at g) (six s t (cell1 e) (cell2 e) (cell3 e) (cell4 e))))

  not-true : (s : Bool) → T (not s) → s ≡ false
  not-true true h = absurd h
  not-true false h = refl

  module _ (e : Edge) (t : T (gives g b m e)) where
    abbrev v : (Edge → GridPoint) → Corner
    v cell = vertex_steps g (cell e)

    seen_up : (s : Bool) → pos 0 ≤ℤ seen_areas e s true
    seen_up true = six-up e.axis e.from (v cell1) (v cell2) (v cell3) (v cell4) (quadrants e t) true
    seen_up false = six-up e.axis e.from (v cell1) (v cell2) (v cell3) (v cell4) (quadrants e t) false

    seen-down : (s : Bool) → seen_areas e s false ≤ℤ pos 0
    seen-down true = six-down e.axis e.from (v cell1) (v cell2) (v cell3) (v cell4) (quadrants e t) true
    seen-down false = six-down e.axis e.from (v cell1) (v cell2) (v cell3) (v cell4) (quadrants e t) false

    -- the face that an edge defines
    edge-out : FacesOut g (face_of g e)
    unfolding face_cells
    edge-out =
        record {
          round = go-round e.axis e.from (v cell1) (v cell2) (v cell3) (v cell4) (quadrants e t);
          up = λ n. subst (λ (s : Bool). pos 0 ≤ℤ seen_areas e (shorter g e) s) (sym (is_true (negative (value g e.from)) n)) (seen_up (shorter g e));
          down = λ n. subst (λ (s : Bool). seen_areas e (shorter g e) s ≤ℤ pos 0) (sym (not-true (negative (value g e.from)) n)) (seen-down (shorter g e));
        }

-- ---- over what is written

pub faces-out : (u : Served) → Done u → All (FacesOut u.call.grid) (faces_read u)
faces-out u d =
    subst (All (FacesOut c.grid)) (sym (faces-back u d ∙ seen-is c.grid (piece_of c)))
    (all_map (face_of c.grid) (all_then (edge-out c.grid c.box c.flags values32 a.dims a.box a.distance) (edges-all c.grid c.box c.flags)))
  where
    c : Call
    c = u.call

    a : Accepted u.call.grid u.call.size (room u.before).map u.call.box
    a = done-accepts u d

    -- condition 3 lets each point of the box stand in the grid, whose numbers are binary32 values
    values32 : (p : GridPoint) → T (in_box u.call.box p) → T (fits binary32 (value u.call.grid p))
    values32 p t = u.numbers (index u.call.grid.dims p) (index_below u.call.grid.dims u.call.box u.call.size p a.box a.length t)
