-- No triangle of the mesher is wide: the four cells round an edge differ by at most one step on each axis, and each vertex lies in its closed cell; so on
-- each axis the corners of a face are within two grid steps, 512 steps. Assumes nothing.
use Prim.Native.Nat.{ℕ, ◌+◌, ◌-◌, ◌*◌, ◌%◌, ◌≤◌}
use native.Mathlib.Omega.{arith}
use mathlib.Core.Bool.{false, not, ◌||◌}
use mathlib.Core.List.{List, map}
use mathlib.Core.Path.{◌≡◌, refl, sym, ap, subst, ◌∙◌}
use borrow.Author.Tests.{le-ltb}
use lib.Dec.{T, ltb}
use lib.Ieee.{binary32, fits}
use lib.ListN.{length, length-map}
use Rattle.lists.specs.Lists.{joined, place}
use Rattle.lists.proofs.Either.{or-none}
use Rattle.lists.proofs.Lists.{All, none, more, all_then, all_map}
use Rattle.rules.specs.Grid.{GridPoint, Axis, axis_x, axis_y, axis_z, Box, Field, in_box, is_cell, value, same_point}
use Rattle.rules.specs.Vertices.{surface_cell, vertices, vertex_position}
use Rattle.rules.specs.Faces.{Edge, Flags, gives, edge, indices, face_cells, cell1, cell2, cell3, cell4}
use Rattle.rules.specs.Call.{bad_dimensions, bad_box, bad_distance, flat_vectors}
use Rattle.rules.proofs.FourCells.{Four}
use Rattle.rules.proofs.Edges.{edges-all, face_cells-length}
use Rattle.rules.proofs.Numbers.{four-each, face-all, face_numbers, indices-are}
use Rattle.cube.proofs.UnderCaps.{under-caps}
use Rattle.volume.specs.declared.Corner.{Corner}
use Rattle.volume.specs.Volume.{corner_at}
use Rattle.weigh.specs.Answers.{apart, wide, some_wide}
use Rattle.weigh.proofs.Weighing.{wide-append}
use Rattle.weighed_mesh.specs.Facing.{steps_of}
use Rattle.weighed_mesh.proofs.Facing.{steps-within}
use Rattle.weighed_mesh.proofs.Faces.{corner-is}

-- ---- corners in one range

-- within 512 steps up from x and y
record Within (x y : ℕ) (a : Corner) : Type 0 where
  left : x ≤ a.x
  right : a.x ≤ x + 512
  front : y ≤ a.y
  rear : a.y ≤ y + 512

not-apart : (low m n : ℕ) → low ≤ m → m ≤ low + 512 → low ≤ n → n ≤ low + 512 → apart m n ≡ false
not-apart low m n h k i j = or-none (ltb (m + 512) n) (ltb (n + 512) m) (le-ltb (m + 512) n (omega arith)) (le-ltb (n + 512) m (omega arith))

not_wide : (x y : ℕ) (a b c : Corner) → Within x y a → Within x y b → Within x y c → wide a b c ≡ false
not_wide x y a b c p q r =
    or-none (apart a.x b.x || apart a.y b.y) (apart a.x c.x || apart a.y c.y)
    (or-none (apart a.x b.x) (apart a.y b.y) (not-apart x a.x b.x p.left p.right q.left q.right)
    (not-apart y a.y b.y p.front p.rear q.front q.rear))
    (or-none (apart a.x c.x) (apart a.y c.y) (not-apart x a.x c.x p.left p.right r.left r.right)
    (not-apart y a.y c.y p.front p.rear r.front r.rear))

none-wide : (at : ℕ → Corner) (x y : ℕ) {l : List ℕ} → All (λ (i : ℕ). Within x y (at i)) l → some_wide at l ≡ false
unfolding some_wide
none-wide at x y none = refl
none-wide at x y (more p none) = refl
none-wide at x y (more p (more q none)) = refl
none-wide at x y (more {x = i} p (more {x = j} q (more {x = k} {xs = is} r rest))) =
    or-none (wide (at i) (at j) (at k)) (some_wide at is) (not_wide x y (at i) (at j) (at k) p q r) (none-wide at x y rest)

-- lists of whole triangles, one after the other
joined-narrow : {A : Type 0} (at : ℕ → Corner) (h : A → List ℕ) → ((a : A) → length (h a) % 3 ≡ 0) → {l : List A} → All (λ (a : A). some_wide at (h a) ≡ false) l
    → some_wide at (joined h l) ≡ false
unfolding some_wide joined
joined-narrow at h threes none = refl
joined-narrow at h threes (more {x = a} {xs = l} p ps) =
    wide-append at (h a) (joined h l) (threes a) ∙ or-none (some_wide at (h a)) (some_wide at (joined h l)) p (joined-narrow at h threes ps)

-- ---- the four cells round an edge

-- at most one step down from a point on x and on y
record OneDown (p c : GridPoint) : Type 0 where
  x-up : c.x ≤ p.x
  x-down : p.x ≤ c.x + 1
  y-up : c.y ≤ p.y
  y-down : p.y ≤ c.y + 1

one_down : (a : Axis) (p : GridPoint) → Four (OneDown p) (edge a p)
one_down axis_x p = record { one = omega arith; two = omega arith; three = omega arith; four = omega arith }
one_down axis_y p = record { one = omega arith; two = omega arith; three = omega arith; four = omega arith }
one_down axis_z p = record { one = omega arith; two = omega arith; three = omega arith; four = omega arith }

both-four : {P Q R : GridPoint → Type 0} (e : Edge) → ((c : GridPoint) → P c → Q c → R c) → Four P e → Four Q e → Four R e
both-four e f p q =
    record { one = f (cell1 e) p.one q.one; two = f (cell2 e) p.two q.two; three = f (cell3 e) p.three q.three; four = f (cell4 e) p.four q.four }

-- a vertex in its closed cell, seen from a point one step up at most: 256·(p - 1) is where the range begins, or 0
from_cell : (n c s : ℕ) → c ≤ n → n ≤ c + 1 → 256 * c ≤ s → s ≤ 256 * (c + 1) → (256 * (n - 1) ≤ s) × (s ≤ 256 * (n - 1) + 512)
from_cell n c s h k i j = (omega arith, omega arith)

module _ (g : Field) (b : Box) (m : Flags) (values32 : (p : GridPoint) → T (in_box b p) → T (fits binary32 (value g p))) (dims : T (not (bad_dimensions g.dims)))
    (fit : T (not (bad_box g.dims b))) (distances : T (not (bad_distance g b))) where
  -- a vertex on x and on y, in steps
  record InSteps (c : GridPoint) : Type 0 where
    on-x : (256 * c.x ≤ (steps_of (vertex_position g c)).x) × ((steps_of (vertex_position g c)).x ≤ 256 * (c.x + 1))
    on-y : (256 * c.y ≤ (steps_of (vertex_position g c)).y) × ((steps_of (vertex_position g c)).y ≤ 256 * (c.y + 1))

  in-steps : (c : GridPoint) → T (is_cell b c) → T (surface_cell g c) → InSteps c
  in-steps c i s =
      let u = (under-caps g b c values32 dims fit distances i s).inside in
      record { on-x = steps-within c.x (vertex_position g c).x u.0; on-y = steps-within c.y (vertex_position g c).y u.1 }

  near-edge : (p c : GridPoint) → OneDown p c → InSteps c → Within (256 * (p.x - 1)) (256 * (p.y - 1)) (steps_of (vertex_position g c))
  near-edge p c d s =
      let x = from_cell p.x c.x (steps_of (vertex_position g c)).x d.x-up d.x-down s.on-x.0 s.on-x.1 in
      let y = from_cell p.y c.y (steps_of (vertex_position g c)).y d.y-up d.y-down s.on-y.0 s.on-y.1 in
      record { left = x.0; right = x.1; front = y.0; rear = y.1 }

  module _ (at : ℕ → Corner) where
    -- a number gives the vertex that it stands for
    abbrev pub Gives : GridPoint → Type 0
    Gives c = at (place (same_point c) (vertices g b)) ≡ steps_of (vertex_position g c)

    -- every corner of the face of an edge, looked up by its number
    face-within : (e : Edge) → T (gives g b m e) → Four Gives e → All (λ (i : ℕ). Within (256 * (e.from.x - 1)) (256 * (e.from.y - 1)) (at i)) (face_numbers g b e)
    face-within e t is =
        all_map (λ (c : GridPoint). place (same_point c) (vertices g b))
        (face-all g e
        (both-four e
        (λ c (k : Gives c) (w : Within (256 * (e.from.x - 1)) (256 * (e.from.y - 1)) (steps_of (vertex_position g c))).
        subst (Within (256 * (e.from.x - 1)) (256 * (e.from.y - 1))) (sym k) w) is
        (both-four e (near-edge e.from) (one_down e.axis e.from) (four-each g b m e t (λ c i s l. in-steps c i s)))))

    six-long : (e : Edge) → length (face_numbers g b e) % 3 ≡ 0
    six-long e = ap (λ (n : ℕ). n % 3) (length-map (face_cells g e) (λ (c : GridPoint). place (same_point c) (vertices g b)) ∙ face_cells-length g e)

    pub faces-narrow : {es : List Edge} → All (λ (e : Edge). T (gives g b m e) × Four Gives e) es → some_wide at (joined (face_numbers g b) es) ≡ false
    faces-narrow h =
        joined-narrow at (face_numbers g b) six-long
        (all_then (λ (e : Edge) (t : T (gives g b m e) × Four Gives e). none-wide at (256 * (e.from.x - 1)) (256 * (e.from.y - 1)) (face-within e t.0 t.1)) h)

  pub mesh-narrow : some_wide (corner_at (flat_vectors (map (vertex_position g) (vertices g b)))) (indices g b m) ≡ false
  mesh-narrow =
      ap (some_wide (corner_at (flat_vectors (map (vertex_position g) (vertices g b))))) (indices-are g b m)
      ∙ faces-narrow (corner_at (flat_vectors (map (vertex_position g) (vertices g b))))
      (all_then (λ (e : Edge) (t : T (gives g b m e)). (t, four-each g b m e t (λ c i s l. corner-is g b m c i s))) (edges-all g b m))
