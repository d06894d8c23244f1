-- The mesh beside the level: where the four cells round the grid edge that a level is told from lie in the box, each of them has a vertex in the mesh that a call
-- answered 0 writes, and each of those vertices is from z to z + 1 in z, as the level is. So mesh and level are never more than one step apart. Assumes nothing.
use Prim.Native.Nat.{ℕ, ◌+◌, ◌*◌, ◌≤◌, ◌<◌}
use native.Mathlib.Nat.{le_trans, le_of_eq, mul-le-mul_right, mul_assoc, mul_comm, add-mul, one-mul}
use native.Mathlib.Omega.{arith}
use mathlib.Core.Bool.{Bool, true, false, ◌&&◌}
use mathlib.Core.List.{List, map}
use mathlib.Core.Path.{◌≡◌, refl, sym, ap, subst, ◌∙◌}
use lib.Dec.{T, lt→ltb}
use lib.ListN.{length, get_or, drop, length-map, get_or-map}
use lib.Ieee.{Float, nan, binary32, fits, unlike}
use lib.Ieee.Fits.{and_i}
use lib.Ieee.Positive.{num, den}
use Rattle.lists.specs.Lists.{many, place, over}
use Rattle.lists.proofs.Lists.{place-below, place-passes}
use Rattle.lists.proofs.Tests.{one_of, failed}
use Rattle.rounding.specs.Values.{Between}
use Rattle.rules.specs.Grid.{GridPoint, axis_x, axis_y, axis_z, Box, Field, value, in_box, is_cell, same_point, step_up}
use Rattle.rules.specs.Cell.{Vector, negative}
use Rattle.rules.specs.Vertices.{surface_cell, vertices, vertex_position}
use Rattle.rules.specs.Faces.{Flags, all_three, edge, owned, changes, gives, above_low, inside_max}
use Rattle.rules.specs.Call.{Call, Buffers, Answer, room, answer, flat_points, flat_vectors, written, afterwards}
use Rattle.rules.specs.Cutting.{point_in}
use Rattle.rules.proofs.Indexes.{is-cell}
use Rattle.rules.proofs.Counting.{same_point-sound, vertices-once}
use Rattle.rules.proofs.Accepted.{done-counted}
use Rattle.rules.proofs.Locality.{when-done}
use Rattle.rules.proofs.Seen.{ThreeAt, three-at, three-over, length-points, length-vectors}
use Rattle.rules.proofs.FourCells.{Four, four-in, four-on}
use Rattle.cube.proofs.UnderCaps.{under-caps}
use Rattle.levels.specs.Call.{grid_of}
use Rattle.levels.proofs.Answering.{Accepted}

abbrev origin : GridPoint
origin = record { x = 0; y = 0; z = 0 }

-- ---- a surface cell of the box has a vertex

module _ (g : Field) (b : Box) (c : GridPoint) (cell : T (is_cell b c)) (on : T (surface_cell g c)) where
  abbrev vs : List GridPoint
  vs = vertices g b

  abbrev number : ℕ
  number = place (same_point c) vs

  counted : 0 < many (same_point c) vs
  counted =
      let e : many (same_point c) vs ≡ 1 = vertices-once g b c ∙ one_of (is_cell b c && surface_cell g c) (and_i (is_cell b c) (surface_cell g c) cell on) in
      omega arith

  number-within : number < length vs
  number-within = place-below (same_point c) vs counted

  number_is : get_or vs number origin ≡ c
  number_is = sym (same_point-sound c (get_or vs number origin) (place-passes (same_point c) vs origin counted))

-- ---- what a call writes of a vertex

module _ (vs : List GridPoint) (v : ℕ) (h : v < length vs) where
  cell-at : (old : List ℕ) → point_in (over (flat_points vs) old) v ≡ get_or vs v origin
  cell-at old =
      let t = three-over (λ (c : GridPoint). c.x) (λ (c : GridPoint). c.y) (λ (c : GridPoint). c.z) (flat_points vs) (drop (length (flat_points vs)) old) v 0 (get_or vs v origin)
      (omega (arith, length-points vs)) (three-at (λ (c : GridPoint). c.x) (λ (c : GridPoint). c.y) (λ (c : GridPoint). c.z) vs v 0 origin h) in
      λ i. record { x = t.first i; y = t.second i; z = t.third i }

  height-at : (f : GridPoint → Vector) (old : List Float) → get_or (over (flat_vectors (map f vs)) old) (3 * v + 2) nan ≡ (f (get_or vs v origin)).z
  height-at f old =
      (three-over (λ (w : Vector). w.x) (λ (w : Vector). w.y) (λ (w : Vector). w.z) (flat_vectors (map f vs)) (drop (length (flat_vectors (map f vs))) old) v nan
      (f (get_or vs v origin)) (omega (arith, length-vectors f vs))
      (subst (ThreeAt (λ (w : Vector). w.x) (λ (w : Vector). w.y) (λ (w : Vector). w.z) (flat_vectors (map f vs)) v nan) (get_or-map f vs v origin)
      (three-at (λ (w : Vector). w.x) (λ (w : Vector). w.y) (λ (w : Vector). w.z) (map f vs) v nan (f origin) (rw (length-map vs f) h)))).third

-- what the contract of a mesh call says, with the answer 0
pub record Meshed (c : Call) (r : Answer) (entry exit : Buffers) : Type 0 where
  pub said : r ≡ answer c (room entry)
  pub left : exit ≡ afterwards c entry
  pub done : r.number ≡ 0

-- a cell has a vertex in what is written, and it is from z to z + 1 in z
pub record Beside (z : ℕ) (r : Answer) (exit : Buffers) (c : GridPoint) : Type 0 where
  pub vertex : ℕ
  pub drawn : vertex < r.vertices
  pub cell : point_in exit.cells vertex ≡ c
  pub within : Between z (z + 1) (get_or exit.positions (3 * vertex + 2) nan)

module _ {m : Call} {r : Answer} {entry exit : Buffers} (d : Meshed m r entry exit) where
  made : (answer m (room entry)).number ≡ 0
  made = sym (ap (λ (a : Answer). a.number) d.said) ∙ d.done

  left_is : exit ≡ written m entry
  left_is = d.left ∙ when-done m entry made

  vertices-are : r.vertices ≡ length (vertices m.grid m.box)
  vertices-are = ap (λ (a : Answer). a.vertices) d.said ∙ (done-counted m (room entry) made).0

  module _ (sdf : List Float) (dims : GridPoint) {room' : ℕ} (same-grid : m.grid ≡ grid_of sdf dims) (a : Accepted sdf dims m.box room')
      (numbers : (p : GridPoint) → T (in_box m.box p) → T (fits binary32 (value (grid_of sdf dims) p))) where
    one-beside : (c : GridPoint) → T (is_cell m.box c) → T (surface_cell (grid_of sdf dims) c) → Beside c.z r exit c
    unfolding written
    one-beside c cell on =
        let g = grid_of sdf dims in
        let b = m.box in
        let v = number g b c cell on in
        let h = number-within g b c cell on in
        let there = number_is g b c cell on in
        let caps = under-caps g b c numbers (failed refl a.faultless.dims) (failed refl a.faultless.box) (failed refl a.distances) cell on in
        let cells_are : point_in exit.cells v ≡ c =
        ap (λ (s : Buffers). point_in s.cells v) left_is
        ∙ (ap (λ (f : Field). point_in (over (flat_points (vertices f b)) entry.cells) v) same-grid ∙ (cell-at (vertices g b) v h entry.cells ∙ there)) in
        let heights-are : get_or exit.positions (3 * v + 2) nan ≡ (vertex_position g c).z =
        ap (λ (s : Buffers). get_or s.positions (3 * v + 2) nan) left_is
        ∙ (ap (λ (f : Field). get_or (over (flat_vectors (map (vertex_position f) (vertices f b))) entry.positions) (3 * v + 2) nan) same-grid
        ∙ (height-at (vertices g b) v h (vertex_position g) entry.positions ∙ ap (λ (q : GridPoint). (vertex_position g q).z) there)) in
        record {
          vertex = v;
          drawn = le_trans h (le_of_eq (sym (vertices-are ∙ ap (λ (f : Field). length (vertices f b)) same-grid)));
          cell = cells_are;
          within = subst (Between c.z (c.z + 1)) (sym heights-are) caps.inside.2;
        }

    -- the edge up from the highest point below zero
    module _ (x y z : ℕ) (xs : (m.box.low.x < x) × (x < m.box.high.x)) (ys : (m.box.low.y < y) × (y < m.box.high.y))
        (zs : (m.box.low.z ≤ z) × (z < m.box.high.z)) where
      abbrev at : GridPoint
      at = record { x = x; y = y; z = z }

      abbrev all : Flags
      all = all_three true

      edge-owned : T (owned m.box all (edge axis_z at))
      unfolding owned
      edge-owned =
          let b = m.box in
          and_i (is_cell b at) (above_low axis_x b at && (above_low axis_y b at && inside_max axis_z b all at)) (is-cell b at (record { x = (omega arith, xs.1); y = (omega arith, ys.1); z = zs }))
          (and_i (above_low axis_x b at) (above_low axis_y b at && inside_max axis_z b all at) (lt→ltb b.low.x x xs.0)
          (and_i (above_low axis_y b at) (inside_max axis_z b all at) (lt→ltb b.low.y y ys.0) tt))

      pub four-beside : T (negative (value (grid_of sdf dims) at)) → (T (negative (value (grid_of sdf dims) (step_up axis_z at))) → ⊥) → Four (Beside z r exit) (edge axis_z at)
      unfolding changes
      four-beside n u =
          let g = grid_of sdf dims in
          let b = m.box in
          let e = edge axis_z at in
          let t : T (gives g b all e) = and_i (owned b all e) (changes g e) edge-owned (differ (negative (value g at)) (negative (value g (step_up axis_z at))) n u) in
          let cells = four-in b all e edge-owned in
          let surfaces = four-on g b all e t in
          record {
            one = one-beside _ cells.one surfaces.one;
            two = one-beside _ cells.two surfaces.two;
            three = one-beside _ cells.three surfaces.three;
            four = one-beside _ cells.four surfaces.four;
          }
        where
          differ : (s t : Bool) → T s → (T t → ⊥) → T (unlike s t)
          differ true true p q = absurd (q tt)
          differ true false p q = tt
          differ false t p q = absurd p

-- two values from z to z + 1 are at most one step apart
pub one-step : (z : ℕ) (p q : Float) → Between z (z + 1) p → Between z (z + 1) q → num p * den q ≤ num q * den p + den q * den p
one-step z p q h k = go (num p) (den p) (num q) (den q) h.2 k.1
  where
    sum : (z X Y : ℕ) → (z + 1) * X * Y ≡ z * Y * X + Y * X
    sum z X Y = ap (λ (s : ℕ). s * Y) (add-mul z 1 X ∙ ap (λ (s : ℕ). z * X + s) (one-mul X)) ∙ (add-mul (z * X) X Y
        ∙ (ap (λ (s : ℕ). s + X * Y) (mul_assoc z X Y ∙ (ap (λ (s : ℕ). z * s) (mul_comm X Y) ∙ sym (mul_assoc z Y X))) ∙ ap (λ (s : ℕ). z * Y * X + s) (mul_comm X Y)))

    more : (s t u : ℕ) → s ≤ t → s + u ≤ t + u
    more s t u h = omega arith

    go : (N D M E : ℕ) → N ≤ (z + 1) * D → z * E ≤ M → N * E ≤ M * D + E * D
    go N D M E h k = le_trans (mul-le-mul_right E h) (le_trans (le_of_eq (sum z D E)) (more (z * E * D) (M * D) (E * D) (mul-le-mul_right D k)))
