-- The map of the whole box, layer by layer: the layer's part is put back as the layer's entries of the whole, the layers up to z and the layer z
-- are the layers up to z + 1, and at the end each entry is the one that document 01 says. Assumes nothing.
use Prim.Native.Nat.{ℕ, ◌+◌, ◌-◌, ◌*◌, ◌/◌, ◌%◌, ◌≤◌, ◌<◌}
use native.Mathlib.Nat.{zero-add, mul_assoc, mul-le-mul_left, div-eq_of_lt, mod-eq_of_lt, add-mul-div_left, add-mul-mod_self_left, mod-add-div, mod-lt}
use native.Mathlib.Omega.{arith}
use mathlib.Core.Bool.{Bool, cond}
use mathlib.Core.List.{List, ◌++◌}
use mathlib.Core.Logic.{◌⊎◌, inl, inr}
use mathlib.Core.Path.{◌≡◌, sym, ap, ap₂, ◌∙◌}
use borrow.Author.Tests.{lt-ltb, le-ltb, eq-eqb, ne_eqb}
use lib.Dec.{T, eqb, ltb}
use lib.Ieee.Bits.{is_true}
use lib.ListN.{length, get_or, take, drop, length-drop, take-append-drop}
use lib.Seq.{length-take-le}
use Rattle.lists.specs.Lists.{placed}
use Rattle.rules.specs.Grid.{GridPoint, Box, Field, index, point_at, is_cell, in_box}
use Rattle.rules.specs.Vertices.{surface_cell, vertex_number, first_vertex, null_vertex, cell_entry, edge_entry, map_entry}
use Rattle.lists.proofs.Tests.{is_false, less-or-not}
use Rattle.lists.proofs.Lists.{get_d-placed}
use Rattle.rules.proofs.Indexes.{BoxFits, same_point_lem, cell-within, cell-in-box, within, point-back}
use Rattle.layer_vertices.specs.Marked.{layer_point, layer_entry}
use Rattle.layer_vertices.proofs.Points.{last-is}
use Rattle.whole_box.specs.Layers.{at_layer, entry_at, entry_to, last_at}
use Rattle.whole_box.proofs.Placed.{placed-append, placed_by, placed-kept, placed-twice}

-- ---- the point at an index of the layer z

module _ (d : GridPoint) (up : 0 < d.x * d.y) where
  plane-of : (z i : ℕ) → i < d.x * d.y → (d.x * d.y * z + i) / (d.x * d.y) ≡ z
  plane-of z i h =
      let turn : d.x * d.y * z + i ≡ i + d.x * d.y * z = omega arith in
      ap (λ (n : ℕ). n / (d.x * d.y)) turn ∙ add-mul-div_left i z up ∙ ap (λ (n : ℕ). n + z) (div-eq_of_lt h) ∙ zero-add z

  -- what an index tells of its layer
  pub plane-below : (z j : ℕ) → j < d.x * d.y * z → j / (d.x * d.y) < z
  plane-below z j h =
      let split = mod-add-div j (d.x * d.y) in
      go (less-or-not (j / (d.x * d.y)) z) split
    where
      go : (j / (d.x * d.y) < z) ⊎ (z ≤ j / (d.x * d.y)) → j % (d.x * d.y) + d.x * d.y * (j / (d.x * d.y)) ≡ j → j / (d.x * d.y) < z
      go (inl k) e = k
      go (inr k) e = absurd (omega (arith, mul-le-mul_left (d.x * d.y) k))

  pub plane-above : (z j : ℕ) → d.x * d.y * z + d.x * d.y ≤ j → z < j / (d.x * d.y)
  plane-above z j h =
      let split = mod-add-div j (d.x * d.y) in
      go (less-or-not z (j / (d.x * d.y))) split
    where
      go : (z < j / (d.x * d.y)) ⊎ (j / (d.x * d.y) ≤ z) → j % (d.x * d.y) + d.x * d.y * (j / (d.x * d.y)) ≡ j → z < j / (d.x * d.y)
      go (inl k) e = k
      go (inr k) e = absurd (omega (arith, mul-le-mul_left (d.x * d.y) k, mod-lt j up))

-- ---- the layer's part, put back

module _ (d : GridPoint) (up : 0 < d.x * d.y) (z : ℕ) (e : ℕ → ℕ → ℕ) where
  abbrev plane : ℕ
  plane = d.x * d.y

  apart : (j : ℕ) → (j / (d.x * d.y) ≡ z → ⊥) → (x : ℕ) → at_layer d z e j x ≡ x
  apart j h x = ap (λ (t : Bool). cond t (e (j - plane * z) x) x) (ne_eqb (j / plane) z h)

  inside : (i : ℕ) → i < d.x * d.y → (x : ℕ) → at_layer d z e (d.x * d.y * z + i) x ≡ e i x
  inside i h x =
      let back : plane * z + i - plane * z ≡ i = omega arith in
      ap (λ (t : Bool). cond t (e (plane * z + i - plane * z) x) x) (eq-eqb ((plane * z + i) / plane) z (plane-of d up z i h))
      ∙ ap (λ (n : ℕ). e n x) back

  pub part-back : (l : List ℕ) → d.x * d.y * z + d.x * d.y ≤ length l
      → take (d.x * d.y * z) l
      ++ (placed e 0 (take (d.x * d.y * z + d.x * d.y - d.x * d.y * z) (drop (d.x * d.y * z) l))
      ++ drop (d.x * d.y * z + d.x * d.y - d.x * d.y * z) (drop (d.x * d.y * z) l))
      ≡ placed (at_layer d z e) 0 l
  part-back l h = sym (ap (placed f 0) whole ∙ placed-append f 0 A (B ++ C) ∙ ap₂ (λ (s t : List ℕ). s ++ t) lower
      (placed-append f (0 + length A) B C ∙ ap₂ (λ (s t : List ℕ). s ++ t) here upper))
    where
      n : ℕ
      n = plane * z + plane - plane * z

      is-plane : n ≡ plane
      is-plane = omega arith

      f : ℕ → ℕ → ℕ
      f = at_layer d z e

      A : List ℕ
      A = take (plane * z) l

      B : List ℕ
      B = take n (drop (plane * z) l)

      C : List ℕ
      C = drop n (drop (plane * z) l)

      whole : l ≡ A ++ (B ++ C)
      whole = sym (ap (λ (s : List ℕ). A ++ s) (take-append-drop n (drop (plane * z) l)) ∙ take-append-drop (plane * z) l)

      long : length A ≡ plane * z
      long = length-take-le (plane * z) l (omega arith)

      longer : length B ≡ plane
      longer = length-take-le n (drop (plane * z) l) (omega (arith, is-plane, length-drop (plane * z) l)) ∙ is-plane

      lower : placed f 0 A ≡ A
      lower = placed-kept f 0 A (λ i k x. apart (0 + i) (λ (h' : (0 + i) / plane ≡ z). omega (arith, plane-below d up z (0 + i) (omega (arith, long, k)))) x)

      here : placed f (0 + length A) B ≡ placed e 0 B
      here =
          placed_by f e (0 + length A) 0 B
          (λ i k x.
          let at : 0 + length A + i ≡ plane * z + i = omega (arith, long) in
          ap (λ (j : ℕ). f j x) at ∙ inside i (omega (arith, longer, k)) x ∙ ap (λ (j : ℕ). e j x) (sym (zero-add i)))

      upper : placed f (0 + length A + length B) C ≡ C
      upper =
          let n' = 0 + length A + length B in
          placed-kept f n' C
          (λ i k x. apart (n' + i) (λ (h' : (n' + i) / plane ≡ z). omega (arith, plane-above d up z (n' + i) (omega (arith, long, longer)))) x)

-- ---- one layer more

module _ (g : Field) (b : Box) (xs : 0 < g.dims.x) (ys : 0 < g.dims.y) (up : 0 < g.dims.x * g.dims.y) where
  -- a place of a layer and its index name one point
  same_place : (z i : ℕ) → i < g.dims.x * g.dims.y → layer_point g.dims z i ≡ point_at g.dims (g.dims.x * g.dims.y * z + i)
  same_place z i h =
      let d = g.dims in
      let X = g.dims.x in
      let Y = g.dims.y in
      let turn : X * Y * z + i ≡ i + X * (Y * z) = omega (arith, mul_assoc X Y z) in
      let low : i / X < Y = omega (arith, row_below) in
      same_point_lem (
        sym (ap (λ (n : ℕ). n % X) turn ∙ add-mul-mod_self_left i X (Y * z)),
        sym (ap (λ (n : ℕ). n / X % Y) turn ∙ ap (λ (n : ℕ). n % Y) (add-mul-div_left i (Y * z) xs) ∙ add-mul-mod_self_left (i / X) Y z ∙ mod-eq_of_lt low),
        sym (plane-of d up z i h),
      )
    where
      row_below : i / g.dims.x < g.dims.y
      row_below =
          let e = mod-add-div i g.dims.x in
          go (less-or-not (i / g.dims.x) g.dims.y) e
        where
          go : (i / g.dims.x < g.dims.y) ⊎ (g.dims.y ≤ i / g.dims.x) → i % g.dims.x + g.dims.x * (i / g.dims.x) ≡ i → i / g.dims.x < g.dims.y
          go (inl k) e = k
          go (inr k) e = absurd (omega (arith, mul-le-mul_left g.dims.x k))

  layer-entry : (z j old : ℕ) → j / (g.dims.x * g.dims.y) ≡ z → layer_entry g b z (first_vertex g b z) (j - g.dims.x * g.dims.y * z) old ≡ map_entry g b j old
  unfolding layer_entry map_entry cell_entry
  layer-entry z j old e =
      let plane = g.dims.x * g.dims.y in
      let split = mod-add-div j plane in
      let base : plane * (j / plane) ≡ plane * z = ap (λ (n : ℕ). plane * n) e in
      let small : j - plane * z < plane = omega (arith, mod-lt j up) in
      let back : plane * z + (j - plane * z) ≡ j = omega arith in
      let p : layer_point g.dims z (j - plane * z) ≡ point_at g.dims j = same_place z (j - plane * z) small ∙ ap (point_at g.dims) back in
      let entry : ℕ → GridPoint → ℕ = λ y q. cond (is_cell b q) (cond (surface_cell g q) (vertex_number g b (first_vertex g b y) q) null_vertex) (cond (in_box b q) edge_entry old) in
      ap (entry z) p ∙ ap (λ (y : ℕ). entry y (point_at g.dims j)) (sym e)

  entry_more : (z j old : ℕ) → entry_at g b z (first_vertex g b z) j (entry_to g b z j old) ≡ entry_to g b (z + 1) j old
  entry_more z j old = go (less-or-not y z) (less-or-not z y)
    where
      y : ℕ
      y = j / (g.dims.x * g.dims.y)

      at : ℕ → ℕ
      at x = layer_entry g b z (first_vertex g b z) (j - g.dims.x * g.dims.y * z) x

      go : (y < z) ⊎ (z ≤ y) → (z < y) ⊎ (y ≤ z) → cond (eqb y z) (at (cond (ltb y z) (map_entry g b j old) old)) (cond (ltb y z) (map_entry g b j old) old) ≡ cond (ltb y (z + 1))
          (map_entry g b j old) old
      go (inl h) q =
          ap (λ (t : Bool). cond t (at (cond (ltb y z) (map_entry g b j old) old)) (cond (ltb y z) (map_entry g b j old) old)) (ne_eqb y z (λ (e : y ≡ z). omega arith))
          ∙ ap (λ (t : Bool). cond t (map_entry g b j old) old) (lt-ltb y z h ∙ sym (lt-ltb y (z + 1) (omega arith)))
      go (inr h) (inl k) =
          ap (λ (t : Bool). cond t (at (cond (ltb y z) (map_entry g b j old) old)) (cond (ltb y z) (map_entry g b j old) old)) (ne_eqb y z (λ (e : y ≡ z). omega arith))
          ∙ ap (λ (t : Bool). cond t (map_entry g b j old) old) (le-ltb y z h ∙ sym (le-ltb y (z + 1) (omega arith)))
      go (inr h) (inr k) =
          let e : y ≡ z = omega arith in
          ap (λ (t : Bool). cond t (at (cond (ltb y z) (map_entry g b j old) old)) (cond (ltb y z) (map_entry g b j old) old)) (eq-eqb y z e)
          ∙ ap (λ (t : Bool). at (cond t (map_entry g b j old) old)) (le-ltb y z h)
          ∙ layer-entry z j old e
          ∙ sym (ap (λ (t : Bool). cond t (map_entry g b j old) old) (lt-ltb y (z + 1) (omega arith)))

  pub map_more : (z : ℕ) (l : List ℕ) → placed (entry_at g b z (first_vertex g b z)) 0 (placed (entry_to g b z) 0 l) ≡ placed (entry_to g b (z + 1)) 0 l
  map_more z l =
      placed-twice (entry_at g b z (first_vertex g b z)) (entry_to g b z) 0 l
      ∙ placed_by (λ (j x : ℕ). entry_at g b z (first_vertex g b z) j (entry_to g b z j x)) (entry_to g b (z + 1)) 0 0 l (λ i h x. entry_more z (0 + i) x)

-- ---- no layer yet, and all of them

module _ (g : Field) (b : Box) where
  pub outside : (j old : ℕ) → (T (in_box b (point_at g.dims j)) → ⊥) → map_entry g b j old ≡ old
  unfolding map_entry
  outside j old apart_from =
      let p = point_at g.dims j in
      ap (λ (t : Bool). cond t (cell_entry g b p) (cond (in_box b p) edge_entry old)) (is_false (is_cell b p) (λ (t : T (is_cell b p)). apart_from (cell-in-box b p t)))
      ∙ ap (λ (t : Bool). cond t edge_entry old) (is_false (in_box b p) apart_from)

  pub map-none : (l : List ℕ) → placed (entry_to g b b.low.z) 0 l ≡ l
  map-none l = placed-kept (entry_to g b b.low.z) 0 l (λ i h x. at (0 + i) x (less-or-not (point_at g.dims (0 + i)).z b.low.z))
    where
      at : (j x : ℕ) → ((point_at g.dims j).z < b.low.z) ⊎ (b.low.z ≤ (point_at g.dims j).z) → entry_to g b b.low.z j x ≡ x
      at j x (inl h) =
          ap (λ (t : Bool). cond t (map_entry g b j x) x) (lt-ltb (point_at g.dims j).z b.low.z h)
          ∙ outside j x (λ (t : T (in_box b (point_at g.dims j))). let w = within b (point_at g.dims j) t in omega arith)
      at j x (inr h) = ap (λ (t : Bool). cond t (map_entry g b j x) x) (le-ltb (point_at g.dims j).z b.low.z h)

  -- a point above max is none of the box
  pub map-all : (l : List ℕ) → placed (entry_to g b (b.high.z + 1)) 0 l ≡ placed (map_entry g b) 0 l
  map-all l = placed_by (entry_to g b (b.high.z + 1)) (map_entry g b) 0 0 l (λ i h x. at (0 + i) x (less-or-not (point_at g.dims (0 + i)).z (b.high.z + 1)))
    where
      at : (j x : ℕ) → ((point_at g.dims j).z < b.high.z + 1) ⊎ (b.high.z + 1 ≤ (point_at g.dims j).z) → entry_to g b (b.high.z + 1) j x ≡ map_entry g b j x
      at j x (inl h) = ap (λ (t : Bool). cond t (map_entry g b j x) x) (lt-ltb (point_at g.dims j).z (b.high.z + 1) h)
      at j x (inr h) =
          let p = point_at g.dims j in
          ap (λ (t : Bool). cond t (map_entry g b j x) x) (le-ltb p.z (b.high.z + 1) h)
          ∙ sym (outside j x (λ (t : T (in_box b p)). let w = within b p t in omega arith))

-- after the layers of cells, the last layer
pub map_last : (g : Field) (b : Box) → 0 < g.dims.x → 0 < g.dims.y → 0 < g.dims.x * g.dims.y → (l : List ℕ)
    → placed (last_at g.dims b) 0 (placed (entry_to g b b.high.z) 0 l) ≡ placed (map_entry g b) 0 l
map_last g b xs ys up l =
    placed_by (last_at g.dims b) (entry_at g b z (first_vertex g b z)) 0 0 (placed (entry_to g b z) 0 l)
    (λ i h x.
    let j = 0 + i in
    ap (λ (n : ℕ). cond (eqb (point_at g.dims j).z z) n x) (sym (last-is b g (first_vertex g b z) (j - g.dims.x * g.dims.y * z) x)))
    ∙ map_more g b xs ys up z l
    ∙ map-all g b l
  where
    z : ℕ
    z = b.high.z

-- ---- what a passed cell's entry is

pub map-number : (g : Field) (b : Box) → BoxFits g.dims b → (z : ℕ) (l : List ℕ) (c : GridPoint) → T (is_cell b c) → c.z ≤ z → index g.dims c < length l
    → get_or (placed (entry_to g b (z + 1)) 0 l) (index g.dims c) 0 ≡ cell_entry g b c
unfolding map_entry
map-number g b f z l c t h k =
    let w = cell-within b c t in
    let j = index g.dims c in
    let old = get_or l j 0 in
    let back : point_at g.dims j ≡ c = point-back g.dims c (omega arith) (omega arith) in
    get_d-placed (entry_to g b (z + 1)) 0 l j 0 k
    ∙ ap (λ (n : ℕ). entry_to g b (z + 1) n old) (zero-add j)
    ∙ ap (λ (q : GridPoint). cond (ltb q.z (z + 1)) (cond (is_cell b q) (cell_entry g b q) (cond (in_box b q) edge_entry old)) old) back
    ∙ ap (λ (s : Bool). cond s (cond (is_cell b c) (cell_entry g b c) (cond (in_box b c) edge_entry old)) old) (lt-ltb c.z (z + 1) (omega arith))
    ∙ ap (λ (s : Bool). cond s (cell_entry g b c) (cond (in_box b c) edge_entry old)) (is_true (is_cell b c) t)
