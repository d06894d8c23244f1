-- The quad that the code puts for an edge that gives a face is the face that the rules say, whichever the axis. Assumes nothing.
use Rattle.std.proofs.Common.{◌≡◌, ℕ, ◌+◌, ◌-◌, ◌<◌, true, false, T, List, length, get_or, sym, refl, ap, arith}
use lib.Ieee.{Float, nan}
use Rattle.rules.specs.Grid.{GridPoint, Axis, axis_x, axis_y, axis_z, Box, Field, is_cell, value}
use Rattle.rules.specs.Cell.{negative}
use Rattle.rules.specs.Vertices.{surface_cell, layer_vertices}
use Rattle.rules.specs.Faces.{Flags, edge, gives, cell2, cell3, cell4}
use Rattle.rules.proofs.FourCells.{Four, Owned, owned-says, four-in, four-on, gives-owned}
use Rattle.grid.specs.Layers.{in_layer}
use Rattle.layer_faces.specs.declared.Firsts.{Firsts}
use Rattle.layer_faces.specs.Below.{Kept, face_over, Standing}
use Rattle.layer_faces.specs.Quads.{Seen, cell_at, way, own, looked, quad_at}
use Rattle.layer_faces.proofs.Steps.{left-of, front_of, across-of}
use Rattle.layer_faces.proofs.Lookups.{kept_of, Names, names-own, names-here, names-below, quad_is}

module _ (g : Field) (b : Box) (m : Flags) (z : ℕ) (first : Firsts) (cs mp : List ℕ) (ps : List Float) (under : List ℕ) (kept : List Float)
    (h : Standing g b first.here z cs mp ps) (v : ℕ) (within : v < length (layer_vertices g b z))
    (is : cell_at cs z v ≡ get_or (layer_vertices g b z) v (cell_at cs z v)) where
  abbrev c : GridPoint
  c = cell_at cs z v

  abbrev rest : Kept
  rest = kept_of first under kept

  abbrev Named : Seen → GridPoint → Type 0
  Named s q = Names g b first.here z rest s q

  module _ (a : Axis) (t : T (gives g b m (edge a c))) where
    o : Owned b m (edge a c)
    o = owned-says b m (edge a c) (gives-owned g b m (edge a c) t)

    i : Four (λ (q : GridPoint). T (is_cell b q)) (edge a c)
    i = four-in b m (edge a c) (gives-owned g b m (edge a c) t)

    s : Four (λ (q : GridPoint). T (surface_cell g q)) (edge a c)
    s = four-on g b m (edge a c) t

  -- the vertex itself, a cell of the layer so many entries back, and one of the layer below
  at_own : Named (own first.here ps v) c
  at_own = names-own g b z first mp ps under kept cs h v c within is refl

  at_here : (q : GridPoint) → T (is_cell b q) → T (surface_cell g q) → q.z ≡ z → (back : ℕ) → in_layer g.dims c - back ≡ in_layer g.dims q
      → Named (looked first mp ps under kept (in_layer g.dims c) (way true back)) q
  at_here q t on e back k = names-here g b z first mp ps under kept cs h q t on e (in_layer g.dims c) back k

  at-below : (q : GridPoint) → q.z < z → (back : ℕ) → in_layer g.dims c - back ≡ in_layer g.dims q
      → Named (looked first mp ps under kept (in_layer g.dims c) (way false back)) q
  at-below q e back k = names-below g b z first mp ps under kept q (λ (w : q.z ≡ z). omega arith) (in_layer g.dims c) back k

  -- for x (B, C) are (y, z), for y (z, x), for z (x, y)
  module _ (lower : List Float) (sign : get_or lower (in_layer g.dims (cell_at cs z v)) nan ≡ value g (cell_at cs z v)) where
    pub face-is : (a : Axis) → T (gives g b m (edge a (cell_at cs z v)))
        → quad_at first mp ps under kept lower g.dims.x cs v a ≡ face_over g b first.here z (kept_of first under kept) (edge a (cell_at cs z v))
    unfolding quad_at
    face-is axis_x t =
        let up = (o axis_x t).above_b in
        let deep = (o axis_x t).above_c in
        let y : 0 < c.y = omega arith in
        quad_is g b first.here z rest (edge axis_x c) _ _ _ _ (ap negative sign) at_own
        (at_here (cell2 (edge axis_x c)) (i axis_x t).two (s axis_x t).two refl g.dims.x (omega (arith, front_of g.dims c y)))
        (at-below (cell3 (edge axis_x c)) (omega arith) 0 (omega arith))
        (at-below (cell4 (edge axis_x c)) (omega arith) g.dims.x (omega (arith, front_of g.dims c y)))
    face-is axis_y t =
        let deep = (o axis_y t).above_b in
        let up = (o axis_y t).above_c in
        let x : 0 < c.x = omega arith in
        quad_is g b first.here z rest (edge axis_y c) _ _ _ _ (ap negative sign) at_own
        (at-below (cell2 (edge axis_y c)) (omega arith) 0 (omega arith))
        (at_here (cell3 (edge axis_y c)) (i axis_y t).three (s axis_y t).three refl 1 (sym (left-of g.dims c x)))
        (at-below (cell4 (edge axis_y c)) (omega arith) 1 (omega (arith, left-of g.dims c x)))
    face-is axis_z t =
        let right = (o axis_z t).above_b in
        let up = (o axis_z t).above_c in
        let x : 0 < c.x = omega arith in
        let y : 0 < c.y = omega arith in
        quad_is g b first.here z rest (edge axis_z c) _ _ _ _ (ap negative sign) at_own
        (at_here (cell2 (edge axis_z c)) (i axis_z t).two (s axis_z t).two refl 1 (sym (left-of g.dims c x)))
        (at_here (cell3 (edge axis_z c)) (i axis_z t).three (s axis_z t).three refl g.dims.x (omega (arith, front_of g.dims c y)))
        (at_here (cell4 (edge axis_z c)) (i axis_z t).four (s axis_z t).four refl (g.dims.x + 1) (omega (arith, across-of g.dims c x y)))
