-- Document 01, "Under the caps every number written is finite, each s component lies in [0, 1], and the rounded position lies within the cell on each axis":
-- for every surface cell of a box that conditions 1, 2 and 5 let pass. Assumes nothing.
use Rattle.std.proofs.Common.{ℕ, ◌<◌, not, T, refl, arith}
use lib.Ieee.{binary32, fits}
use Rattle.rounding.specs.Values.{UpTo}
use Rattle.rules.specs.Grid.{GridPoint, Box, Field, value, in_box, is_cell}
use Rattle.rules.specs.Cell.{corner_of, values, centroid}
use Rattle.rules.specs.Vertices.{surface_cell, vertex_position, vertex_normal}
use Rattle.rules.specs.Call.{bad_dimensions, bad_box, bad_distance}
use Rattle.rules.proofs.Indexes.{cell-within, corner-in-box, small, box-fits}
use Rattle.rules.proofs.Accepted.{distances-ok}
use Rattle.cube.proofs.Corners.{Corners, Each, Finite, corners-of-values}
use Rattle.cube.proofs.UnitCentroid.{centroid-up}
use Rattle.cube.proofs.ClosedCell.{Counted, OnAxes, InCell, closed-cell, position-finite}
use Rattle.cube.proofs.Finite.{Capped, capped-cell, finite-normal-capped}

-- conditions 1 and 2: a cell's coordinates are below 2 ^ 24
pub cell-counted : (d : GridPoint) (b : Box) (c : GridPoint) → T (not (bad_dimensions d)) → T (not (bad_box d b)) → T (is_cell b c) → Counted c
cell-counted d b c h k t =
    let n = small d h in
    let f = box-fits d b k in
    let w = cell-within b c t in
    omega arith

-- the distances at the corners of each cell of the box are values of binary32 within the cap
pub capped-corners : (g : Field) (b : Box) (c : GridPoint) → ((p : GridPoint) → T (in_box b p) → T (fits binary32 (value g p))) → T (not (bad_distance g b)) → T (is_cell b c)
    → Corners Capped (values g c)
capped-corners g b c f h t =
    corners-of-values Capped g c
    (λ (i : ℕ) (l : i < 8).
    let p : T (in_box b (corner_of c i)) = corner-in-box b c i t l in
    (f (corner_of c i) p, distances-ok g b h (corner_of c i) p))

pub record UnderCaps (g : Field) (c : GridPoint) : Type 0 where
  -- "each s component lies in [0, 1]"
  pub unit : Each (UpTo 1) (centroid (values g c))
  -- "the rounded position lies within the cell on each axis"
  pub inside : OnAxes InCell c (vertex_position g c)
  -- "every number written is finite"
  pub finite : Each Finite (vertex_position g c) × Each Finite (vertex_normal g c)

pub under-caps : (g : Field) (b : Box) (c : GridPoint) → ((p : GridPoint) → T (in_box b p) → T (fits binary32 (value g p))) → T (not (bad_dimensions g.dims)) → T
    (not (bad_box g.dims b))
    → T (not (bad_distance g b)) → T (is_cell b c) → T (surface_cell g c) → UnderCaps g c
under-caps g b c f h k l t s =
    let q = capped-corners g b c f l t in
    let n = cell-counted g.dims b c h k t in
    let d = capped-cell (values g c) refl q in
    record {
      unit = centroid-up (values g c) d s;
      inside = closed-cell (values g c) c d s n;
      finite = (position-finite (values g c) c d s n, finite-normal-capped (values g c) refl q s);
    }
