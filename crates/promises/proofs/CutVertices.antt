-- Document 01, "Both pieces hold the cells of layer k, so vertices there come twice", of what the two calls on the pieces of a cut have written: the vertices in
-- their lists, by cell, position, normal and number of crossings, are those of the whole, and once more those of the layer k. Any flags: vertices know none. Assumes nothing.
use Prim.Native.Nat.{ℕ, ◌≤◌, ◌<◌}
use mathlib.Core.List.{List, ◌++◌, map, map-append}
use mathlib.Core.Path.{◌≡◌, ap, ◌∙◌}
use lib.Dec.{eqb}
use lib.Ieee.{Float}
use lib.ListN.{length}
use Rattle.lists.specs.Lists.{keep}
use Rattle.rules.specs.Grid.{Axis, Box, Field, along}
use Rattle.rules.specs.Vertices.{vertices}
use Rattle.rules.specs.Call.{Call}
use Rattle.rules.specs.Cutting.{Piece, lower_piece, upper_piece, Vertex, vertex_of}
use Rattle.lists.proofs.Lists.{keep-map}
use Rattle.lists.proofs.Permutation.{Perm, perm-map}
use Rattle.rules.proofs.Accepted.{cut-accepted}
use Rattle.rules.proofs.Twice.{layer_of, vertices-twice}
use Rattle.grid.specs.declared.Extent.{Extent}
use Rattle.promises.specs.Served.{Served, vertices_read}
use Rattle.promises.proofs.Runs.{Run, served, BedRun, bed_served}
use Rattle.promises.proofs.ReadBack.{vertices-back}
use Rattle.promises.proofs.CutMesh.{field_in, Passing, Meshed, piece-done}

-- the vertices whose cell is of the layer k on an axis
abbrev pub in_layer : Axis → ℕ → List Vertex → List Vertex
in_layer a k vs = keep (λ (v : Vertex). eqb (along a v.cell) k) vs

-- the vertices that a box's surface cells define
abbrev pub defined : Field → Box → List Vertex
defined g b = map (vertex_of g) (vertices g b)

module _ {U : Type 0} (made : U → Served) (grid : List Float) (dims : Extent) where
  piece-vertices : (q : Piece) (m : Meshed made grid dims q) → Passing grid dims q.box → vertices_read (made m.run) ≡ defined (field_in grid dims) q.box
  piece-vertices q m ok = vertices-back (made m.run) (piece-done made grid dims q m ok) ∙ ap (λ (c : Call). defined c.grid c.box) m.asked

  -- one call for the lower piece of a cut, and one for the upper
  abbrev pub both_read : {l u : Piece} → Meshed made grid dims l → Meshed made grid dims u → List Vertex
  both_read lower upper = vertices_read (made lower.run) ++ vertices_read (made upper.run)

  -- "min ≤ k < max there", of a box that conditions 1 to 5 let pass
  module _ (a : Axis) (k : ℕ) (w : Piece) (ok : Passing grid dims w.box) (l : along a w.box.low ≤ k) (h : k < along a w.box.high)
      (lower : Meshed made grid dims (lower_piece a k w)) (upper : Meshed made grid dims (upper_piece a k w)) where
    pub cut-vertices : Perm (both_read lower upper) (defined (field_in grid dims) w.box ++ in_layer a k (defined (field_in grid dims) w.box))
    cut-vertices =
        let g = field_in grid dims in
        let (low, high) = cut-accepted g (length grid) (length grid) a k w l h ok in
        rw (piece-vertices (lower_piece a k w) lower low, piece-vertices (upper_piece a k w) upper high)
        (rw (← map-append (vertex_of g) (vertices g (lower_piece a k w).box) (vertices g (upper_piece a k w).box))
        (rw (keep-map (λ (v : Vertex). eqb (along a v.cell) k) (vertex_of g) (vertices g w.box))
        (rw (← map-append (vertex_of g) (vertices g w.box) (layer_of a k (vertices g w.box))) (perm-map (vertex_of g) (vertices-twice g a k w l h)))))

    -- beside a call for the whole
    pub cut-vertices-whole : (whole : Meshed made grid dims w) → Perm (both_read lower upper) (vertices_read (made whole.run) ++ in_layer a k (vertices_read (made whole.run)))
    cut-vertices-whole whole = rw (piece-vertices w whole ok) cut-vertices

-- ---- of surface_nets, and of bed_surface_nets

module _ (grid : List Float) (dims : Extent) (a : Axis) (k : ℕ) (w : Piece) (ok : Passing grid dims w.box) (l : along a w.box.low ≤ k) (h : k < along a w.box.high) where
  pub surface-nets-cut-vertices : (lower : Meshed {U = Run} served grid dims (lower_piece a k w))
      → (upper : Meshed {U = Run} served grid dims (upper_piece a k w)) (whole : Meshed {U = Run} served grid dims w)
      → Perm (both_read served grid dims lower upper) (vertices_read (served whole.run) ++ in_layer a k (vertices_read (served whole.run)))
  surface-nets-cut-vertices = cut-vertices-whole served grid dims a k w ok l h

  pub bed-surface-nets-cut-vertices : (lower : Meshed {U = BedRun} bed_served grid dims (lower_piece a k w))
      → (upper : Meshed {U = BedRun} bed_served grid dims (upper_piece a k w)) (whole : Meshed {U = BedRun} bed_served grid dims w)
      → Perm (both_read bed_served grid dims lower upper) (vertices_read (bed_served whole.run) ++ in_layer a k (vertices_read (bed_served whole.run)))
  bed-surface-nets-cut-vertices = cut-vertices-whole bed_served grid dims a k w ok l h
