-- What marking a layer leaves depends on two layers of distances alone. From the vertices of the layer, which do. Assumes nothing.
use Prim.Native.Nat.{ℕ, ◌*◌}
use mathlib.Core.Bool.{Bool, true, false, cond}
use mathlib.Core.List.{map}
use mathlib.Core.Path.{◌≡◌, refl, ap₂}
use lib.Dec.{T}
use lib.Ieee.{Float}
use lib.Seq.{sets}
use Rattle.lists.specs.Lists.{placed}
use Rattle.rules.specs.Grid.{GridPoint, Box, Field, index, is_cell, in_box, value}
use Rattle.rules.specs.Vertices.{null_vertex, edge_entry}
use Rattle.rules.specs.Call.{flat_vectors, flat_points}
use Rattle.lists.proofs.Tests.{is-test}
use Rattle.grid.proofs.Slab.{slab, grid, layer-alike, surface-alike, number-alike, positions-alike, normals-alike, crossings-alike}
use Rattle.layer_vertices.specs.declared.Next.{Next}
use Rattle.layer_vertices.specs.Marked.{Lists, marked, cell_number, layer_point, layer_entry}

module _ (d : GridPoint) (f f' : ℕ → Float) (b : Box) (z : ℕ) (agree : (p : GridPoint) → T (in_box (slab b z) p) → value (grid d f) p ≡ value (grid d f') p) where
  abbrev g : Field
  g = grid d f

  abbrev g' : Field
  g' = grid d f'

  pub entry-alike : (first j old : ℕ) → layer_entry (grid d f) b z first j old ≡ layer_entry (grid d f') b z first j old
  unfolding layer_entry
  entry-alike first j old = go (is_cell b p) refl
    where
      p : GridPoint
      p = layer_point d z j

      rest : ℕ
      rest = cond (in_box b p) edge_entry old

      go : (t : Bool) → is_cell b p ≡ t → cond t (cell_number g b first p) rest ≡ cond t (cell_number g' b first p) rest
      go true e = ap₂ (λ (s : Bool) (n : ℕ). cond s n null_vertex) (surface-alike d f f' b z agree p (is-test (is_cell b p) e) refl) (number-alike d f f' b z agree first p refl)
      go false e = refl

  pub marked-alike : (next : Next) (s : Lists) → marked (grid d f) b z next s ≡ marked (grid d f') b z next s
  unfolding marked
  marked-alike next s =
      λ i.
      record {
        positions = sets s.positions (3 * next.place) (flat_vectors (positions-alike d f f' b z agree i));
        normals = sets s.normals (3 * next.place) (flat_vectors (normals-alike d f f' b z agree i));
        cells = sets s.cells (3 * next.place) (flat_points (layer-alike d f f' b z agree i));
        strides = sets s.strides next.place (map (index d) (layer-alike d f f' b z agree i));
        crossings = sets s.crossings next.place (crossings-alike d f f' b z agree i);
        map = placed (λ (j old : ℕ). entry-alike next.number j old i) 0 s.map;
      }
