-- Document 02, request 13, of what a call that is done has written: the number of a vertex is that of the crossed edges of the cell that stands beside it, 3 to
-- 12 and never 10 or 11; so it is the same for a cell of two calls on one grid. Assumes nothing.
use Prim.Native.Nat.{ℕ, ◌<◌}
use native.Mathlib.Omega.{arith}
use mathlib.Core.List.{List, map}
use mathlib.Core.Path.{◌≡◌, refl, sym, ap, subst, ◌∙◌}
use lib.ListN.{length, get_or, length-map, drop, get_or-append}
use Rattle.rules.specs.Grid.{GridPoint, Field}
use Rattle.rules.specs.Cell.{values}
use Rattle.rules.specs.Vertices.{vertices, vertex_crossings}
use Rattle.rules.specs.Call.{Buffers, written}
use Rattle.rules.specs.Cutting.{point_in}
use Rattle.lists.proofs.Lists.{all-at}
use Rattle.rules.proofs.Inside.{vertices-all}
use Rattle.rules.proofs.Crossings.{Possible, crossings-possible}
use Rattle.rules.proofs.Seen.{one_at}
use Rattle.promises.specs.Served.{Served, Done, cell_read, crossings_read}
use Rattle.promises.proofs.Runs.{Run, served, BedRun, bed_served}
use Rattle.promises.proofs.Done.{done-counts, done-writes}
use Rattle.promises.proofs.ClosedMesh.{origin, points-at}

module _ (u : Served) (done : Done u) (v : ℕ) (k : v < u.says.vertices) where
  abbrev g : Field
  g = u.call.grid

  abbrev vs : List GridPoint
  vs = vertices u.call.grid u.call.box

  below : v < length (vertices u.call.grid u.call.box)
  below = omega (arith, (done-counts u done).0)

  cell-at : cell_read u v ≡ get_or (vertices u.call.grid u.call.box) v origin
  unfolding written
  cell-at =
      let p = points-at vs u.before.cells v below in
      ap (λ (s : Buffers). point_in s.cells v) (done-writes u done) ∙ λ i. record { x = p.first i; y = p.second i; z = p.third i }

  number_at : crossings_read u v ≡ vertex_crossings u.call.grid (get_or (vertices u.call.grid u.call.box) v origin)
  unfolding written
  number_at =
      let numbers = map (vertex_crossings g) vs in
      ap (λ (s : Buffers). get_or s.crossings v 0) (done-writes u done)
      ∙ get_or-append numbers (drop (length numbers) u.before.crossings) 0 v (omega (arith, below, length-map vs (vertex_crossings g)))
      ∙ one_at (vertex_crossings g) vs v 0 origin below

  -- "how many edges crossed", of the vertex's own cell
  pub written-crossings : crossings_read u v ≡ vertex_crossings u.call.grid (cell_read u v)
  written-crossings = number_at ∙ ap (vertex_crossings g) (sym cell-at)

  -- "their number, 3 to 12"
  pub written-possible : Possible (crossings_read u v)
  written-possible =
      let c = get_or vs v origin in
      let t = all-at (vertices-all g u.call.box) v below origin in
      subst Possible (sym number_at) (crossings-possible (values g c) refl t.1)

-- the same number for a cell of two calls on one grid
pub one_number : (u u' : Served) → Done u → Done u' → u.call.grid ≡ u'.call.grid → (v v' : ℕ) → v < u.says.vertices → v' < u'.says.vertices
    → cell_read u v ≡ cell_read u' v' → crossings_read u v ≡ crossings_read u' v'
one_number u u' d d' same v v' k k' e =
    written-crossings u d v k ∙ (λ i. vertex_crossings (same i) (e i)) ∙ sym (written-crossings u' d' v' k')

-- ---- of surface_nets, and of bed_surface_nets

pub surface-nets-crossings : (u : Run) → Done (served u) → (v : ℕ) → v < (served u).says.vertices
    → (crossings_read (served u) v ≡ vertex_crossings (served u).call.grid (cell_read (served u) v)) × Possible (crossings_read (served u) v)
surface-nets-crossings u d v k = (written-crossings (served u) d v k, written-possible (served u) d v k)

pub bed-surface-nets-crossings : (u : BedRun) → Done (bed_served u) → (v : ℕ) → v < (bed_served u).says.vertices
    → (crossings_read (bed_served u) v ≡ vertex_crossings (bed_served u).call.grid (cell_read (bed_served u) v)) × Possible (crossings_read (bed_served u) v)
bed-surface-nets-crossings u d v k = (written-crossings (bed_served u) d v k, written-possible (bed_served u) d v k)
