-- Document 01, "Under the caps every number written is finite, .. and the rounded position lies within the cell on each axis": of what a call that is
-- done has written, in the lists afterwards. From under-caps of each vertex. Assumes nothing.
use Prim.Native.Nat.{ℕ, ◌+◌, ◌*◌, ◌<◌}
use native.Mathlib.Omega.{arith}
use mathlib.Core.List.{List, map}
use mathlib.Core.Path.{sym, subst}
use lib.Dec.{T}
use lib.Ieee.{Float, nan, binary32, fits}
use lib.ListN.{length, get_or, length-map, drop, get_or-map}
use Rattle.rules.specs.Grid.{GridPoint, index, in_box, value}
use Rattle.lists.specs.Lists.{over}
use Rattle.rules.specs.Cell.{Vector}
use Rattle.rules.specs.Vertices.{vertices, vertex_position, vertex_normal}
use Rattle.rules.specs.Call.{Call, Buffers, vertex_count, flat_points, flat_vectors, written}
use Rattle.lists.proofs.Lists.{all-at, by-threes}
use Rattle.rules.proofs.Indexes.{index_below}
use Rattle.rules.proofs.Inside.{vertices-all}
use Rattle.rules.proofs.Accepted.{Accepted}
use Rattle.rules.proofs.Seen.{ThreeAt, three-at, three-over, length-points, length-vectors}
use Rattle.cube.proofs.Corners.{Finite}
use Rattle.cube.proofs.ClosedCell.{InCell}
use Rattle.cube.proofs.UnderCaps.{UnderCaps, under-caps}
use Rattle.promises.specs.Served.{Served, Done}
use Rattle.promises.proofs.Runs.{Run, served, BedRun, bed_served}
use Rattle.promises.proofs.Done.{done-accepts, done-counts, done-writes}

-- ---- three numbers for each vertex

-- any cell, where a list is too short
pub origin : GridPoint
origin = record { x = 0; y = 0; z = 0 }

pub points-at : (vs : List GridPoint) (old : List ℕ) (v : ℕ) → v < length vs
    → ThreeAt (λ (c : GridPoint). c.x) (λ (c : GridPoint). c.y) (λ (c : GridPoint). c.z) (over (flat_points vs) old) v 0 (get_or vs v origin)
points-at vs old v k =
    three-over (λ (c : GridPoint). c.x) (λ (c : GridPoint). c.y) (λ (c : GridPoint). c.z) (flat_points vs) (drop (length (flat_points vs)) old) v 0 (get_or vs v origin)
    (omega (arith, length-points vs)) (three-at (λ (c : GridPoint). c.x) (λ (c : GridPoint). c.y) (λ (c : GridPoint). c.z) vs v 0 origin k)

vectors-at : (f : GridPoint → Vector) (vs : List GridPoint) (old : List Float) (v : ℕ) → v < length vs
    → ThreeAt (λ (w : Vector). w.x) (λ (w : Vector). w.y) (λ (w : Vector). w.z) (over (flat_vectors (map f vs)) old) v nan (f (get_or vs v origin))
vectors-at f vs old v k =
    three-over (λ (w : Vector). w.x) (λ (w : Vector). w.y) (λ (w : Vector). w.z) (flat_vectors (map f vs)) (drop (length (flat_vectors (map f vs))) old) v nan
    (f (get_or vs v origin))
    (omega (arith, length-vectors f vs))
    (subst (ThreeAt (λ (w : Vector). w.x) (λ (w : Vector). w.y) (λ (w : Vector). w.z) (flat_vectors (map f vs)) v nan) (get_or-map f vs v origin)
    (three-at (λ (w : Vector). w.x) (λ (w : Vector). w.y) (λ (w : Vector). w.z) (map f vs) v nan (f origin) (rw (length-map vs f) k)))

-- ---- what is written, vertex by vertex

-- the numbers that stand at i in the lists: the position within its cell, position and normal finite
record Sound (s : Buffers) (i : ℕ) : Type 0 where
  inside : InCell (get_or s.cells i 0) (get_or s.positions i nan)
  position : Finite (get_or s.positions i nan)
  normal : Finite (get_or s.normals i nan)

module _ (c : Call) (s : Buffers) (a : Accepted c.grid c.size (length s.map) c.box)
    (values32 : (p : GridPoint) → T (in_box c.box p) → T (fits binary32 (value c.grid p))) where
  vertex-caps : (v : ℕ) → v < vertex_count c → UnderCaps c.grid (get_or (vertices c.grid c.box) v origin)
  vertex-caps v k =
      let t = all-at (vertices-all c.grid c.box) v k origin in
      under-caps c.grid c.box (get_or (vertices c.grid c.box) v origin) values32 a.dims a.box a.distance t.0 t.1

  written-sound : (i : ℕ) → i < 3 * vertex_count c → Sound (written c s) i
  unfolding written
  written-sound = by-threes (Sound (written c s)) (vertex_count c) three
    where
      three : (v : ℕ) → v < vertex_count c → Sound (written c s) (3 * v) × Sound (written c s) (3 * v + 1) × Sound (written c s) (3 * v + 2)
      three v k =
          let caps = vertex-caps v k in
          let p = points-at (vertices c.grid c.box) s.cells v k in
          let x = vectors-at (vertex_position c.grid) (vertices c.grid c.box) s.positions v k in
          let n = vectors-at (vertex_normal c.grid) (vertices c.grid c.box) s.normals v k in (
            record { inside = rw (p.first, x.first) caps.inside.0; position = rw x.first caps.finite.0.0; normal = rw n.first caps.finite.1.0 },
            record { inside = rw (p.second, x.second) caps.inside.1; position = rw x.second caps.finite.0.1; normal = rw n.second caps.finite.1.1 },
            record { inside = rw (p.third, x.third) caps.inside.2; position = rw x.third caps.finite.0.2; normal = rw n.third caps.finite.1.2 },
          )

-- ---- the law

pub record ClosedMesh (u : Served) : Type 0 where
  -- "the rounded position lies within the cell on each axis": for the vertex v and the axis a, with n and x the numbers at 3·v + a of cells and of
  -- positions, n · den x ≤ num x ≤ (n + 1) · den x, and the sign of x is clear
  pub inside : (v a : ℕ) → v < u.says.vertices → a < 3 → InCell (get_or u.after.cells (3 * v + a) 0) (get_or u.after.positions (3 * v + a) nan)
  -- "every number written is finite"
  pub finite : (i : ℕ) → i < 3 * u.says.vertices → Finite (get_or u.after.positions i nan) × Finite (get_or u.after.normals i nan)

pub closed-mesh : (u : Served) → Done u → ClosedMesh u
closed-mesh u done = record { inside = λ v a k l. (sound (3 * v + a) (omega arith)).inside; finite = λ i k. ((sound i k).position, (sound i k).normal) }
  where
    -- condition 3 lets each point of the box stand in the grid, whose numbers are binary32 values
    values32 : (p : GridPoint) → T (in_box u.call.box p) → T (fits binary32 (value u.call.grid p))
    values32 p t = u.numbers (index u.call.grid.dims p)
        (index_below u.call.grid.dims u.call.box u.call.size p (done-accepts u done).box (done-accepts u done).length t)

    sound : (i : ℕ) → i < 3 * u.says.vertices → Sound u.after i
    sound i k =
        subst (λ (s : Buffers). Sound s i) (sym (done-writes u done))
        (written-sound u.call u.before (done-accepts u done) values32 i (omega (arith, (done-counts u done).0)))

-- of every call of surface_nets, and of bed_surface_nets, that answers 0
pub surface-nets-closed : (u : Run) → Done (served u) → ClosedMesh (served u)
surface-nets-closed u = closed-mesh (served u)

pub bed-surface-nets-closed : (u : BedRun) → Done (bed_served u) → ClosedMesh (bed_served u)
bed-surface-nets-closed u = closed-mesh (bed_served u)
