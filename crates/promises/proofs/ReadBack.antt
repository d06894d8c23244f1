-- What is read from what a call has written, its own lists afterwards and nothing else: the first 3V, 3V, 3V, V and I numbers are those of the rules, so the
-- vertices and faces that they show are those of its box. What stands behind the written numbers is never looked up. Assumes nothing.
use Prim.Native.Nat.{ℕ, ◌*◌}
use native.Mathlib.Omega.{arith}
use mathlib.Core.List.{List, map}
use mathlib.Core.Path.{◌≡◌, refl, ap, ap₂, ◌∙◌}
use lib.Ieee.{Float}
use lib.ListN.{length, length-map, take, drop}
use lib.Seq.{take_at}
use Rattle.lists.specs.Lists.{over}
use Rattle.rules.specs.Grid.{GridPoint}
use Rattle.rules.specs.Cell.{Vector}
use Rattle.rules.specs.Vertices.{vertices, vertex_position, vertex_normal, vertex_crossings}
use Rattle.rules.specs.Faces.{indices}
use Rattle.rules.specs.Call.{Buffers, flat_points, flat_vectors, written}
use Rattle.rules.specs.Cutting.{faces_seen, vertex_of, vertices_seen}
use Rattle.rules.proofs.Edges.{index-count}
use Rattle.rules.proofs.Seen.{length-points, length-vectors, seen, seen-number, vertices-seen}
use Rattle.promises.specs.Served.{Served, Done, piece_of, faces_read, vertices_read}
use Rattle.promises.proofs.Done.{done-counts, done-writes}

-- the first numbers of a list that was written over
vectors-first : (f : GridPoint → Vector) (vs : List GridPoint) (old : List Float) → take (3 * length vs) (over (flat_vectors (map f vs)) old) ≡ flat_vectors (map f vs)
vectors-first f vs old = take_at (flat_vectors (map f vs)) (drop (length (flat_vectors (map f vs))) old) (3 * length vs) (length-vectors f vs)

module _ (u : Served) (done : Done u) where
  abbrev vs : List GridPoint
  vs = vertices u.call.grid u.call.box

  abbrev is : List ℕ
  is = indices u.call.grid u.call.box u.call.flags

  pub positions-back : take (3 * u.says.vertices) u.after.positions ≡ flat_vectors (map (vertex_position u.call.grid) vs)
  unfolding written
  positions-back =
      ap₂ (λ (n : ℕ) (s : Buffers). take (3 * n) s.positions) (done-counts u done).0 (done-writes u done)
      ∙ vectors-first (vertex_position u.call.grid) vs u.before.positions

  pub normals-back : take (3 * u.says.vertices) u.after.normals ≡ flat_vectors (map (vertex_normal u.call.grid) vs)
  unfolding written
  normals-back =
      ap₂ (λ (n : ℕ) (s : Buffers). take (3 * n) s.normals) (done-counts u done).0 (done-writes u done)
      ∙ vectors-first (vertex_normal u.call.grid) vs u.before.normals

  pub cells-back : take (3 * u.says.vertices) u.after.cells ≡ flat_points vs
  unfolding written
  cells-back =
      ap₂ (λ (n : ℕ) (s : Buffers). take (3 * n) s.cells) (done-counts u done).0 (done-writes u done)
      ∙ take_at (flat_points vs) (drop (length (flat_points vs)) u.before.cells) (3 * length vs) (length-points vs)

  pub crossings-back : take u.says.vertices u.after.crossings ≡ map (vertex_crossings u.call.grid) vs
  unfolding written
  crossings-back =
      let numbers = map (vertex_crossings u.call.grid) vs in
      ap₂ (λ (n : ℕ) (s : Buffers). take n s.crossings) (done-counts u done).0 (done-writes u done)
      ∙ take_at numbers (drop (length numbers) u.before.crossings) (length vs) (length-map vs (vertex_crossings u.call.grid))

  pub indices-back : take u.says.indices u.after.indices ≡ is
  unfolding written
  indices-back =
      ap₂ (λ (n : ℕ) (s : Buffers). take n s.indices) (done-counts u done).1 (done-writes u done)
      ∙ take_at is (drop (length is) u.before.indices) (length is) refl

  pub faces-back : faces_read u ≡ seen u.call.grid (piece_of u.call)
  faces-back = λ i. faces_seen (cells-back i) (positions-back i) (indices-back i)

  pub vertices-back : vertices_read u ≡ map (vertex_of u.call.grid) vs
  vertices-back =
      (λ i. vertices_seen ((done-counts u done).0 i) (cells-back i) (positions-back i) (normals-back i) (crossings-back i)) ∙ vertices-seen u.call.grid vs

  -- no index is left unread: each face takes six of the I
  pub all_read : u.says.indices ≡ 6 * length (faces_read u)
  all_read =
      let c = u.call in
      omega (arith, (done-counts u done).1, index-count c.grid c.box c.flags, ap length faces-back, seen-number c.grid (piece_of c))
