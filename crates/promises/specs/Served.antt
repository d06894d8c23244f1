-- A call of document 01 with what came of it, as the public contracts say it, and the faces and vertices that are read back from what it wrote.
-- Definitions only. Assumes nothing.
use Rattle.std.specs.Prelude.{ℕ, ◌*◌, ◌<◌, ◌≡◌, List, T, get_or, take}
use Rattle.std.specs.Float.{binary32}
use Rattle.std.specs.Float.Ieee.{fits}
use Rattle.rules.specs.Grid.{GridPoint}
use Rattle.rules.specs.Call.{Call, Buffers, Answer, answer, afterwards, room}
use Rattle.rules.specs.Cutting.{Piece, Face, point_in, faces_seen, Vertex, vertices_seen}

-- what went in, the lent lists as they were, the answer with V and I, and the lent lists afterwards; the last three are what the
-- contracts of surface_nets and bed_surface_nets say: the two equations, and that the grid's numbers are binary32 values
pub record Served : Type 0 where
  pub call : Call
  pub before : Buffers
  pub says : Answer
  pub after : Buffers
  pub answered : says ≡ answer call (room before)
  pub left : after ≡ afterwards call before
  pub numbers : (i : ℕ) → i < call.size → T (fits binary32 (call.grid.dist i))

-- answer 0
abbrev pub Done : Served → Type 0
Done u = u.says.number ≡ 0

-- the box and the flags of a call
abbrev pub piece_of : Call → Piece
piece_of c = record { box = c.box; flags = c.flags }

-- the faces of a mesh, from what was written alone: the first I numbers of the index list in sixes, each number looked up in the first 3V numbers of cells and
-- of positions. A six is labelled with the edge that its own cells show, and is no face where they show none.
abbrev pub faces_read : Served → List Face
faces_read u =
    let n = 3 * u.says.vertices in
    faces_seen (take n u.after.cells) (take n u.after.positions) (take u.says.indices u.after.indices)

-- the cell of the vertex v and its number of crossings, as they stand in the lists
abbrev pub cell_read : Served → ℕ → GridPoint
cell_read u v = point_in u.after.cells v

abbrev pub crossings_read : Served → ℕ → ℕ
crossings_read u v = get_or u.after.crossings v 0

-- the vertices of a mesh: three numbers each of the first 3V of cells, positions and normals, and one of the first V of the crossings
abbrev pub vertices_read : Served → List Vertex
vertices_read u =
    let n = 3 * u.says.vertices in
    vertices_seen u.says.vertices (take n u.after.cells) (take n u.after.positions) (take n u.after.normals) (take u.says.vertices u.after.crossings)
