-- Document 01, "Bench grids": each case that it marks P, and some more, as one table that the kernel computes from the definitions, and one law
-- that gives each entry. The wanted numbers are document 01's own where it gives them, and else what the published Rust makes of the same calls
-- (crates/bench_grids/stdout). Vectors, beside this, adds numbers of the Rust on which slips of the arithmetic show. Assumes nothing.
use Prim.Native.Nat.{ℕ, zero, suc, ◌/◌, ◌%◌, ◌^◌, ◌<◌}
use mathlib.Core.Bool.{Bool, true, false, ◌&&◌, cond}
use mathlib.Core.List.{List, [], ◌∷◌, ◌++◌, map}
use mathlib.Core.Path.{◌≡◌, refl, ap₂}
use native.Mathlib.Nat.{not-suc-le-zero, le_of_suc-le-suc}
use native.Mathlib.Omega.{arith}
use lib.Dec.{T, eqb, eqb→eq}
use lib.IntN.{pos, negsuc}
use lib.Count.{count_trailing_zeros}
use lib.ListN.{length, get_or, replicate}
use lib.Ieee.{Float, nan, inf, fin, binary32, add, sub, mul, div, lt, of_int, round, size, units, odd, neg, sum, span, climb, to_bits}
use lib.Ieee.Fits.{and_l, and_r}
use Rattle.lists.specs.Lists.{run, up_to, keep, many, some, joined, place, placed}
use Rattle.rules.specs.Grid.{GridPoint, axis_x, axis_y, Field, index}
use Rattle.rules.specs.Cell.{Vector, float, zero32, one32, squared_distance, fraction, point_between, crossing_point, crossing_points, summed, crossings, centroid, position, normal}
use Rattle.rules.specs.Vertices.{row_cells, layer_cells, cells, layer_vertices, vertices, first_vertex, vertex_position, vertex_normal, vertex_crossings, cell_entry, map_entry}
use Rattle.rules.specs.Faces.{
  Edge,
  edge,
  all_three,
  owned,
  changes,
  cell_edges,
  layer_edges,
  edges,
  cell1,
  cell2,
  cell3,
  cell4,
  shorter,
  face_cells,
  layer_indices,
  indices,
  layer_points,
  points,
  changing_edges,
}
use Rattle.rules.specs.Call.{Call, Buffers, room, Answer, bad_dimensions, bad_box, bad_length, beyond, bad_layer, bad_distance, room_answer, answer, written, afterwards}
use Rattle.rules.specs.Cutting.{Piece, Cuts, uncut, cut, lower_piece, upper_piece, pieces, Fits}
use Rattle.rules.proofs.Edges.{same_edge}

-- ---- what a case asks for

-- which numbers of a call's outcome are looked at
pub data Asked : Type 0 where
  the_answer the_indices the_strides the_crossings the_diagonals the_map the_buffers : Asked
  position_of normal_of : ℕ → Asked

pub record Case : Type 0 where
  pub call : Call
  pub lent : Buffers
  pub asked : Asked
  pub wanted : List ℕ

abbrev bits : Float → ℕ
bits x = to_bits binary32 x

abbrev three : Vector → List ℕ
three v = bits v.x ∷ bits v.y ∷ bits v.z ∷ []

abbrev pub lowest : GridPoint
lowest = record { x = 0; y = 0; z = 0 }

abbrev numbers : Answer → List ℕ
numbers r = r.number ∷ r.vertices ∷ r.indices ∷ []

-- the seven lists, one after the other
abbrev contents : Buffers → List ℕ
contents s = map bits s.positions ++ (map bits s.normals ++ (s.cells ++ (s.strides ++ (s.crossings ++ (s.map ++ s.indices)))))

-- the squared distances v1-v4 and v2-v3 of an edge's face
abbrev diagonals : Field → Edge → List ℕ
diagonals g e =
    bits (squared_distance (vertex_position g (cell1 e)) (vertex_position g (cell4 e)))
    ∷ bits (squared_distance (vertex_position g (cell2 e)) (vertex_position g (cell3 e)))
    ∷ []

-- the outcome's numbers, from the definitions: floats by their bits
abbrev pub got : Asked → Call → Buffers → List ℕ
got the_answer c s = numbers (answer c (room s))
got the_indices c s = indices c.grid c.box c.flags
got the_strides c s = map (index c.grid.dims) (vertices c.grid c.box)
got the_crossings c s = map (vertex_crossings c.grid) (vertices c.grid c.box)
got the_diagonals c s = joined (diagonals c.grid) (edges c.grid c.box c.flags)
got (position_of v) c s = three (vertex_position c.grid (get_or (vertices c.grid c.box) v lowest))
got (normal_of v) c s = three (vertex_normal c.grid (get_or (vertices c.grid c.box) v lowest))
got the_map c s = (afterwards c s).map
got the_buffers c s = contents (afterwards c s)

abbrev pub Holds : Case → Type 0
Holds k = got k.asked k.call k.lent ≡ k.wanted

-- ---- the grids

abbrev pub point : ℕ → ℕ → ℕ → GridPoint
point x y z = record { x = x; y = y; z = z }

abbrev pub minus_one : Float
minus_one = fin true 1 (pos 0)

-- one distance changed
abbrev with : ℕ → Float → (ℕ → Float) → ℕ → Float
with i v f j = cond (eqb i j) v (f j)

abbrev ones : ℕ → Float
ones j = one32

abbrev pub ball : ℕ → Float
ball = with 13 minus_one ones

-- inside where the point's bit is set
abbrev pub bit_grid : ℕ → ℕ → Float
bit_grid word j = cond (eqb (word / 2 ^ j % 2) 1) minus_one one32

-- a cell with -2^127 at x = 0 and 2^127 at x = 1
abbrev far_apart : ℕ → Float
far_apart j = cond (eqb (j % 2) 0) (fin true 1 (pos 127)) (fin false 1 (pos 127))

abbrev pub calls : GridPoint → ℕ → (ℕ → Float) → GridPoint → GridPoint → Bool → Call
calls dims size dist low high plane =
    record { grid = record { dims = dims; dist = dist }; size = size; box = record { low = low; high = high }; flags = all_three plane }

-- dimensions 3, 3, 3 and 27 distances, no max plane
abbrev threes : (ℕ → Float) → GridPoint → GridPoint → Call
threes dist low high = calls (point 3 3 3) 27 dist low high false

-- box 0,0,0 to 2,2,2
abbrev pub whole : (ℕ → Float) → Call
whole dist = threes dist lowest (point 2 2 2)

-- with max plane
abbrev pub whole_plane : (ℕ → Float) → Call
whole_plane dist = calls (point 3 3 3) 27 dist lowest (point 2 2 2) true

-- Ball, with a flag for each axis
abbrev flagged : Bool → Bool → Bool → Call
flagged x y z =
    record {
      grid = record { dims = point 3 3 3; dist = ball };
      size = 27;
      box = record { low = lowest; high = point 2 2 2 };
      flags = record { x = x; y = y; z = z };
    }

-- whole numbers, for a cell given by its eight corners, corner 0 first
abbrev pub below : ℕ → Float
below n = neg (float n)

abbrev pub corners : Float → Float → Float → Float → Float → Float → Float → Float → ℕ → Float
corners d0 d1 d2 d3 d4 d5 d6 d7 j = get_or (d0 ∷ d1 ∷ d2 ∷ d3 ∷ d4 ∷ d5 ∷ d6 ∷ d7 ∷ []) j nan

-- one cell
abbrev pub one_cell : (ℕ → Float) → Call
one_cell dist = calls (point 2 2 2) 8 dist lowest (point 1 1 1) false

abbrev paired_normal : ℕ → Float
paired_normal = corners (below 1) (float 0) (float 0) (below 1) (float 0) (float 0) (float 0) (below 1)

-- ---- the lent lists

-- the bits of -5.0
abbrev mark32 : ℕ
mark32 = 0xC0A00000

-- lengths, every number of them marked: 77, and -5.0
abbrev marked : ℕ → ℕ → ℕ → ℕ → ℕ → ℕ → ℕ → Buffers
marked positions normals cells strides crossings' map' indices' =
    record {
      positions = replicate positions (fin true 5 (pos 0));
      normals = replicate normals (fin true 5 (pos 0));
      cells = replicate cells 77;
      strides = replicate strides 77;
      crossings = replicate crossings' 77;
      map = replicate map' 77;
      indices = replicate indices' 77;
    }

-- room for 8 vertices and 6 faces, one number more in each list, and a map for 27
abbrev pub roomy : Buffers
roomy = marked 25 25 25 9 9 27 37

abbrev pub case : Call → Buffers → Asked → List ℕ → Case
case c s a w = record { call = c; lent = s; asked = a; wanted = w }

abbrev answers : Call → Buffers → ℕ → ℕ → ℕ → Case
answers c s n v i = case c s the_answer (n ∷ v ∷ i ∷ [])

-- Ball's mesh in those lists
abbrev ball_positions : List ℕ
ball_positions =
    0x3F555555 ∷ 0x3F555555 ∷ 0x3F555555 ∷ 0x3F955555 ∷ 0x3F555555 ∷ 0x3F555555
    ∷ 0x3F555555 ∷ 0x3F955555 ∷ 0x3F555555 ∷ 0x3F955555 ∷ 0x3F955555 ∷ 0x3F555555
    ∷ 0x3F555555 ∷ 0x3F555555 ∷ 0x3F955555 ∷ 0x3F955555 ∷ 0x3F555555 ∷ 0x3F955555
    ∷ 0x3F555555 ∷ 0x3F955555 ∷ 0x3F955555 ∷ 0x3F955555 ∷ 0x3F955555 ∷ 0x3F955555
    ∷ mark32 ∷ []

abbrev ball_normals : List ℕ
ball_normals =
    0xBFB1C71C ∷ 0xBFB1C71C ∷ 0xBFB1C71C ∷ 0x3FB1C71C ∷ 0xBFB1C71C ∷ 0xBFB1C71C
    ∷ 0xBFB1C71C ∷ 0x3FB1C71C ∷ 0xBFB1C71C ∷ 0x3FB1C71C ∷ 0x3FB1C71C ∷ 0xBFB1C71C
    ∷ 0xBFB1C71C ∷ 0xBFB1C71C ∷ 0x3FB1C71C ∷ 0x3FB1C71C ∷ 0xBFB1C71C ∷ 0x3FB1C71C
    ∷ 0xBFB1C71C ∷ 0x3FB1C71C ∷ 0x3FB1C71C ∷ 0x3FB1C71C ∷ 0x3FB1C71C ∷ 0x3FB1C71C
    ∷ mark32 ∷ []

abbrev ball_cells : List ℕ
ball_cells = 0 ∷ 0 ∷ 0 ∷ 1 ∷ 0 ∷ 0 ∷ 0 ∷ 1 ∷ 0 ∷ 1 ∷ 1 ∷ 0 ∷ 0 ∷ 0 ∷ 1 ∷ 1 ∷ 0 ∷ 1 ∷ 0 ∷ 1 ∷ 1 ∷ 1 ∷ 1 ∷ 1 ∷ 77 ∷ []

abbrev ball_strides : List ℕ
ball_strides = 0 ∷ 1 ∷ 3 ∷ 4 ∷ 9 ∷ 10 ∷ 12 ∷ 13 ∷ 77 ∷ []

-- each cell has one negative corner, the middle of the grid
abbrev ball_crossings : List ℕ
ball_crossings = replicate 8 3 ++ (77 ∷ [])

-- the entry of no vertex
abbrev blank : ℕ
blank = 4294967295

-- its 8 cells, and the 19 points of the box that are no cell
abbrev ball_map : List ℕ
ball_map = 0 ∷ 1 ∷ blank ∷ 2 ∷ 3 ∷ blank ∷ blank ∷ blank ∷ blank ∷ 4 ∷ 5 ∷ blank ∷ 6 ∷ 7 ∷ replicate 13 blank

-- the points with x 0 of dimensions 3, 3, 3, a map of 28: a flat box
abbrev flat_map : List ℕ
flat_map = joined (λ (n : ℕ). blank ∷ 77 ∷ 77 ∷ []) (run 9) ++ (77 ∷ [])

-- the box from (1,1,1) to (2,2,2) of dimensions 4, 4, 4, a map of 65: its one cell, its seven other points, and those outside
abbrev inner_map : List ℕ
inner_map =
    replicate 21 77 ++ (0 ∷ blank ∷ 77 ∷ 77 ∷ blank ∷ blank ∷ replicate 10 77)
    ++ (blank ∷ blank ∷ 77 ∷ 77 ∷ blank ∷ blank ∷ replicate 22 77)

abbrev ball_indices : List ℕ
ball_indices = 2 ∷ 1 ∷ 0 ∷ 2 ∷ 3 ∷ 1 ∷ 1 ∷ 4 ∷ 0 ∷ 1 ∷ 5 ∷ 4 ∷ 4 ∷ 2 ∷ 0 ∷ 4 ∷ 6 ∷ 2 ∷ replicate 19 77

-- ---- the table

-- The test of the table ends at its first false entry. So in front stand those that tell the likeliest slips, and a wrong definition is refused at once.
abbrev pub cases : List Case
cases =
    -- "min (2,0,0), max (1,2,2)"
    answers (threes ball (point 2 0 0) (point 1 2 2)) roomy 2 0 0
    -- document 02, request 9: a grid as long as two of the dimensions say
    ∷ answers (calls (point 3 3 3) 9 ball lowest lowest false) roomy 3 0 0
    -- document 02, request 6: the next float below -2^124, in the middle
    ∷ answers (whole (with 13 (fin true 0x800001 (pos 101)) ones)) roomy 5 0 0
    -- "Ball with -0.0 at the middle"
    ∷ answers (whole (with 13 (fin true 0 (pos 0)) ones)) roomy 0 0 0
    -- "Answers 1 to 7 change nothing."
    ∷ case (whole ball) (marked 24 24 24 8 8 26 18) the_buffers (contents (marked 24 24 24 8 8 26 18))
    -- document 02, request 7: the box from (1,1,1) to (2,2,2) in a map with numbers outside it
    ∷ case (calls (point 4 4 4) 64 (with 21 minus_one ones) (point 1 1 1) (point 2 2 2) false) (marked 3 3 3 1 1 65 0) the_map inner_map
    -- document 02, request 13: room for the crossings one short
    ∷ answers (whole ball) (marked 24 24 24 8 7 27 18) 6 8 18
    -- document 02, request 4: Ball with the max plane on x alone
    ∷ answers (flagged true false false) roomy 0 8 24
    -- Ball: "indices, whole"
    ∷ case (whole ball) roomy the_indices (2 ∷ 1 ∷ 0 ∷ 2 ∷ 3 ∷ 1 ∷ 1 ∷ 4 ∷ 0 ∷ 1 ∷ 5 ∷ 4 ∷ 4 ∷ 2 ∷ 0 ∷ 4 ∷ 6 ∷ 2 ∷ [])
    -- a grid that takes each of the four branches of a face
    ∷ case (whole_plane (bit_grid 0x2015)) roomy the_indices
    (5 ∷ 0 ∷ 1 ∷ 5 ∷ 4 ∷ 0 ∷ 4 ∷ 2 ∷ 0 ∷ 4 ∷ 6 ∷ 2 ∷ 5 ∷ 1 ∷ 3 ∷ 5 ∷ 3 ∷ 7 ∷ 7 ∷ 3 ∷ 2 ∷ 7 ∷ 2 ∷ 6 ∷ 6 ∷ 4 ∷ 5 ∷ 6 ∷ 5 ∷ 7 ∷ [])
    -- a cell where another order of the normal's terms gives other bits, by the published Rust, as the numbers of Vectors
    ∷ case (one_cell paired_normal) roomy (position_of 0) (0x3EDB6DB7 ∷ 0x3EDB6DB7 ∷ 0x3EDB6DB7 ∷ [])
    ∷ case (one_cell paired_normal) roomy (normal_of 0) (0xBDD0FACA ∷ 0xBDD0FACA ∷ 0x3EA72F04 ∷ [])
    -- Ball
    ∷ answers (whole ball) roomy 0 8 18
    ∷ case (whole ball) roomy the_strides (0 ∷ 1 ∷ 3 ∷ 4 ∷ 9 ∷ 10 ∷ 12 ∷ 13 ∷ [])
    ∷ case (whole ball) roomy (position_of 0) (0x3F555555 ∷ 0x3F555555 ∷ 0x3F555555 ∷ [])
    ∷ case (whole ball) roomy (position_of 1) (0x3F955555 ∷ 0x3F555555 ∷ 0x3F555555 ∷ [])
    -- "Ball with max plane"
    ∷ answers (whole_plane ball) roomy 0 8 36
    -- document 02, request 4: a face more for each axis with its flag
    ∷ answers (flagged false false false) roomy 0 8 18
    ∷ answers (flagged false true false) roomy 0 8 24
    ∷ answers (flagged false false true) roomy 0 8 24
    ∷ answers (flagged true true false) roomy 0 8 30
    ∷ answers (flagged true false true) roomy 0 8 30
    ∷ answers (flagged false true true) roomy 0 8 30
    ∷ answers (flagged true true true) roomy 0 8 36
    -- "All 1.0"
    ∷ answers (whole ones) roomy 0 0 0
    -- "Flat box to (0,2,2)"
    ∷ answers (threes ball lowest (point 0 2 2)) roomy 0 0 0
    -- "Dimension 0", on each axis; 16,777,217 passes and the next does not
    ∷ answers (calls (point 0 3 3) 27 ball lowest (point 2 2 2) false) roomy 1 0 0
    ∷ answers (calls (point 3 0 3) 27 ball lowest (point 2 2 2) false) roomy 1 0 0
    ∷ answers (calls (point 3 3 0) 27 ball lowest (point 2 2 2) false) roomy 1 0 0
    ∷ answers (calls (point 16777217 1 1) 1 ones lowest lowest false) (marked 0 0 0 0 0 1 0) 3 0 0
    ∷ answers (calls (point 16777217 1 1) 16777217 ones lowest lowest false) (marked 0 0 0 0 0 1 0) 4 0 0
    ∷ answers (calls (point 16777218 1 1) 1 ones lowest lowest false) (marked 0 0 0 0 0 1 0) 1 0 0
    -- the product: 2^30 passes, and 2^30 + 1, which is 1025 · 793 · 1321, does not
    ∷ answers (calls (point 1024 1024 1024) 1 ones lowest lowest false) (marked 0 0 0 0 0 1 0) 3 0 0
    ∷ answers (calls (point 1024 1024 1024) 1073741824 ones lowest lowest false) (marked 0 0 0 0 0 1 0) 4 0 0
    ∷ answers (calls (point 1025 793 1321) 1 ones lowest lowest false) (marked 0 0 0 0 0 1 0) 1 0 0
    -- products of 2^32 and 2^64 are not taken for the empty grid's length
    ∷ answers (calls (point 65536 65536 1) 0 ones lowest lowest false) (marked 0 0 0 0 0 1 0) 1 0 0
    ∷ answers (calls (point 16777216 16777216 65536) 0 ones lowest lowest false) (marked 0 0 0 0 0 1 0) 1 0 0
    -- "max (3,2,2)"
    ∷ answers (threes ball lowest (point 3 2 2)) roomy 2 0 0
    -- "Grid of 26, box to (2,2,2)"; document 02, request 9: "Document 01's grid of 26 with the box to (1,1,1) becomes refused, and a longer grid too"
    ∷ answers (calls (point 3 3 3) 26 ball lowest (point 2 2 2) false) roomy 3 0 0
    ∷ answers (calls (point 3 3 3) 26 ball lowest (point 1 1 1) false) (marked 3 3 3 1 1 26 0) 3 0 0
    ∷ answers (calls (point 3 3 3) 14 ball lowest (point 1 1 1) false) (marked 3 3 3 1 1 14 0) 3 0 0
    ∷ answers (calls (point 3 3 3) 28 ball lowest (point 2 2 2) false) (marked 24 24 24 8 8 28 18) 3 0 0
    ∷ answers (calls (point 3 3 3) 28 ball lowest (point 1 1 1) false) (marked 3 3 3 1 1 28 0) 3 0 0
    ∷ answers (threes ball lowest (point 1 1 1)) (marked 3 3 3 1 1 27 0) 0 1 0
    -- the empty grid
    ∷ answers (calls (point 1 1 1) 0 ones lowest lowest false) (marked 0 0 0 0 0 1 0) 3 0 0
    ∷ answers (calls (point 1 1 1) 1 ones lowest lowest false) (marked 0 0 0 0 0 1 0) 0 0 0
    -- "Map one short of the grid"
    ∷ answers (whole ball) (marked 24 24 24 8 8 26 18) 4 0 0
    -- "Ball with not-a-number at (2,2,2)"; "With the box to (1,1,1)"
    ∷ answers (whole (with 26 nan ball)) roomy 5 0 0
    ∷ answers (threes (with 26 nan ball) lowest (point 1 1 1)) roomy 0 1 0
    -- infinities, at a corner of the box
    ∷ answers (whole (with 26 (inf false) ball)) roomy 5 0 0
    ∷ answers (whole (with 26 (inf true) ball)) roomy 5 0 0
    -- document 02, request 6: "2^124 passes and the next float up is refused", of both signs, at a corner of the box and in the middle
    ∷ answers (whole (with 26 (fin false 1 (pos 124)) ball)) roomy 0 8 18
    ∷ answers (whole (with 26 (fin true 1 (pos 124)) ball)) roomy 0 8 18
    ∷ answers (whole (with 26 (fin false 0x800001 (pos 101)) ball)) roomy 5 0 0
    ∷ answers (whole (with 26 (fin true 0x800001 (pos 101)) ball)) roomy 5 0 0
    ∷ answers (whole (with 13 (fin true 1 (pos 124)) ones)) roomy 0 8 18
    -- "Document 01's case at 2^100 moves": it passes, and so does the next float up
    ∷ answers (whole (with 26 (fin false 1 (pos 100)) ball)) roomy 0 8 18
    ∷ answers (whole (with 26 (fin true 1 (pos 100)) ball)) roomy 0 8 18
    ∷ answers (whole (with 26 (fin false 0x800001 (pos 77)) ball)) roomy 0 8 18
    ∷ answers (whole (with 26 (fin true 0x800001 (pos 77)) ball)) roomy 0 8 18
    -- the next float above 2^124 outside the box
    ∷ answers (threes (with 26 (fin false 0x800001 (pos 101)) ball) lowest (point 1 1 1)) roomy 0 1 0
    ∷ answers (threes (with 26 (fin true 0x800001 (pos 101)) ball) lowest (point 1 1 1)) roomy 0 1 0
    -- "Ball, positions 23 long"; "with indices 17 as well"; "Only indices 17"; and the exact room
    ∷ answers (whole ball) (marked 23 24 24 8 8 27 18) 6 8 18
    ∷ answers (whole ball) (marked 23 24 24 8 8 27 17) 6 8 18
    ∷ answers (whole ball) (marked 24 24 24 8 8 27 17) 7 8 18
    ∷ answers (whole ball) (marked 24 24 24 8 8 27 18) 0 8 18
    -- the other lists of condition 6; document 02, request 13: "Answer 6 covers that buffer when it is shorter than V", and is tried before 7
    ∷ answers (whole ball) (marked 24 23 24 8 8 27 18) 6 8 18
    ∷ answers (whole ball) (marked 24 24 23 8 8 27 18) 6 8 18
    ∷ answers (whole ball) (marked 24 24 24 7 8 27 18) 6 8 18
    ∷ answers (whole ball) (marked 24 24 24 8 7 27 17) 6 8 18
    -- "Conditions are tried in this order": 3 with 4, 4 with 5, 5 with 6 and 7; 1 with 2 and 2 with 3 are above
    ∷ answers (calls (point 3 3 3) 26 ball lowest (point 2 2 2) false) (marked 24 24 24 8 8 25 18) 3 0 0
    ∷ answers (whole (with 26 nan ball)) (marked 24 24 24 8 8 26 18) 4 0 0
    ∷ answers (whole (with 26 nan ball)) (marked 0 0 0 0 0 27 0) 5 0 0
    -- a grid that takes each of the four branches of a face
    ∷ answers (whole_plane (bit_grid 0x2015)) roomy 0 8 30
    -- request 13: a grid whose eight cells have each number of crossings that a surface cell can have
    ∷ case (whole (bit_grid 0x5594834)) roomy the_crossings (3 ∷ 5 ∷ 6 ∷ 8 ∷ 4 ∷ 7 ∷ 9 ∷ 12 ∷ [])
    -- where "every number written is finite" would end: -2^127 and 2^127 on each x edge have no finite difference, and the normal is infinite
    ∷ answers (calls (point 2 2 2) 8 far_apart lowest (point 1 1 1) false) roomy 5 0 0
    ∷ case (calls (point 2 2 2) 8 far_apart lowest (point 1 1 1) false) roomy (position_of 0) (0 ∷ 0x3F000000 ∷ 0x3F000000 ∷ [])
    ∷ case (calls (point 2 2 2) 8 far_apart lowest (point 1 1 1) false) roomy (normal_of 0) (0x7F800000 ∷ 0 ∷ 0 ∷ [])
    -- what the lent lists hold after Ball: the first numbers written, the rest kept; the whole map, since every point is one of the box
    ∷ case (whole ball) roomy the_buffers (ball_positions ++ (ball_normals ++ (ball_cells ++ (ball_strides ++ (ball_crossings ++ (ball_map ++ ball_indices))))))
    -- a cell that is no surface cell has the null vertex in the map, and so have the points of the box that are no cell; those outside keep theirs
    ∷ case (threes ones lowest (point 1 1 1)) (marked 0 0 0 0 0 28 0) the_buffers
    (blank ∷ blank ∷ 77 ∷ blank ∷ blank ∷ 77 ∷ 77 ∷ 77 ∷ 77 ∷ blank ∷ blank ∷ 77 ∷ blank ∷ blank ∷ replicate 14 77)
    -- document 02, request 7: "the entry of every point of the box that is no cell becomes 4,294,967,295, also for a flat box"
    ∷ case (threes ball lowest (point 0 2 2)) (marked 0 0 0 0 0 28 0) the_buffers flat_map
    -- "Answers 1 to 7 change nothing."
    ∷ case (calls (point 0 3 3) 27 ball lowest (point 2 2 2) false) roomy the_buffers (contents roomy)
    ∷ case (threes ball lowest (point 3 2 2)) roomy the_buffers (contents roomy)
    ∷ case (calls (point 3 3 3) 26 ball lowest (point 2 2 2) false) roomy the_buffers (contents roomy)
    ∷ case (whole (with 26 nan ball)) roomy the_buffers (contents roomy)
    ∷ case (whole ball) (marked 23 24 24 8 8 27 18) the_buffers (contents (marked 23 24 24 8 8 27 18))
    ∷ case (whole ball) (marked 24 24 24 8 7 27 18) the_buffers (contents (marked 24 24 24 8 7 27 18))
    ∷ case (whole ball) (marked 24 24 24 8 8 27 17) the_buffers (contents (marked 24 24 24 8 8 27 17))
    ∷ []

-- what a computed test opens: every definition of the rules, and the arithmetic below them
unfoldable pub opened : Unit {0}
unfolding answer room_answer bad_dimensions bad_box bad_length beyond bad_layer bad_distance written afterwards run up_to keep many some joined place placed fraction point_between
    crossing_point crossing_points summed crossings centroid position normal row_cells layer_cells cells layer_vertices vertices first_vertex cell_entry map_entry owned changes cell_edges
    layer_edges edges shorter face_cells layer_indices indices layer_points points changing_edges add sub mul div lt of_int round size units odd neg sum span climb count_trailing_zeros to_bits
    pieces
opened = tt

-- ---- the test, and from it each entry

unfoldable pub same : List ℕ → List ℕ → Bool
same [] [] = true
same [] (y ∷ ys) = false
same (x ∷ xs) [] = false
same (x ∷ xs) (y ∷ ys) = eqb x y && same xs ys

same-equal : (xs ys : List ℕ) → T (same xs ys) → xs ≡ ys
unfolding same
same-equal [] [] t = refl
same-equal [] (y ∷ ys) t = absurd t
same-equal (x ∷ xs) [] t = absurd t
same-equal (x ∷ xs) (y ∷ ys) t = ap₂ {C = List ℕ} (λ u us. u ∷ us) (eqb→eq x y (and_l (eqb x y) (same xs ys) t)) (same-equal xs ys (and_r (eqb x y) (same xs ys) t))

unfoldable pub passes : Case → Bool
passes k = same (got k.asked k.call k.lent) k.wanted

unfoldable pub every : List Case → Bool
every [] = true
every (k ∷ ks) = passes k && every ks

all_pass : T (every cases)
unfolding every passes same opened
all_pass = tt

pub entry_of : (other : Case) (ks : List Case) → T (every ks) → (k : ℕ) → k < length ks → Holds (get_or ks k other)
unfolding every passes
entry_of other [] t k h = absurd (not-suc-le-zero h)
entry_of other (c ∷ ks) t zero h = same-equal (got c.asked c.call c.lent) c.wanted (and_l (passes c) (every ks) t)
entry_of other (c ∷ ks) t (suc k) h = entry_of other ks (and_r (passes c) (every ks) t) k (le_of_suc-le-suc h)

-- each entry of the table holds
pub case-holds : (other : Case) (k : ℕ) → k < length cases → Holds (get_or cases k other)
case-holds other k h = entry_of other cases all_pass k h

-- ---- "Fractions: (1, -1) gives 0.5; (0, -1) gives 0; (-1, 0) gives 1."

pub fractions : (fraction one32 minus_one ≡ fin false 1 (negsuc 0)) × (fraction zero32 minus_one ≡ zero32) × (fraction minus_one zero32 ≡ one32)
unfolding opened
fractions = (refl, refl, refl)

-- ---- a box cut twice, on two axes, with max plane on x and z: each of the three pieces has faces, as many together as the whole

abbrev cut_grid : Field
cut_grid = record { dims = point 4 4 3; dist = bit_grid 0x5BC8BDE5C099 }

abbrev cut_whole : Piece
cut_whole = record { box = record { low = lowest; high = point 3 3 2 }; flags = record { x = true; y = false; z = true } }

abbrev cut_twice : Cuts
cut_twice = cut axis_x 1 (cut axis_y 1 uncut uncut) uncut

abbrev face_number : Piece → ℕ
face_number q = length (edges cut_grid q.box q.flags)

pub cut_fits : Fits cut_twice cut_whole
cut_fits = omega arith

pub cut-case : (map face_number (pieces cut_twice cut_whole) ≡ 4 ∷ 3 ∷ 4 ∷ []) × (face_number cut_whole ≡ 11)
unfolding opened
cut-case = (refl, refl)

-- ---- the flags of a cut: Ball with all three, cut on x at 0. The lower piece has its flag off on x; if it kept it, the face of the x edge at (0,1,1) would come twice

abbrev ball_piece : Piece
ball_piece = record { box = record { low = lowest; high = point 2 2 2 }; flags = all_three true }

abbrev kept_flag : Piece
kept_flag = record { box = (lower_piece axis_x 0 ball_piece).box; flags = all_three true }

abbrev ball_edges : Piece → List Edge
ball_edges q = edges (record { dims = point 3 3 3; dist = ball }) q.box q.flags

pub flags-cut :
    (map (λ (q : Piece). length (ball_edges q)) (ball_piece ∷ lower_piece axis_x 0 ball_piece ∷ upper_piece axis_x 0 ball_piece ∷ []) ≡ 6 ∷ 0 ∷ 6 ∷ [])
    × (ball_edges kept_flag ≡ edge axis_x (point 0 1 1) ∷ [])
    × (many (same_edge (edge axis_x (point 0 1 1))) (ball_edges kept_flag ++ ball_edges (upper_piece axis_x 0 ball_piece)) ≡ 2)
unfolding opened
flags-cut = (refl, refl, refl)
