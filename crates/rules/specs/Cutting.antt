-- Document 01, "Cutting a box": cuts, pieces, plans, and the vertices and faces that a mesh's own lists show, each face with the grid edge that its six
-- cells show. Definitions only. Assumes nothing.
use Rattle.std.specs.Prelude.{ℕ, ◌+◌, ◌*◌, max, ◌≤◌, ◌<◌, Bool, false, ◌&&◌, List, [], ◌∷◌, ◌++◌, map, ◌≡◌, ltb, eqb, length, get_or, Float}
use Rattle.std.specs.Float.{nan}
use Rattle.lists.specs.Lists.{one, up_to, keep, many, some, joined}
use Rattle.rules.specs.Grid.{GridPoint, Axis, axis_x, axis_y, axis_z, Box, Field, along, moved, same_point}
use Rattle.rules.specs.Cell.{Vector}
use Rattle.rules.specs.Vertices.{vertex_position, vertex_normal, vertex_crossings}
use Rattle.rules.specs.Faces.{Edge, Flags, axis_b, axis_c, edges_at, cell1, cell2, cell3, cell4, owned, face_cells}

-- a box with the max plane's flags
pub record Piece : Type 0 where
  pub box : Box
  pub flags : Flags

-- the flags with none on one axis
abbrev pub cleared : Axis → Flags → Flags
cleared axis_x m = record { x = false; y = m.y; z = m.z }
cleared axis_y m = record { x = m.x; y = false; z = m.z }
cleared axis_z m = record { x = m.x; y = m.y; z = false }

-- "A cut on an axis at k .. gives pieces [min, k + 1] and [k, max] on that axis; the other axes keep."
abbrev pub lower_piece : Axis → ℕ → Piece → Piece
lower_piece a k w = record { box = record { low = w.box.low; high = moved a (k + 1) w.box.high }; flags = cleared a w.flags }

abbrev pub upper_piece : Axis → ℕ → Piece → Piece
upper_piece a k w = record { box = record { low = moved a k w.box.low; high = w.box.high }; flags = w.flags }

-- a run of cuts, to any depth: none, or one, and then cuts of its lower and of its upper piece
pub data Cuts : Type 0 where
  uncut : Cuts
  cut : Axis → ℕ → Cuts → Cuts → Cuts

unfoldable pub pieces : Cuts → Piece → List Piece
pieces uncut w = w ∷ []
pieces (cut a k lower upper) w = pieces lower (lower_piece a k w) ++ pieces upper (upper_piece a k w)

-- "min ≤ k < max there", at each cut
abbrev pub Fits : Cuts → Piece → Type 0
Fits uncut w = Unit {0}
Fits (cut a k lower upper) w = (along a w.box.low ≤ k) × (k < along a w.box.high) × Fits lower (lower_piece a k w) × Fits upper (upper_piece a k w)

-- a plan: every edge that the whole owns is owned by exactly one of the pieces, and no piece owns any other edge
abbrev pub Plan : List Piece → Piece → Type 0
Plan ps w = (e : Edge) → many (λ (q : Piece). owned q.box q.flags e) ps ≡ one (owned w.box w.flags e)

-- ---- a face

-- the cell and the position of a vertex: vertices of different cells may share a position
pub record Corner : Type 0 where
  pub cell : GridPoint
  pub position : Vector

-- "A face is known by its grid edge": with the corners of its two triangles, in order
pub record Face : Type 0 where
  pub edge : Edge
  pub corners : List Corner

-- the face that an edge defines
abbrev pub corner_at : Field → GridPoint → Corner
corner_at g c = record { cell = c; position = vertex_position g c }

abbrev pub face_of : Field → Edge → Face
face_of g e = record { edge = e; corners = map (corner_at g) (face_cells g e) }

-- ---- the edge that cells show

-- their highest cell: the greatest coordinate on each axis
unfoldable pub greatest : Axis → List GridPoint → ℕ
greatest a [] = 0
greatest a (c ∷ cs) = max (along a c) (greatest a cs)

abbrev pub highest : List GridPoint → GridPoint
highest cs = record { x = greatest axis_x cs; y = greatest axis_y cs; z = greatest axis_z cs }

-- the four cells round an edge: all agree along its axis, and its lowest corner is the highest
abbrev pub round : Edge → List GridPoint
round e = cell1 e ∷ cell2 e ∷ cell3 e ∷ cell4 e ∷ []

abbrev pub among : List GridPoint → GridPoint → Bool
among cs c = some (same_point c) cs

-- cells show the edge whose four cells they are: each of the four is among them, and each of them is one of the four; above 0 on B and C, where
-- a step down is one, so that the four are four
unfoldable pub shows : List GridPoint → Edge → Bool
shows cs e =
    (ltb 0 (along (axis_b e.axis) e.from) && ltb 0 (along (axis_c e.axis) e.from))
    && (eqb (many (among cs) (round e)) 4 && eqb (many (among (round e)) cs) (length cs))

-- the x, y or z edge from their highest cell that they show: one edge, or none
unfoldable pub edge_shown : List GridPoint → List Edge
edge_shown cs = keep (shows cs) (edges_at (highest cs))

-- ---- what a mesh's own lists show

-- a list in sixes; fewer than six at its end make none
unfoldable pub sixes : {A : Type 0} → List A → List (List A)
sixes [] = []
sixes (a ∷ []) = []
sixes (a ∷ b ∷ []) = []
sixes (a ∷ b ∷ c ∷ []) = []
sixes (a ∷ b ∷ c ∷ d ∷ []) = []
sixes (a ∷ b ∷ c ∷ d ∷ e ∷ []) = []
sixes (a ∷ b ∷ c ∷ d ∷ e ∷ f ∷ l) = (a ∷ b ∷ c ∷ d ∷ e ∷ f ∷ []) ∷ sixes l

-- three numbers of a list, from 3·v
abbrev pub point_in : List ℕ → ℕ → GridPoint
point_in ns v = record { x = get_or ns (3 * v) 0; y = get_or ns (3 * v + 1) 0; z = get_or ns (3 * v + 2) 0 }

abbrev pub vector_in : List Float → ℕ → Vector
vector_in xs v = record { x = get_or xs (3 * v) nan; y = get_or xs (3 * v + 1) nan; z = get_or xs (3 * v + 2) nan }

-- the vertex v, looked up in a list of cells and one of positions
abbrev pub looked : List ℕ → List Float → ℕ → Corner
looked cells positions v = record { cell = point_in cells v; position = vector_in positions v }

-- the face that six corners show, with the edge that their cells show: none where they show no edge
unfoldable pub face_seen : List Corner → List Face
face_seen cs = map (λ (e : Edge). record { edge = e; corners = cs }) (edge_shown (map (λ (c : Corner). c.cell) cs))

-- the faces of a mesh: its indices in sixes, each number looked up in the mesh's own cells and positions
unfoldable pub faces_seen : List ℕ → List Float → List ℕ → List Face
faces_seen cells positions is = joined (λ (six : List ℕ). face_seen (map (looked cells positions) six)) (sixes is)

-- a vertex: its cell, position, normal and number of crossings
pub record Vertex : Type 0 where
  pub cell : GridPoint
  pub position : Vector
  pub normal : Vector
  pub crossings : ℕ

-- the vertex that a cell defines
abbrev pub vertex_of : Field → GridPoint → Vertex
vertex_of g c = record { cell = c; position = vertex_position g c; normal = vertex_normal g c; crossings = vertex_crossings g c }

-- the first n vertices of a mesh's lists
unfoldable pub vertices_seen : ℕ → List ℕ → List Float → List Float → List ℕ → List Vertex
vertices_seen n cells positions normals crossings =
    map (λ (v : ℕ). record { cell = point_in cells v; position = vector_in positions v; normal = vector_in normals v; crossings = get_or crossings v 0 }) (up_to 0 n)
