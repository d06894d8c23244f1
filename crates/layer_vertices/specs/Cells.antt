-- What the loops have left of the cells, the strides and the map once some points of the box are passed, one after the other: cells, and the last of
-- each row, of each layer and of the box, which are none. A row is first classed into its own entries of the map, and then its marked cells are
-- numbered. These follow the code and stand in no contract that another crate sees: proofs/ shows that a layer's points leave what `marked` says.
-- Definitions only. Assumes nothing.
use Rattle.std.specs.Prelude.{ℕ, ◌+◌, ◌-◌, ◌*◌, ◌≤◌, ◌<◌, Bool, false, not, ◌&&◌, cond, List, [], ◌∷◌, map, ◌≡◌, eqb, length, get_or, set, replicate, Float}
use Rattle.std.proofs.lemmas.List.Edits.{sets}
use Rattle.lists.specs.Lists.{one, run, up_to, keep, some, placed}
use Rattle.rules.specs.Grid.{GridPoint, Box, Field, index, is_cell}
use Rattle.rules.specs.Vertices.{surface_cell, layer_vertices, null_vertex}
use Rattle.rules.specs.Call.{flat_points}
use Rattle.grid.specs.Layers.{in_layer}
use Rattle.grid.specs.Signs.{surface_at}
use Rattle.row_signs.specs.Codes.{four_codes, mixed_code}
use Rattle.layer_vertices.specs.declared.Next.{Next}
use Rattle.layer_vertices.specs.Marked.{layer_entry}

-- the lists that finding a layer's surface cells writes
pub record Finds : Type 0 where
  pub cells : List ℕ
  pub strides : List ℕ
  pub map : List ℕ

abbrev pub finds : List ℕ → List ℕ → List ℕ → Finds
finds cells strides map = record { cells = cells; strides = strides; map = map }

-- n vertices further on
abbrev pub advanced : Next → ℕ → Next
advanced next n = record { place = next.place + n; number = next.number + n }

-- there is room for n cells from a place on, and none of their numbers is that of no vertex
pub record RoomToFind (next : Next) (n : ℕ) (s : Finds) : Type 0 where
  pub cells : 3 * (next.place + n) ≤ length s.cells
  pub strides : next.place + n ≤ length s.strides
  pub numbers : next.number + n ≤ null_vertex

-- ---- points one after the other

-- the box whose cells are the points of b: what is known of a box's cells is so known of its points
abbrev pub points_of : Box → Box
points_of b = record { low = b.low; high = record { x = b.high.x + 1; y = b.high.y + 1; z = b.high.z + 1 } }

-- a point of the box gets a vertex exactly if it is a cell, and a surface cell
abbrev pub has_vertex : Field → Box → GridPoint → Bool
has_vertex g b p = is_cell b p && surface_cell g p

-- the entries of points, those that have a vertex numbered on from n
unfoldable pub entered : GridPoint → (GridPoint → Bool) → ℕ → List GridPoint → List ℕ → List ℕ
entered d has n [] l = l
entered d has n (p ∷ ps) l = entered d has (n + one (has p)) ps (set l (in_layer d p) (cond (has p) n null_vertex))

-- the same of points none of which has one
abbrev pub cleared : GridPoint → List GridPoint → List ℕ → List ℕ
cleared d ps l = entered d (λ p. false) 0 ps l

-- the row y with the entries of no vertex from the box's first point to its last
abbrev pub blanked : GridPoint → Box → ℕ → List ℕ → List ℕ
blanked d b y l = sets l (b.low.x + d.x * y) (replicate (b.high.x + 1 - b.low.x) null_vertex)

-- the lists of s with the cells of vs and their strides from a place on, and a map
abbrev pub written : GridPoint → ℕ → List GridPoint → List ℕ → Finds → Finds
written d place vs entries s = finds (sets s.cells (3 * place) (flat_points vs)) (sets s.strides place (map (index d) vs)) entries

-- the lists of s once the points of ps are passed
unfoldable pub passed : GridPoint → (GridPoint → Bool) → Next → List GridPoint → Finds → Finds
passed d has next ps s = written d next.place (keep has ps) (entered d has next.number ps s.map) s

-- how many of them have a vertex
abbrev pub found : (GridPoint → Bool) → List GridPoint → ℕ
found has ps = length (keep has ps)

-- what passing the points of ps makes of the lists, and where the next vertex goes
pub record Passes (d : GridPoint) (has : GridPoint → Bool) (next : Next) (s : Finds) (ps : List GridPoint) (here : Next) (s' : Finds) : Type 0 where
  pub same : s' ≡ passed d has next ps s
  pub on : here ≡ advanced next (found has ps)

-- what a layer leaves, in the rules' own words
abbrev pub layer_found : Field → Box → ℕ → Next → Finds → Finds
layer_found g b z next s = written g.dims next.place (layer_vertices g b z) (placed (layer_entry g b z next.number) 0 s.map) s

-- ---- a row, classed into its own entries of the map

-- the mark of a surface cell, and the entry of a cell that is none
abbrev pub class_of : Bool → ℕ
class_of surface = cond surface 0 null_vertex

-- those of n cells in a row, `at` being the place of the first one's lowest corner
abbrev pub classes : List Float → List Float → ℕ → ℕ → ℕ → List ℕ
classes lower upper at row n = map (λ (j : ℕ). class_of (surface_at lower upper at row j)) (up_to 0 n)

-- the same by the codes of the two rows of points that the cells lie between
abbrev pub code_classes : List ℕ → ℕ → ℕ → ℕ → List ℕ
code_classes codes here there n = map (λ (j : ℕ). class_of (mixed_code (four_codes codes here there j))) (up_to 0 n)

-- whether an entry is a mark: anything but that of no vertex
abbrev pub is_mark : ℕ → Bool
is_mark e = not (eqb e null_vertex)

abbrev pub marked_in : GridPoint → List ℕ → GridPoint → Bool
marked_in d l p = is_mark (get_or l (in_layer d p) 0)

-- none of n entries is
abbrev pub none_marked : List ℕ → ℕ → ℕ → Bool
none_marked l at n = not (some (λ (j : ℕ). is_mark (get_or l (at + j) 0)) (run n))

-- ---- the marked cells, numbered

-- the point j further on in the row
abbrev pub onward : GridPoint → ℕ → GridPoint
onward c j = record { x = c.x + j; y = c.y; z = c.z }

-- n points in a row, c being the first
unfoldable pub run_of : GridPoint → ℕ → List GridPoint
run_of c n = map (λ (x : ℕ). record { x = x; y = c.y; z = c.z }) (up_to c.x (c.x + n))

-- what numbering them asks, `at` being the place of the first: they lie in the grid and in the map, and there is room for the marked ones
pub record Numbering (d c : GridPoint) (at n : ℕ) (next : Next) (s : Finds) : Type 0 where
  pub x : c.x + n ≤ d.x
  pub y : c.y < d.y
  pub z : c.z < d.z
  pub few : d.x * d.y * d.z ≤ 1073741824
  pub place : at ≡ in_layer d c
  pub holds : at + n ≤ length s.map
  pub room : RoomToFind next (found (marked_in d s.map) (run_of c n)) s

-- and what it leaves: a point is passed as one that has a vertex where its entry was a mark
abbrev pub Numbered : GridPoint → GridPoint → ℕ → Next → Finds → Next → Finds → Type 0
Numbered d c n next s here s' = Passes d (marked_in d s.map) next s (run_of c n) here s'
