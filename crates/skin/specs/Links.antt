-- Document 02, request 8: the directed triangle sides that a flat list of indices shows, all of them and without the diagonals, and the
-- square that two neighbour cells share. Definitions only. Assumes nothing.
use Rattle.std.specs.Prelude.{ℕ, Bool, not, ◌&&◌, List, [], ◌∷◌, ◌++◌, eqb}
use Rattle.lists.specs.Lists.{keep, many, some, place}
use Rattle.rules.specs.Grid.{GridPoint, Axis, Box, Field, same_point, step_up, turned}
use Rattle.rules.specs.Vertices.{vertices}
use Rattle.rules.specs.Faces.{Edge, edge}

-- a directed side, from one vertex number to another
pub record Link : Type 0 where
  pub tail : ℕ
  pub head : ℕ

abbrev pub link : ℕ → ℕ → Link
link i j = record { tail = i; head = j }

abbrev pub reverse : Link → Link
reverse s = link s.head s.tail

abbrev pub same_link : Link → Link → Bool
same_link s t = eqb s.tail t.tail && eqb s.head t.head

-- a flat list read as triangles of three indices each: the three directed sides of each
unfoldable pub links : List ℕ → List Link
links [] = []
links (i ∷ []) = []
links (i ∷ j ∷ []) = []
links (i ∷ j ∷ k ∷ is) = link i j ∷ link j k ∷ link k i ∷ links is

-- no hole, as a test of a flat list: each side that it shows occurs as often as its reverse
unfoldable pub closed : List ℕ → Bool
closed is = not (some (λ (s : Link). not (eqb (many (same_link s) (links is)) (many (same_link (reverse s)) (links is)))) (links is))

-- the sides of a face that are not its diagonal: the two triangles share the diagonal, so its reverse is among the sides as well
abbrev pub without_diagonal : List Link → List Link
without_diagonal sides = keep (λ (s : Link). not (some (same_link (reverse s)) sides)) sides

-- "counting face sides and not diagonals": a flat list read as faces of six indices each
unfoldable pub face_links : List ℕ → List Link
face_links [] = []
face_links (i ∷ []) = []
face_links (i ∷ j ∷ []) = []
face_links (i ∷ j ∷ k ∷ []) = []
face_links (i ∷ j ∷ k ∷ l ∷ []) = []
face_links (i ∷ j ∷ k ∷ l ∷ m ∷ []) = []
face_links (i ∷ j ∷ k ∷ l ∷ m ∷ n ∷ is) = without_diagonal (links (i ∷ j ∷ k ∷ l ∷ m ∷ n ∷ [])) ++ face_links is

-- the number of a cell's vertex: its place among the vertices
abbrev pub number_of : Field → Box → GridPoint → ℕ
number_of g b c = place (same_point c) (vertices g b)

-- the square that the cell c shares with its neighbour one step up on the axis a: its lowest corner is the neighbour's, and its four edges
-- are on the two other axes
pub record Square (P : Edge → Type 0) (a : Axis) (c : GridPoint) : Type 0 where
  pub near : P (edge (turned a) (step_up a c))
  pub far : P (edge (turned a) (step_up (turned (turned a)) (step_up a c)))
  pub left : P (edge (turned (turned a)) (step_up a c))
  pub right : P (edge (turned (turned a)) (step_up (turned a) (step_up a c)))
