-- Document 01, "Cells and vertices": what a cell's eight corner values say of it, by binary32 with one rounding for each operation,
-- in the document's order of operations. The eight values stand in a list, corner 0 first. Definitions only. Assumes nothing.
use Rattle.std.specs.Prelude.{ℕ, zero, suc, ◌+◌, ◌/◌, ◌%◌, Bool, false, ◌&&◌, List, [], ◌∷◌, map, leb, pos, get_or, Float}
use Rattle.std.specs.Float.{nan, fin, binary32}
use Rattle.std.specs.Float.Ieee.{unlike, add, sub, mul, div, lt, of_int}
use Rattle.lists.specs.Lists.{keep, many}
use Rattle.rules.specs.Grid.{GridPoint, Field, value}

-- ---- the operations, at binary32

abbrev pub ◌⊕◌ : Float → Float → Float
◌⊕◌ a b = add binary32 a b

abbrev pub ◌⊖◌ : Float → Float → Float
◌⊖◌ a b = sub binary32 a b

abbrev pub ◌⊗◌ : Float → Float → Float
◌⊗◌ a b = mul binary32 a b

abbrev pub ◌⊘◌ : Float → Float → Float
◌⊘◌ a b = div binary32 a b

infixl 65 ◌⊕◌
infixl 65 ◌⊖◌
infixl 70 ◌⊗◌
infixl 70 ◌⊘◌
abbrev pub zero32 : Float
zero32 = fin false 0 (pos 0)

abbrev pub one32 : Float
one32 = fin false 1 (pos 0)

-- a number as a float
abbrev pub float : ℕ → Float
float n = of_int binary32 (pos n)

-- three floats: a vertex's position, a normal, a point in the unit cube
pub record Vector : Type 0 where
  pub x : Float
  pub y : Float
  pub z : Float

abbrev pub zero_vector : Vector
zero_vector = record { x = zero32; y = zero32; z = zero32 }

abbrev pub one_vector : Vector
one_vector = record { x = one32; y = one32; z = one32 }

-- "Vector operations go by component."
abbrev pub plus : Vector → Vector → Vector
plus u v = record { x = u.x ⊕ v.x; y = u.y ⊕ v.y; z = u.z ⊕ v.z }

abbrev pub minus : Vector → Vector → Vector
minus u v = record { x = u.x ⊖ v.x; y = u.y ⊖ v.y; z = u.z ⊖ v.z }

abbrev pub scaled : Float → Vector → Vector
scaled k v = record { x = k ⊗ v.x; y = k ⊗ v.y; z = k ⊗ v.z }

abbrev pub divided : Vector → Float → Vector
divided v k = record { x = v.x ⊘ k; y = v.y ⊘ k; z = v.z ⊘ k }

-- "Squared distance is (dx·dx + dy·dy) + dz·dz."
abbrev pub sum_of_squares : Vector → Float
sum_of_squares d = (d.x ⊗ d.x ⊕ d.y ⊗ d.y) ⊕ d.z ⊗ d.z

abbrev pub squared_distance : Vector → Vector → Float
squared_distance u v = sum_of_squares (minus u v)

-- ---- corners and signs

-- "Negative means d < 0, so 0 and -0.0 are not negative."
abbrev pub negative : Float → Bool
negative d = lt d zero32

-- "Corner i stands at (i mod 2, i/2 mod 2, i/4)": in the cell whose lowest corner is c
abbrev pub corner_of : GridPoint → ℕ → GridPoint
corner_of c i = record { x = c.x + i % 2; y = c.y + i / 2 % 2; z = c.z + i / 4 }

abbrev pub eight : List ℕ
eight = 0 ∷ 1 ∷ 2 ∷ 3 ∷ 4 ∷ 5 ∷ 6 ∷ 7 ∷ []

-- the values at a cell's corners, corner 0 first
abbrev pub values : Field → GridPoint → List Float
values g c = map (λ i. value g (corner_of c i)) eight

-- the value at corner i
abbrev pub corner : List Float → ℕ → Float
corner d i = get_or d i nan

-- "A cell with 1 to 7 negative corners of 8 is a surface cell"
abbrev pub negatives : List Float → ℕ
negatives d = many negative d

abbrev pub surface : List Float → Bool
surface d = leb 1 (negatives d) && leb (negatives d) 7

-- ---- the edges of the cube, and where they are crossed

pub record CubeEdge : Type 0 where
  pub a : ℕ
  pub b : ℕ

abbrev pub cube_edge : ℕ → ℕ → CubeEdge
cube_edge a b = record { a = a; b = b }

-- "Edges, in this order"
abbrev pub cube_edges : List CubeEdge
cube_edges =
    cube_edge 0 1 ∷ cube_edge 0 2 ∷ cube_edge 0 4 ∷ cube_edge 1 3 ∷ cube_edge 1 5 ∷ cube_edge 2 3
    ∷ cube_edge 2 6 ∷ cube_edge 3 7 ∷ cube_edge 4 5 ∷ cube_edge 4 6 ∷ cube_edge 5 7 ∷ cube_edge 6 7 ∷ []

-- "Edge a-b crosses if exactly one end is negative."
abbrev pub crosses : List Float → CubeEdge → Bool
crosses d e = unlike (negative (corner d e.a)) (negative (corner d e.b))

-- "Fraction f = da / (da - db)"
unfoldable pub fraction : Float → Float → Float
fraction da db = da ⊘ (da ⊖ db)

-- a corner's coordinates in the unit cube, as floats
abbrev pub bit : ℕ → Float
bit zero = zero32
bit (suc n) = one32

abbrev pub corner_vector : ℕ → Vector
corner_vector i = record { x = bit (i % 2); y = bit (i / 2 % 2); z = bit (i / 4) }

-- "g = 1 - f; point = g·corner a + f·corner b"
unfoldable pub point_between : Float → ℕ → ℕ → Vector
point_between f a b = plus (scaled (one32 ⊖ f) (corner_vector a)) (scaled f (corner_vector b))

unfoldable pub crossing_point : List Float → CubeEdge → Vector
crossing_point d e = point_between (fraction (corner d e.a) (corner d e.b)) e.a e.b

-- ---- the centroid

-- the points of the crossed edges, in edge order
unfoldable pub crossing_points : List Float → List Vector
crossing_points d = map (crossing_point d) (keep (crosses d) cube_edges)

-- "Sum the points in edge order from zero": one after the other onto what is there
unfoldable pub summed : Vector → List Vector → Vector
summed v [] = v
summed v (p ∷ ps) = summed (plus v p) ps

-- how many edges are crossed
unfoldable pub crossings : List Float → ℕ
crossings d = many (crosses d) cube_edges

-- "divide by their number as a float: that is s"
unfoldable pub centroid : List Float → Vector
centroid d = divided (summed zero_vector (crossing_points d)) (float (crossings d))

-- "Position = cell + s."
unfoldable pub position : GridPoint → Vector → Vector
position c s = record { x = float c.x ⊕ s.x; y = float c.y ⊕ s.y; z = float c.z ⊕ s.z }

-- ---- the normal

-- "((ny·nz)·A + (ny·sz)·B) + (sy·nz)·C, then + (sy·sz)·D": of the two other axes in turn, n and s on the first, n' and s' on the second
abbrev pub blend : Float → Float → Float → Float → Float → Float → Float → Float → Float
blend n s n' s' A B C D = (((n ⊗ n') ⊗ A ⊕ (n ⊗ s') ⊗ B) ⊕ (s ⊗ n') ⊗ C) ⊕ (s ⊗ s') ⊗ D

-- the difference of the values at two corners
abbrev pub step : List Float → ℕ → ℕ → Float
step d a b = corner d a ⊖ corner d b

-- "Normal, not of unit length, with n = 1 - s."
unfoldable pub normal : List Float → Vector → Vector
normal d s =
    record {
      x = blend (one32 ⊖ s.y) s.y (one32 ⊖ s.z) s.z (step d 1 0) (step d 5 4) (step d 3 2) (step d 7 6);
      y = blend (one32 ⊖ s.z) s.z (one32 ⊖ s.x) s.x (step d 2 0) (step d 3 1) (step d 6 4) (step d 7 5);
      z = blend (one32 ⊖ s.x) s.x (one32 ⊖ s.y) s.y (step d 4 0) (step d 6 2) (step d 5 1) (step d 7 3);
    }
