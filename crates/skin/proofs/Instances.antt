-- Request 8 on three grids, computed by the kernel from the definitions: one point inside and closed; "Cells where four crossings meet on one
-- square", where a side and its reverse occur twice; and Ball of document 01, where the premise fails and so does the law. Assumes nothing.
use Prim.Native.Nat.{ℕ}
use mathlib.Core.Bool.{true, false, cond}
use mathlib.Core.List.{List, [], ◌∷◌}
use mathlib.Core.Path.{◌≡◌, refl, ap, ◌∙◌}
use lib.Dec.{T, eqb}
use lib.IntN.{pos}
use lib.Count.{count_trailing_zeros}
use lib.ListN.{length}
use lib.Ieee.{fin, add, sub, mul, div, lt, of_int, round, size, units, odd, neg, sum, span, climb}
use Rattle.lists.specs.Lists.{run, up_to, keep, many, some, joined, place}
use Rattle.rules.specs.Grid.{GridPoint, axis_x, Box, Field, index}
use Rattle.rules.specs.Cell.{one32, fraction, point_between, crossing_point, crossing_points, summed, crossings, centroid, position}
use Rattle.rules.specs.Vertices.{row_cells, layer_cells, layer_vertices, vertices, first_vertex}
use Rattle.rules.specs.Faces.{Edge, Flags, all_three, owned, changes, cell_edges, layer_edges, shorter, face_cells, layer_indices, indices, layer_points, points}
use Rattle.rules.specs.Call.{bad_dimensions, bad_box, bad_length}
use Rattle.skin.specs.Links.{link, same_link, links, face_links, closed, number_of, Square}
use Rattle.skin.specs.Enclosed.{inner, enclosed}
use Rattle.skin.specs.Scan.{answers, judged}

-- ---- the grids

abbrev point : ℕ → ℕ → ℕ → GridPoint
point x y z = record { x = x; y = y; z = z }

-- as many points on each axis, 1.0 but for -1.0 at two places, which may be one
abbrev grid : ℕ → GridPoint → GridPoint → Field
grid n p q = record { dims = point n n n; dist = λ i. cond (eqb i (index (point n n n) p)) (fin true 1 (pos 0)) (cond (eqb i (index (point n n n) q)) (fin true 1 (pos 0)) one32) }

-- the box from 0, 0, 0
abbrev box_to : ℕ → Box
box_to n = record { low = point 0 0 0; high = point n n n }

abbrev no_plane : Flags
no_plane = all_three false

abbrev single : Field
single = grid 4 (point 1 1 1) (point 1 1 1)

abbrev double : Field
double = grid 5 (point 1 1 1) (point 2 2 1)

abbrev ball : Field
ball = grid 3 (point 1 1 1) (point 1 1 1)

-- ---- their index lists

abbrev single_list : List ℕ
single_list =
    2 ∷ 1 ∷ 0 ∷ 2 ∷ 3 ∷ 1 ∷ 1 ∷ 4 ∷ 0 ∷ 1 ∷ 5 ∷ 4 ∷ 4 ∷ 2 ∷ 0 ∷ 4 ∷ 6 ∷ 2
    ∷ 5 ∷ 1 ∷ 3 ∷ 5 ∷ 3 ∷ 7 ∷ 3 ∷ 2 ∷ 6 ∷ 3 ∷ 6 ∷ 7 ∷ 6 ∷ 4 ∷ 5 ∷ 6 ∷ 5 ∷ 7 ∷ []

abbrev double_list : List ℕ
double_list =
    2 ∷ 1 ∷ 0 ∷ 2 ∷ 3 ∷ 1 ∷ 5 ∷ 4 ∷ 3 ∷ 5 ∷ 6 ∷ 4 ∷ 1 ∷ 7 ∷ 0 ∷ 1 ∷ 8 ∷ 7
    ∷ 7 ∷ 2 ∷ 0 ∷ 7 ∷ 9 ∷ 2 ∷ 8 ∷ 1 ∷ 3 ∷ 8 ∷ 3 ∷ 10 ∷ 3 ∷ 2 ∷ 9 ∷ 3 ∷ 9 ∷ 10
    ∷ 9 ∷ 7 ∷ 8 ∷ 9 ∷ 8 ∷ 10 ∷ 4 ∷ 10 ∷ 3 ∷ 4 ∷ 11 ∷ 10 ∷ 10 ∷ 5 ∷ 3 ∷ 10 ∷ 12 ∷ 5
    ∷ 11 ∷ 4 ∷ 6 ∷ 11 ∷ 6 ∷ 13 ∷ 6 ∷ 5 ∷ 12 ∷ 6 ∷ 12 ∷ 13 ∷ 12 ∷ 10 ∷ 11 ∷ 12 ∷ 11 ∷ 13 ∷ []

abbrev ball_list : List ℕ
ball_list = 2 ∷ 1 ∷ 0 ∷ 2 ∷ 3 ∷ 1 ∷ 1 ∷ 4 ∷ 0 ∷ 1 ∷ 5 ∷ 4 ∷ 4 ∷ 2 ∷ 0 ∷ 4 ∷ 6 ∷ 2 ∷ []

-- what a computed test opens: the definitions down to the arithmetic
opened : Unit {0}
unfolding run up_to keep many some joined place fraction point_between crossing_point crossing_points summed crossings centroid position row_cells layer_cells layer_vertices vertices
    first_vertex owned changes cell_edges layer_edges shorter face_cells layer_indices indices layer_points points add sub mul div lt of_int round size units odd neg sum span climb
    count_trailing_zeros links face_links closed inner enclosed bad_dimensions bad_box bad_length judged
opened = tt

-- ---- one point: dimensions 4, 4, 4, box to (3,3,3)

pub single-vertices : length (vertices single (box_to 3)) ≡ 8
unfolding opened
single-vertices = refl

pub single-indices : indices single (box_to 3) no_plane ≡ single_list
unfolding opened
single-indices = refl

pub single-enclosed : enclosed single (box_to 3) ≡ true
unfolding opened
single-enclosed = refl

single_list-closed : closed single_list ≡ true
unfolding opened
single_list-closed = refl

pub single-closed : (length (indices single (box_to 3) no_plane) ≡ 36) × (closed (indices single (box_to 3) no_plane) ≡ true)
single-closed = (ap length single-indices, ap closed single-indices ∙ single_list-closed)

-- the square between the cells (0,1,1) and (1,1,1), vertices 6 and 7, has all its edges owned, and the two are joined once each way
pub single-square : Square (λ (e : Edge). T (owned (box_to 3) no_plane e)) axis_x (point 0 1 1)
unfolding opened
single-square = record { near = tt; far = tt; left = tt; right = tt }

pub single-numbers : (number_of single (box_to 3) (point 0 1 1) ≡ 6) × (number_of single (box_to 3) (point 1 1 1) ≡ 7)
unfolding opened
single-numbers = (refl, refl)

single_list-joined : (many (same_link (link 6 7)) (face_links single_list) ≡ 1) × (many (same_link (link 7 6)) (face_links single_list) ≡ 1)
unfolding opened
single_list-joined = (refl, refl)

pub single-joined : (many (same_link (link 6 7)) (face_links (indices single (box_to 3) no_plane)) ≡ 1) ×
    (many (same_link (link 7 6)) (face_links (indices single (box_to 3) no_plane)) ≡ 1)
single-joined = (
  ap (λ l. many (same_link (link 6 7)) (face_links l)) single-indices ∙ single_list-joined.0,
  ap (λ l. many (same_link (link 7 6)) (face_links l)) single-indices ∙
      single_list-joined.1,
)

-- ---- two points across a square: dimensions 5, 5, 5, box to (4,4,4)

pub double-vertices : length (vertices double (box_to 4)) ≡ 14
unfolding opened
double-vertices = refl

pub double-indices : indices double (box_to 4) no_plane ≡ double_list
unfolding opened
double-indices = refl

pub double-enclosed : enclosed double (box_to 4) ≡ true
unfolding opened
double-enclosed = refl

double_list-closed : closed double_list ≡ true
unfolding opened
double_list-closed = refl

double_list-twice : (many (same_link (link 3 10)) (links double_list) ≡ 2) × (many (same_link (link 10 3)) (links double_list) ≡ 2)
unfolding opened
double_list-twice = (refl, refl)

pub double-closed : (length (indices double (box_to 4) no_plane) ≡ 72) × (closed (indices double (box_to 4) no_plane) ≡ true)
double-closed = (ap length double-indices, ap closed double-indices ∙ double_list-closed)

-- "there a side may occur twice, and its reverse twice"
pub double-twice : (many (same_link (link 3 10)) (links (indices double (box_to 4) no_plane)) ≡ 2) × (many (same_link (link 10 3)) (links (indices double (box_to 4) no_plane)) ≡ 2)
double-twice =
    (ap (λ l. many (same_link (link 3 10)) (links l)) double-indices ∙ double_list-twice.0, ap (λ l. many (same_link (link 10 3)) (links l)) double-indices ∙ double_list-twice.1)

-- ---- Ball: dimensions 3, 3, 3, box to (2,2,2); its point is not from min + 1 to max - 2, and a side has no reverse

pub ball-indices : indices ball (box_to 2) no_plane ≡ ball_list
unfolding opened
ball-indices = refl

pub ball-enclosed : enclosed ball (box_to 2) ≡ false
unfolding opened
ball-enclosed = refl

ball_list-open : (closed ball_list ≡ false) × (many (same_link (link 2 3)) (links ball_list) ≡ 1) × (many (same_link (link 3 2)) (links ball_list) ≡ 0)
unfolding opened
ball_list-open = (refl, refl, refl)

pub ball-open : closed (indices ball (box_to 2) no_plane) ≡ false
ball-open = ap closed ball-indices ∙ ball_list-open.0

pub ball-unmatched : (many (same_link (link 2 3)) (links (indices ball (box_to 2) no_plane)) ≡ 1) × (many (same_link (link 3 2)) (links (indices ball (box_to 2) no_plane)) ≡ 0)
ball-unmatched = (ap (λ l. many (same_link (link 2 3)) (links l)) ball-indices ∙ ball_list-open.1, ap (λ l. many (same_link (link 3 2)) (links l)) ball-indices ∙ ball_list-open.2)

-- ---- the answers of `is_enclosed`

abbrev flat : GridPoint → Field
flat dims = record { dims = dims; dist = λ i. one32 }

-- answer 0, yes and no; a box with no negative point is enclosed, also a flat one
pub answer-0 :
    (judged single (box_to 3) 64 ≡ answers 0 true)
    × (judged double (box_to 4) 125 ≡ answers 0 true)
    × (judged ball (box_to 2) 27 ≡ answers 0 false)
    × (judged (flat (point 3 3 3)) (box_to 2) 27 ≡ answers 0 true)
    × (judged (flat (point 3 3 3)) (box_to 0) 27 ≡ answers 0 true)
unfolding opened
answer-0 = (refl, refl, refl, refl, refl)

-- the refusals, alone and in their order: a dimension 0 with a bad box, a bad box with a short grid, a short grid and a long one
pub refused :
    (judged (flat (point 0 3 3)) (box_to 2) 27 ≡ answers 1 false)
    × (judged single (box_to 4) 0 ≡ answers 2 false)
    × (judged single (box_to 3) 63 ≡ answers 3 false)
    × (judged single (box_to 3) 65 ≡ answers 3 false)
unfolding opened
refused = (refl, refl, refl, refl)
