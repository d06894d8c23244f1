-- Each cell, each point and each vertex of a box stands in its list once, and nothing else does; so V is the number of surface cells.
-- From the counts in a run of numbers, one axis after the other. Assumes nothing.
use Prim.Native.Nat.{ℕ, ◌+◌}
use native.Mathlib.Omega.{arith}
use mathlib.Core.Bool.{Bool, ◌&&◌, and_comm}
use mathlib.Core.List.{List, map}
use mathlib.Core.Path.{◌≡◌, refl, sym, ap, ap₂, ◌∙◌}
use lib.Dec.{T, leb, ltb, eqb, eqb→eq, eqb_refl, leb→le, le→leb, ltb→lt, lt→ltb}
use lib.Ieee.Fits.{and_i, and_l, and_r, eq→eqb}
use lib.ListN.{length}
use Rattle.lists.specs.Lists.{one, up_to, keep, many, joined, below}
use Rattle.rules.specs.Grid.{GridPoint, Box, Field, same_point, between, is_cell, in_box}
use Rattle.rules.specs.Vertices.{row_cells, layer_cells, layers, cells, surface_cell, layer_vertices, vertices}
use Rattle.rules.specs.Faces.{layer_points, points}
use Rattle.lists.proofs.Tests.{same_test, same-moves}
use Rattle.lists.proofs.Lists.{
  All,
  all-each,
  all_then,
  all_map,
  all-joined,
  all_keep,
  length-keep,
  many-keep,
  many-same,
  many-and,
  many-with,
  many-map,
  many-joined-once,
  keep-joined,
}
use Rattle.lists.proofs.Runs.{up_to-once, up_to-all}
use Rattle.rules.proofs.Indexes.{Same, same_point_lem}

-- ---- points told apart

pub same-says : (p q : GridPoint) → T (same_point p q) → Same p q
same-says p q t = (
  eqb→eq p.x q.x (and_l (eqb p.x q.x) (eqb p.y q.y && eqb p.z q.z) t),
  eqb→eq p.y q.y (and_l (eqb p.y q.y) (eqb p.z q.z) rest),
  eqb→eq p.z q.z (and_r (eqb p.y q.y) (eqb p.z q.z) rest),
)
  where
    rest : T (eqb p.y q.y && eqb p.z q.z)
    rest = and_r (eqb p.x q.x) (eqb p.y q.y && eqb p.z q.z) t

pub says_same : (p q : GridPoint) → Same p q → T (same_point p q)
says_same p q h =
    and_i (eqb p.x q.x) (eqb p.y q.y && eqb p.z q.z) (eq→eqb h.0)
    (and_i (eqb p.y q.y) (eqb p.z q.z) (eq→eqb h.1) (eq→eqb h.2))

pub same_point-sound : (p q : GridPoint) → T (same_point p q) → p ≡ q
same_point-sound p q t = same_point_lem (same-says p q t)

pub same_point-itself : (p : GridPoint) → T (same_point p p)
same_point-itself p = says_same p p (refl, refl, refl)

-- where a test goes with the same point, it may be asked of either
pub same_point-moves : (f : GridPoint → Bool) (p q : GridPoint) → (f q && same_point p q) ≡ (f p && same_point p q)
same_point-moves = same-moves same_point same_point-sound

-- ---- one axis after the other, in any three runs of numbers

-- the points of a row
abbrev row : ℕ → ℕ → ℕ → ℕ → List GridPoint
row lx hx z y = map (λ (x : ℕ). record { x = x; y = y; z = z }) (up_to lx hx)

row-once : (p : GridPoint) (lx hx z y : ℕ) → many (same_point p) (row lx hx z y) ≡ one (below lx hx p.x && (eqb p.y y && eqb p.z z))
row-once p lx hx z y =
    many-map (same_point p) (λ (x : ℕ). record { x = x; y = y; z = z }) (up_to lx hx)
    ∙ many-and (eqb p.x) (eqb p.y y && eqb p.z z) (up_to lx hx) (below lx hx p.x) (up_to-once p.x lx hx)

plane-once : (p : GridPoint) (lx hx ly hy z : ℕ)
    → many (same_point p) (joined (row lx hx z) (up_to ly hy)) ≡ one (below lx hx p.x && (below ly hy p.y && eqb p.z z))
plane-once p lx hx ly hy z =
    many-joined-once (same_point p) (row lx hx z) (λ (y : ℕ). below lx hx p.x && (eqb p.y y && eqb p.z z)) (row-once p lx hx z) (up_to ly hy)
    ∙ many-with (λ (y : ℕ). eqb p.y y && eqb p.z z) (below lx hx p.x) (up_to ly hy) (below ly hy p.y && eqb p.z z)
    (many-and (eqb p.y) (eqb p.z z) (up_to ly hy) (below ly hy p.y) (up_to-once p.y ly hy))

block-once : (p : GridPoint) (a b : Bool) (plane : ℕ → List GridPoint)
    → ((z : ℕ) → many (same_point p) (plane z) ≡ one (a && (b && eqb p.z z))) → (lz hz : ℕ) → many (same_point p) (joined plane (up_to lz hz)) ≡ one
    (a && (b && below lz hz p.z))
block-once p a b plane e lz hz =
    many-joined-once (same_point p) plane (λ (z : ℕ). a && (b && eqb p.z z)) e (up_to lz hz)
    ∙ many-with (λ (z : ℕ). b && eqb p.z z) a (up_to lz hz) (b && below lz hz p.z) (many-with (eqb p.z) b (up_to lz hz) (below lz hz p.z) (up_to-once p.z lz hz))

-- ---- cells

-- a cell of the layer z
abbrev pub is_layer_cell : Box → ℕ → GridPoint → Bool
is_layer_cell b z p = below b.low.x b.high.x p.x && (below b.low.y b.high.y p.y && eqb p.z z)

pub layer-z : (b : Box) (z : ℕ) (p : GridPoint) → T (is_layer_cell b z p) → p.z ≡ z
layer-z b z p t = eqb→eq p.z z (and_r in_y (eqb p.z z) (and_r (below b.low.x b.high.x p.x) (in_y && eqb p.z z) t))
  where
    in_y : Bool
    in_y = below b.low.y b.high.y p.y

pub cell-layer : (b : Box) (p : GridPoint) → T (is_cell b p) → T (is_layer_cell b p.z p)
cell-layer b p t = and_i in_x (in_y && eqb p.z p.z) (and_l in_x (in_y && in_z) t) (and_i in_y (eqb p.z p.z) (and_l in_y in_z (and_r in_x (in_y && in_z) t)) (eqb_refl p.z))
  where
    in_x : Bool
    in_x = below b.low.x b.high.x p.x

    in_y : Bool
    in_y = below b.low.y b.high.y p.y

    in_z : Bool
    in_z = below b.low.z b.high.z p.z

pub layer_cells-once : (b : Box) (z : ℕ) (p : GridPoint) → many (same_point p) (layer_cells b z) ≡ one (is_layer_cell b z p)
unfolding layer_cells row_cells
layer_cells-once b z p = plane-once p b.low.x b.high.x b.low.y b.high.y z

pub cells-once : (b : Box) (p : GridPoint) → many (same_point p) (cells b) ≡ one (is_cell b p)
unfolding cells
cells-once b p =
    block-once p (below b.low.x b.high.x p.x) (below b.low.y b.high.y p.y) (layer_cells b) (λ z. layer_cells-once b z p) b.low.z b.high.z

-- ---- points

between_is : (low high k : ℕ) → below low (high + 1) k ≡ between low high k
between_is low high k = ap (λ t. leb low k && t) (same_test (ltb k (high + 1)) (leb k high) to from)
  where
    to : T (ltb k (high + 1)) → T (leb k high)
    to t = le→leb k high (omega (arith, ltb→lt k (high + 1) t))

    from : T (leb k high) → T (ltb k (high + 1))
    from t = lt→ltb k (high + 1) (omega (arith, leb→le k high t))

-- a point of the box's layer z
abbrev pub is_layer_point : Box → ℕ → GridPoint → Bool
is_layer_point b z p = between b.low.x b.high.x p.x && (between b.low.y b.high.y p.y && eqb p.z z)

pub layer_points-once : (b : Box) (z : ℕ) (p : GridPoint) → many (same_point p) (layer_points b z) ≡ one (is_layer_point b z p)
unfolding layer_points
layer_points-once b z p =
    plane-once p b.low.x (b.high.x + 1) b.low.y (b.high.y + 1) z
    ∙ ap₂ (λ s t. one (s && (t && eqb p.z z))) (between_is b.low.x b.high.x p.x) (between_is b.low.y b.high.y p.y)

pub points-once : (b : Box) (p : GridPoint) → many (same_point p) (points b) ≡ one (in_box b p)
unfolding points
points-once b p =
    block-once p (between b.low.x b.high.x p.x) (between b.low.y b.high.y p.y) (layer_points b) (λ z. layer_points-once b z p) b.low.z (b.high.z + 1)
    ∙ ap (λ t. one (between b.low.x b.high.x p.x && (between b.low.y b.high.y p.y && t))) (between_is b.low.z b.high.z p.z)

-- ---- vertices

-- what a test keeps of a list that holds each point once
pub kept-once : (f : GridPoint → Bool) (l : List GridPoint) (p : GridPoint) (t : Bool) → many (same_point p) l ≡ one t → many (same_point p) (keep f l) ≡ one (t && f p)
kept-once f l p t e =
    many-keep (same_point p) f l
    ∙ many-same (all-each (same_point-moves f p) l)
    ∙ many-with (same_point p) (f p) l t e
    ∙ ap one (and_comm (f p) t)

pub layer_vertices-once : (g : Field) (b : Box) (z : ℕ) (c : GridPoint) → many (same_point c) (layer_vertices g b z) ≡ one (is_layer_cell b z c && surface_cell g c)
unfolding layer_vertices
layer_vertices-once g b z c = kept-once (surface_cell g) (layer_cells b z) c (is_layer_cell b z c) (layer_cells-once b z c)

pub vertices-are : (g : Field) (b : Box) → vertices g b ≡ keep (surface_cell g) (cells b)
unfolding vertices layer_vertices cells
vertices-are g b = sym (keep-joined (surface_cell g) (layer_cells b) (layers b))

pub vertices-once : (g : Field) (b : Box) (c : GridPoint) → many (same_point c) (vertices g b) ≡ one (is_cell b c && surface_cell g c)
vertices-once g b c = ap (many (same_point c)) (vertices-are g b) ∙ kept-once (surface_cell g) (cells b) c (is_cell b c) (cells-once b c)

-- "A cell with 1 to 7 negative corners of 8 is a surface cell and gets the next vertex number, from 0."
pub layer-count : (g : Field) (b : Box) (z : ℕ) → length (layer_vertices g b z) ≡ many (surface_cell g) (layer_cells b z)
unfolding layer_vertices
layer-count g b z = length-keep (surface_cell g) (layer_cells b z)

pub cell-count : (g : Field) (b : Box) → length (vertices g b) ≡ many (surface_cell g) (cells b)
cell-count g b = ap length (vertices-are g b) ∙ length-keep (surface_cell g) (cells b)

-- ---- what the lists hold

pub layer_cells-all : (b : Box) (z : ℕ) → All (λ c. T (is_layer_cell b z c)) (layer_cells b z)
unfolding layer_cells row_cells
layer_cells-all b z = all-joined (all_then in_row (up_to-all b.low.y b.high.y))
  where
    in_x : ℕ → Bool
    in_x x = below b.low.x b.high.x x

    in_y : ℕ → Bool
    in_y y = below b.low.y b.high.y y

    at : (y x : ℕ) → T (in_y y) → T (in_x x) → T (is_layer_cell b z (record { x = x; y = y; z = z }))
    at y x h k = and_i (in_x x) (in_y y && eqb z z) k (and_i (in_y y) (eqb z z) h (eqb_refl z))

    in_row : (y : ℕ) → T (in_y y) → All (λ (c : GridPoint). T (is_layer_cell b z c)) (row b.low.x b.high.x z y)
    in_row y h = all_map (λ (x : ℕ). record { x = x; y = y; z = z }) (all_then (λ x k. at y x h k) (up_to-all b.low.x b.high.x))

pub layer_vertices-all : (g : Field) (b : Box) (z : ℕ) → All (λ c. T (is_layer_cell b z c && surface_cell g c)) (layer_vertices g b z)
unfolding layer_vertices
layer_vertices-all g b z = all_keep (surface_cell g) (all_then (λ c h k. and_i (is_layer_cell b z c) (surface_cell g c) h k) (layer_cells-all b z))
