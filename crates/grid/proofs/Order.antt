-- How the lists of passed cells grow, where they begin and end, and how long they are. Assumes nothing.
use Prim.Native.Nat.{ℕ, zero, suc, ◌+◌, ◌-◌, ◌*◌, ◌≤◌}
use native.Mathlib.Nat.{le_refl}
use native.Mathlib.Numerals.{add-one}
use native.Mathlib.Omega.{arith}
use mathlib.Core.List.{[], ◌∷◌, ◌++◌, map-append}
use mathlib.Core.Path.{◌≡◌, refl, sym, ap, ◌∙◌}
use lib.ListN.{length, length-append, length-map}
use Rattle.lists.specs.Lists.{run, up_to, joined}
use Rattle.rules.specs.Grid.{GridPoint, Box}
use Rattle.rules.specs.Vertices.{row_cells, layer_cells, cells}
use Rattle.lists.proofs.Lists.{joined_length}
use Rattle.lists.proofs.Runs.{up_to-last, up_to-none, joined-last}
use Rattle.grid.specs.Order.{row_to, layer_to, box_to}

abbrev at : ℕ → ℕ → ℕ → GridPoint
at x y z = record { x = x; y = y; z = z }

-- ---- begin

pub row-begins : (b : Box) (z y : ℕ) → row_to b z y b.low.x ≡ []
unfolding row_to
row-begins b z y = rw (up_to-none b.low.x b.low.x (le_refl b.low.x))

pub layer-begins : (b : Box) (z : ℕ) → layer_to b z b.low.y ≡ []
unfolding layer_to joined
layer-begins b z = rw (up_to-none b.low.y b.low.y (le_refl b.low.y))

pub box-begins : (b : Box) → box_to b b.low.z ≡ []
unfolding box_to joined
box-begins b = rw (up_to-none b.low.z b.low.z (le_refl b.low.z))

-- ---- grow

pub row-grows : (b : Box) (z y x : ℕ) → b.low.x ≤ x → row_to b z y (x + 1) ≡ row_to b z y x ++ (record { x = x; y = y; z = z } ∷ [])
unfolding row_to
row-grows b z y x h = rw (add-one, up_to-last b.low.x x h) (map-append (λ (x' : ℕ). at x' y z) (up_to b.low.x x) (x ∷ []))

pub layer-grows : (b : Box) (z y : ℕ) → b.low.y ≤ y → layer_to b z (y + 1) ≡ layer_to b z y ++ row_cells b z y
unfolding layer_to
layer-grows b z y h = rw add-one (joined-last (row_cells b z) b.low.y y h)

pub box-grows : (b : Box) (z : ℕ) → b.low.z ≤ z → box_to b (z + 1) ≡ box_to b z ++ layer_cells b z
unfolding box_to
box-grows b z h = rw add-one (joined-last (layer_cells b) b.low.z z h)

-- ---- end

pub row_ends : (b : Box) (z y : ℕ) → row_to b z y b.high.x ≡ row_cells b z y
unfolding row_to row_cells
row_ends b z y = refl

pub layer-ends : (b : Box) (z : ℕ) → layer_to b z b.high.y ≡ layer_cells b z
unfolding layer_to layer_cells
layer-ends b z = refl

pub box-ends : (b : Box) → box_to b b.high.z ≡ cells b
unfolding box_to cells
box-ends b = refl

-- ---- lengths

length_run : (n : ℕ) → length (run n) ≡ n
unfolding run
length_run zero = refl
length_run (suc n) = length-append (run n) (n ∷ []) ∙ omega (arith, length_run n)

pub length-up_to : (low high : ℕ) → length (up_to low high) ≡ high - low
unfolding up_to
length-up_to low high = length-map (run (high - low)) (λ (k : ℕ). low + k) ∙ length_run (high - low)

pub row-length : (b : Box) (z y x : ℕ) → length (row_to b z y x) ≡ x - b.low.x
unfolding row_to
row-length b z y x = length-map (up_to b.low.x x) (λ (x' : ℕ). at x' y z) ∙ length-up_to b.low.x x

pub row_cells-length : (b : Box) (z y : ℕ) → length (row_cells b z y) ≡ b.high.x - b.low.x
row_cells-length b z y = ap length (sym (row_ends b z y)) ∙ row-length b z y b.high.x

pub layer-length : (b : Box) (z y : ℕ) → length (layer_to b z y) ≡ (b.high.x - b.low.x) * (y - b.low.y)
unfolding layer_to
layer-length b z y = joined_length (row_cells b z) (b.high.x - b.low.x) (row_cells-length b z) (up_to b.low.y y) ∙ ap (λ (n : ℕ). (b.high.x - b.low.x) * n)
    (length-up_to b.low.y y)

pub layer_cells-length : (b : Box) (z : ℕ) → length (layer_cells b z) ≡ (b.high.x - b.low.x) * (b.high.y - b.low.y)
layer_cells-length b z = ap length (sym (layer-ends b z)) ∙ layer-length b z b.high.y

pub box-length : (b : Box) (z : ℕ) → length (box_to b z) ≡ (b.high.x - b.low.x) * (b.high.y - b.low.y) * (z - b.low.z)
unfolding box_to
box-length b z =
    joined_length (layer_cells b) ((b.high.x - b.low.x) * (b.high.y - b.low.y)) (layer_cells-length b) (up_to b.low.z z)
    ∙ ap (λ (n : ℕ). (b.high.x - b.low.x) * (b.high.y - b.low.y) * n) (length-up_to b.low.z z)
