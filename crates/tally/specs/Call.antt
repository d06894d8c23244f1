-- The calls: the answers in document 01's order, and the three counts: the cells wholly in the sludge, and V and I as document 01 has them. Of a whole grid,
-- and layer by layer from min z up, with 91 for a z outside the box and 92 for counts so far that no box has. Definitions only. Assumes nothing.
use Rattle.std.specs.Prelude.{ℕ, ◌+◌, ◌-◌, ◌*◌, Bool, false, ◌||◌, cond, List, ltb, eqb, length, Float, Result, Ok, Err}
use Rattle.rules.specs.Grid.{Box, Field}
use Rattle.rules.specs.Vertices.{layer_vertices, vertices}
use Rattle.rules.specs.Faces.{Flags, layer_edges, indices}
use Rattle.rules.specs.Call.{bad_dimensions, bad_box, bad_length, bad_distance}
use Rattle.grid.specs.declared.Block.{Block}
use Rattle.grid.specs.Block.{point, box_of, flags_of, field_of}
use Rattle.grid.specs.Layers.{two_layers}
use Rattle.levels.specs.Call.{outside, bad_layers, bad_distances}
use Rattle.tally.specs.declared.Counts.{Counts}
use Rattle.tally.specs.declared.refusal.Refusal.{Refusal}
use Rattle.tally.specs.Answers.{number_of}
use Rattle.tally.specs.Cells.{whole_cells, whole_in_layer}

abbrev pub counted : ℕ → ℕ → ℕ → Counts
counted a v i = record { whole = a; vertices = v; indices = i }

abbrev pub nothing : Counts
nothing = counted 0 0 0

-- the answer number with the counts
pub record Told : Type 0 where
  pub answer : ℕ
  pub counts : Counts

abbrev pub told : ℕ → Counts → Told
told n c = record { answer = n; counts = c }

-- what the code answers, with the counts that stand beside a refusal
abbrev pub told_of : Counts → Result Counts Refusal → Told
told_of kept (Ok c) = told 0 c
told_of kept (Err r) = told (number_of r) kept

-- ---- the whole grid: "Conditions are tried in this order; the first that holds answers", 1, 2, 3 and 5

unfoldable pub tally_answer : List Float → Block → ℕ
tally_answer sdf k =
    cond (bad_dimensions (point k.dims)) 1
    (cond (bad_box (point k.dims) (box_of k)) 2
    (cond (bad_length (point k.dims) (length sdf)) 3
    (cond (bad_distance (field_of sdf k) (box_of k)) 5
    0)))

-- the cells wholly in the sludge, V and I
abbrev pub counts_of : Field → Box → Flags → Counts
counts_of g b m = counted (whole_cells g b) (length (vertices g b)) (length (indices g b m))

-- on a refusal nothing is counted
unfoldable pub tallied : List Float → Block → Told
tallied sdf k = told (tally_answer sdf k) (cond (eqb (tally_answer sdf k) 0) (counts_of (field_of sdf k) (box_of k) (flags_of k)) nothing)

-- ---- one layer, with the layer below it, on the counts so far

-- 92: a count above 2^60, which no box has
abbrev pub too_many : Counts → Bool
too_many c = ltb 1152921504606846976 c.whole || (ltb 1152921504606846976 c.vertices || ltb 1152921504606846976 c.indices)

-- at min z they are not looked at
abbrev pub bad_counts : Block → ℕ → Counts → Bool
bad_counts k z sofar = cond (eqb z k.low.z) false (too_many sofar)

-- 91: a z below min z or above max z. 3 and 5 are those of both lent layers; the layer below that of min z is none
unfoldable pub layer_answer : List Float → List Float → Block → ℕ → Counts → ℕ
layer_answer lower upper k z sofar =
    cond (bad_dimensions (point k.dims)) 1
    (cond (bad_box (point k.dims) (box_of k)) 2
    (cond (outside (box_of k) z) 91
    (cond (bad_layers (point k.dims) (box_of k) lower upper z) 3
    (cond (bad_distances (point k.dims) (box_of k) lower upper z) 5
    (cond (bad_counts k z sofar) 92
    0)))))

-- what the layer z of cells adds: its cells wholly in the sludge, its vertices, and six indices for each of its faces
abbrev pub layer_counts : Field → Box → Flags → ℕ → Counts
layer_counts g b m z = counted (whole_in_layer g b z) (length (layer_vertices g b z)) (6 * length (layer_edges g b m z))

abbrev pub plus : Counts → Counts → Counts
plus c d = counted (c.whole + d.whole) (c.vertices + d.vertices) (c.indices + d.indices)

-- the counts once the layer z of points is taken: none at min z, and else those so far and the cells between the two layers
abbrev pub taken : List Float → List Float → Block → ℕ → Counts → Counts
taken lower upper k z sofar =
    cond (eqb z k.low.z) nothing (plus sofar (layer_counts (two_layers lower upper k (z - 1)) (box_of k) (flags_of k) (z - 1)))

-- a refusal leaves the counts as they were
unfoldable pub layer_told : List Float → List Float → Block → ℕ → Counts → Told
layer_told lower upper k z sofar =
    told (layer_answer lower upper k z sofar) (cond (eqb (layer_answer lower upper k z sofar) 0) (taken lower upper k z sofar) sofar)
