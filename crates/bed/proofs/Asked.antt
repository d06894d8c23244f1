-- What a callee says of dimensions, or of a block, by one name each: a function for C says it of those that its twelve words are, which are the same. So
-- each of its proofs is one step. Assumes nothing.
use Prim.Native.Nat.{ℕ}
use mathlib.Core.Path.{◌≡◌}
use mathlib.Core.List.{List}
use lib.Ieee.{Float}
use lib.ListN.{length}
use Rattle.rules.specs.Call.{Answer, Room, Buffers, answer, afterwards, room}
use Rattle.grid.specs.declared.Extent.{Extent}
use Rattle.grid.specs.declared.Block.{Block}
use Rattle.grid.specs.Block.{point, call_of}
use Rattle.skin.specs.Scan.{Tested}
use Rattle.skin.specs.Scan.{examined, examined_layer}
use Rattle.levels.specs.Call.{box_from, levels_answer, levels_after, layer_answer, layer_after}
use Rattle.closing.specs.Answers.{close_answer, closed_room, layer_answer as closed_answer, layer_room}
use Rattle.fixtures.specs.Cut.{cut_answer, cut_grid}
use Rattle.fixtures.specs.Layer as fixture-layer
use Rattle.fixture_widths.specs.Into.{into_answer, cut_into}

-- ---- of a block

-- a call of document 01 on a grid, with what was lent, said and left
abbrev pub Answered : List Float → Room → Answer → Block → Type 0
Answered grid rooms says k = says ≡ answer (call_of grid k) rooms

abbrev pub Meshed : List Float → Buffers → Answer → Buffers → Block → Type 0
Meshed grid lent says left k = Answered grid (room lent) says k × (left ≡ afterwards (call_of grid k) lent)

abbrev pub Examined : List Float → Tested → Block → Type 0
Examined grid says k = says ≡ examined grid k.dims k.low k.high

abbrev pub LayerExamined : List Float → ℕ → Tested → Block → Type 0
LayerExamined layer z says k = says ≡ examined_layer layer k.dims k.low k.high z

abbrev pub Levelled : List Float → List Float → ℕ → List Float → Block → Type 0
Levelled grid old number left k =
    (number ≡ levels_answer grid (point k.dims) (box_from k.low k.high) (length old))
    × (left ≡ levels_after grid (point k.dims) (box_from k.low k.high) old)

abbrev pub LayerLevelled : List Float → List Float → ℕ → List Float → ℕ → List Float → Block → Type 0
LayerLevelled below layer z old number left k =
    (number ≡ layer_answer below layer (point k.dims) (box_from k.low k.high) z (length old))
    × (left ≡ layer_after below layer (point k.dims) (box_from k.low k.high) z old)

-- ---- of dimensions; a grid of whole numbers is as long as that of their floats, and its own length is what is said

abbrev pub Closed : List Float → ℕ → Float → List Float → ℕ → List Float → Extent → Type 0
Closed grid size wall old number left d =
    (number ≡ close_answer (point d) size wall (length old)) × (left ≡ closed_room (point d) wall grid old)

abbrev pub LayerClosed : List Float → ℕ → ℕ → Float → List Float → ℕ → List Float → Extent → Type 0
LayerClosed layer size z wall old number left d =
    (number ≡ closed_answer (point d) z size wall (length old)) × (left ≡ layer_room (point d) wall z layer old)

abbrev pub FixturesCut : List ℕ → List Float → ℕ → List Float → Extent → Type 0
FixturesCut file old number left d = (number ≡ cut_answer file (point d) (length old)) × (left ≡ cut_grid file (point d) old)

abbrev pub LayerCut : List ℕ → ℕ → List Float → ℕ → List Float → Extent → Type 0
LayerCut file z old number left d =
    (number ≡ fixture-layer.layer_answer file (point d) z (length old)) × (left ≡ fixture-layer.cut_layer file (point d) z old)

abbrev pub LayerCutInto : List ℕ → List Float → ℕ → List Float → ℕ → List Float → Extent → Type 0
LayerCutInto file layer z old number left d =
    (number ≡ into_answer file (point d) z (length layer) (length old)) × (left ≡ cut_into file (point d) z layer old)
