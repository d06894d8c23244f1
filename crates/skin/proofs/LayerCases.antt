-- One layer tested by itself, with numbers: dimensions and corners unlike on each axis, a box smaller than the grid, negative points beside it that are not read. Computed by the
-- kernel from the definitions; the wanted answers are read off document 02's request 8 and the order of the conditions. Assumes nothing.
use Prim.Native.Nat.{ℕ, ◌+◌, ◌*◌}
use mathlib.Core.Bool.{Bool, true, false, not, ◌&&◌}
use mathlib.Core.List.{List, [], ◌∷◌}
use lib.Dec.{T, eqb}
use lib.IntN.{pos}
use lib.Ieee.{Float, fin, lt}
use lib.ListN.{replicate, set}
use Rattle.lists.specs.Lists.{run, up_to, some, joined}
use Rattle.rules.specs.Cell.{one32}
use Rattle.rules.specs.Faces.{layer_points}
use Rattle.rules.specs.Call.{bad_dimensions, bad_box}
use Rattle.grid.specs.declared.Extent.{Extent}
use Rattle.skin.specs.Enclosed.{inner}
use Rattle.skin.specs.Scan.{layer_enclosed, judged_layer, examined_layer}

abbrev extent : ℕ → ℕ → ℕ → Extent
extent x y z = record { x = x; y = y; z = z }

-- 7 by 6 points, 1.0 but for -1.0 at one of them and at a corner outside of the box
abbrev layer : ℕ → ℕ → List Float
layer x y = set (set (replicate 42 one32) 0 (fin true 1 (pos 0))) (x + 7 * y) (fin true 1 (pos 0))

-- a layer, its z, the wanted answer and yes or no. The box from (1, 1, 3) to (5, 4, 8) has its inside from (2, 2, 4) to (3, 2, 6)
pub record Case : Type 0 where
  pub layer : List Float
  pub dims : Extent
  pub high : Extent
  pub z : ℕ
  pub answer : ℕ
  pub enclosed : Bool

abbrev case : List Float → ℕ → Bool → Case
case l z yes' = record { layer = l; dims = extent 7 6 9; high = extent 5 4 8; z = z; answer = 0; enclosed = yes' }

abbrev refused : List Float → Extent → Extent → ℕ → ℕ → Case
refused l dims high z n = record { layer = l; dims = dims; high = high; z = z; answer = n; enclosed = false }

pub cases : List Case
cases =
    -- in both inner layers' ends, and in the layers around them
    case (layer 2 2) 4 true ∷ case (layer 3 2) 6 true ∷ case (layer 2 2) 3 false ∷ case (layer 2 2) 7 false ∷ case (layer 3 2) 8 false
    -- beside the inside on x and on y
    ∷ case (layer 1 2) 5 false ∷ case (layer 4 2) 5 false ∷ case (layer 5 2) 5 false ∷ case (layer 2 1) 5 false ∷ case (layer 3 3) 5 false ∷ case (layer 3 4) 5 false
    -- outside of the box: not read, in any layer
    ∷ case (layer 6 2) 5 true ∷ case (layer 0 2) 3 true ∷ case (layer 3 5) 8 true ∷ case (layer 3 0) 4 true
    -- the refusals, alone and before what comes after: a dimension 0, max at its dimension, z below min and above max, a layer of 41 and of 43
    ∷ refused [] (extent 7 0 9) (extent 5 4 9) 2 1
    ∷ refused [] (extent 7 6 9) (extent 5 4 9) 2 2
    ∷ refused [] (extent 7 6 9) (extent 5 4 8) 2 77
    ∷ refused [] (extent 7 6 10) (extent 5 4 8) 9 77
    ∷ refused (replicate 41 one32) (extent 7 6 9) (extent 5 4 8) 3 3
    ∷ refused (replicate 43 one32) (extent 7 6 9) (extent 5 4 8) 8 3
    ∷ []

abbrev same_flag : Bool → Bool → Bool
same_flag true b = b
same_flag false b = not b

unfoldable pub passes : List Case → Bool
passes [] = true
passes (c ∷ cs) =
    let r = examined_layer c.layer c.dims (extent 1 1 3) c.high c.z in
    eqb r.answer c.answer && (same_flag r.enclosed c.enclosed && passes cs)

pub layer-cases-computed : T (passes cases)
unfolding passes cases judged_layer layer_enclosed bad_dimensions bad_box layer_points inner run up_to some joined lt
layer-cases-computed = tt
