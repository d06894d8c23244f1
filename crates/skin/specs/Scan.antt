-- What the code of request 8 says of itself: the stray points of a row, a layer and the box, and the answer with the refusals of document 01
-- before it. Definitions only. Assumes nothing.
use Rattle.std.specs.Prelude.{ℕ, ◌+◌, ◌-◌, ◌*◌, Bool, false, not, ◌&&◌, ◌||◌, cond, List, ltb, eqb, length, get_or, Float}
use Rattle.std.specs.Float.{nan}
use Rattle.lists.specs.Lists.{some, up_to}
use Rattle.rules.specs.Grid.{GridPoint, Box, Field, value}
use Rattle.rules.specs.Cell.{negative}
use Rattle.rules.specs.Faces.{layer_points}
use Rattle.rules.specs.Call.{bad_dimensions, bad_box, bad_length}
use Rattle.grid.specs.declared.Extent.{Extent}
use Rattle.grid.specs.Block.{point}
use Rattle.skin.specs.Enclosed.{inner, stray, enclosed}

-- the points of a part of a row, of a row, of a layer and of the box. The distances are read in the layer `place` of a box f; whether a point is stray is asked in the
-- layer z of the box b
abbrev pub stray_at : Field → Box → GridPoint → GridPoint → Bool
stray_at g b p q = negative (value g p) && not (inner b q)

unfoldable pub stray_part : Field → Box → ℕ → ℕ → ℕ → ℕ → ℕ → Bool
stray_part g b place z y from end = some (λ (x : ℕ). stray_at g b (record { x = x; y = y; z = place }) (record { x = x; y = y; z = z })) (up_to from end)

unfoldable pub stray_row : Field → Box → Box → ℕ → ℕ → ℕ → Bool
stray_row g f b place z y = some (λ (x : ℕ). stray_at g b (record { x = x; y = y; z = place }) (record { x = x; y = y; z = z })) (up_to f.low.x (f.high.x + 1))

unfoldable pub stray_layer : Field → Box → Box → ℕ → ℕ → Bool
stray_layer g f b place z = some (stray_row g f b place z) (up_to f.low.y (f.high.y + 1))

unfoldable pub stray_box : Field → Box → Bool
stray_box g b = some (λ (z : ℕ). stray_layer g b b z z) (up_to b.low.z (b.high.z + 1))

-- an answer's number, 0 where the test was made, and whether it says yes
pub record Tested : Type 0 where
  pub answer : ℕ
  pub enclosed : Bool

abbrev pub answers : ℕ → Bool → Tested
answers n yes' = record { answer = n; enclosed = yes' }

-- "Conditions are tried in this order; the first that holds answers": 1, 2 and 3 of document 01, and then the premise
unfoldable pub judged : Field → Box → ℕ → Tested
judged g b size =
    cond (bad_dimensions g.dims) (answers 1 false)
    (cond (bad_box g.dims b) (answers 2 false)
    (cond (bad_length g.dims size) (answers 3 false)
    (answers 0 (enclosed g b))))

-- a lent grid, and the box between two corners
abbrev pub grid_of : List Float → Extent → Field
grid_of sdf dims = record { dims = point dims; dist = λ i. get_or sdf i nan }

abbrev pub box_from : Extent → Extent → Box
box_from low high = record { low = point low; high = point high }

abbrev pub examined : List Float → Extent → Extent → Extent → Tested
examined sdf dims low high = judged (grid_of sdf dims) (box_from low high) (length sdf)

-- ---- one layer of X·Y distances, the layer z of the box: 1, 2, then 77 for a z below min z or above max z, then 3 for a layer whose length is not X·Y

-- no point of the layer is stray
unfoldable pub layer_enclosed : Field → Box → ℕ → Bool
layer_enclosed g b z = not (some (stray g b) (layer_points b z))

abbrev pub outside : Box → ℕ → Bool
outside b z = ltb z b.low.z || ltb b.high.z z

unfoldable pub judged_layer : Field → Box → ℕ → ℕ → Tested
judged_layer g b size z =
    cond (bad_dimensions g.dims) (answers 1 false)
    (cond (bad_box g.dims b) (answers 2 false)
    (cond (outside b z) (answers 77 false)
    (cond (not (eqb size (g.dims.x * g.dims.y))) (answers 3 false)
    (answers 0 (layer_enclosed g b z)))))

-- a grid of which the layer z alone is known
abbrev pub layer_grid : List Float → Extent → ℕ → Field
layer_grid layer dims z = record { dims = point dims; dist = λ i. get_or layer (i - dims.x * dims.y * z) nan }

abbrev pub examined_layer : List Float → Extent → Extent → Extent → ℕ → Tested
examined_layer layer dims low high z = judged_layer (layer_grid layer dims z) (box_from low high) (length layer) z
