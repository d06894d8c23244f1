-- One layer of a grid, fixtures cut out of it, written as floats into another list: the answers are those of the layer that is cut in its place, and last of
-- all one of this part's own, 82, a list shorter than the layer. Definitions only. Assumes nothing.
use Rattle.std.specs.Prelude.{ℕ, cond, List, eqb, ltb, length, Float}
use Rattle.lists.specs.Lists.{over}
use Rattle.rules.specs.Grid.{GridPoint}
use Rattle.fixtures.specs.Layer.{layer_answer, cut_layer}

unfoldable pub into_answer : List ℕ → GridPoint → ℕ → ℕ → ℕ → ℕ
into_answer f d z size room = cond (eqb (layer_answer f d z size) 0) (cond (ltb room size) 82 0) (layer_answer f d z size)

-- the list afterwards: its first X·Y numbers are the layer that `cut_layer` makes, and the rest is kept
unfoldable pub cut_into : List ℕ → GridPoint → ℕ → List Float → List Float → List Float
cut_into f d z layer out = cond (eqb (into_answer f d z (length layer) (length out)) 0) (over (cut_layer f d z layer) out) out
