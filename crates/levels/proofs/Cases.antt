-- The level of the bed on one grid of 4, 3, 5 points with a box of 2, 3, 4, computed by the kernel from the definitions: one column without a point below
-- zero, one with such a point on top, one with a change of sign, one with two, one with zeros of both signs, and one whose fraction is rounded. All points
-- outside the box are not-a-number. Whole and after each layer, with each refusal and their order. The wanted numbers were worked out by hand, as
-- z + a / (a + b) for a distance of -a below one of b. Assumes nothing.
use Rattle.std.proofs.Common.{◌≡◌, ℕ, true, false, List, [], ◌∷◌, ◌++◌, length, pos, negsuc, refl}
use lib.Count.{count_trailing_zeros}
use lib.Ieee.{Float, nan, inf, fin, add, sub, div, lt, of_int, round, size, units, odd, neg, sum, span, climb}
use Rattle.lists.specs.Lists.{run, up_to, some, joined, placed}
use Rattle.rules.specs.Grid.{GridPoint, Box}
use Rattle.rules.specs.Cell.{fraction}
use Rattle.rules.specs.Faces.{layer_points}
use Rattle.rules.specs.Call.{bad_dimensions, bad_box, bad_length, beyond, bad_layer, bad_distance}
use Rattle.grid.specs.Values.{as_floats}
use Rattle.levels.specs.Column.{no_level, level_step, first_level, level_up_to}
use Rattle.levels.specs.Columns.{level_of, layer_level, changed}
use Rattle.levels.specs.Call.{levels_answer, levels_after, layer_answer, layer_after}

-- ---- numbers

abbrev point : ℕ → ℕ → ℕ → GridPoint
point x y z = record { x = x; y = y; z = z }

-- n and -n
abbrev plus : ℕ → Float
plus n = fin false n (pos 0)

abbrev minus : ℕ → Float
minus n = fin true n (pos 0)

-- n / 2 and n / 4
abbrev halves : ℕ → Float
halves n = fin false n (negsuc 0)

abbrev quarters : ℕ → Float
quarters n = fin false n (negsuc 1)

-- 2.0 and 4.0 as rounding leaves them
abbrev two : Float
two = fin false 1 (pos 1)

abbrev four : Float
four = fin false 1 (pos 2)

-- 1 + 1/3, 0x3FAAAAAB
abbrev third : Float
third = fin false 11184811 (negsuc 22)

-- ---- the grid: a layer's rows, of four points each

abbrev row : Float → Float → List Float
row a b = nan ∷ a ∷ b ∷ nan ∷ []

abbrev layer_of : Float → Float → Float → Float → Float → Float → List Float
layer_of a b c d e f = row a b ++ row c d ++ row e f

abbrev layer0 : List Float
layer0 = layer_of nan nan nan nan nan nan

abbrev layer1 : List Float
layer1 = layer_of (plus 1) (plus 1) (plus 1) (minus 2) (plus 1) (minus 1)

abbrev layer2 : List Float
layer2 = layer_of (plus 1) (plus 1) (minus 1) (plus 2) (minus 1) (plus 2)

abbrev layer3 : List Float
layer3 = layer_of (plus 1) (plus 1) (plus 3) (minus 3) (plus 0) (plus 5)

abbrev layer4 : List Float
layer4 = layer_of (plus 1) (minus 1) (plus 1) (plus 1) (minus 0) (plus 7)

abbrev grid_with : List Float → List Float
grid_with top = layer0 ++ layer1 ++ layer2 ++ layer3 ++ top

abbrev bench : List Float
bench = grid_with layer4

abbrev dims : GridPoint
dims = point 4 3 5

abbrev box : Box
box = record { low = point 1 0 1; high = point 2 2 4 }

-- room for eight levels, and for five
abbrev eight_old : List Float
eight_old = plus 7 ∷ plus 7 ∷ plus 7 ∷ plus 7 ∷ plus 7 ∷ plus 7 ∷ plus 9 ∷ nan ∷ []

abbrev five_old : List Float
five_old = plus 7 ∷ plus 7 ∷ plus 7 ∷ plus 7 ∷ plus 7 ∷ []

-- six levels, and the rest as it was
abbrev told : Float → Float → Float → Float → Float → Float → List Float
told a b c d e f = a ∷ b ∷ c ∷ d ∷ e ∷ f ∷ plus 9 ∷ nan ∷ []

-- ---- the whole grid

pub whole-levels : levels_after bench dims box eight_old ≡ told no_level four (quarters 9) (quarters 15) (plus 3) third
unfolding levels_after levels_answer changed placed level_of level_up_to level_step first_level fraction bad_dimensions bad_box bad_length bad_distance bad_layer layer_points beyond some joined
    up_to run add sub div lt of_int round size units odd neg sum span climb count_trailing_zeros
whole-levels = refl

-- one case to a condition, with every later one holding too
abbrev answers_to : List Float → GridPoint → Box → List Float → ℕ
answers_to sdf d b old = levels_answer sdf d b (length old)

abbrev bad : List Float
bad = grid_with (layer_of (plus 1) (minus 1) (plus 1) (plus 1) (minus 0) nan)

abbrev crossed : Box
crossed = record { low = point 1 0 1; high = point 0 2 4 }

abbrev tall : Box
tall = record { low = point 1 0 1; high = point 2 2 5 }

abbrev topped : Float → List Float
topped d = grid_with (layer_of d (plus 1) (plus 1) (plus 1) (plus 1) (plus 1))

pub whole-answers :
    answers_to (nan ∷ bad) (point 4 3 0) crossed five_old ∷ answers_to (nan ∷ bad) dims crossed five_old ∷ answers_to (nan ∷ bad) dims tall five_old
    ∷ answers_to (nan ∷ bad) dims box five_old ∷ answers_to bad dims box five_old ∷ answers_to bench dims box five_old ∷ answers_to bench dims box eight_old
    ∷ answers_to (topped (fin true 1 (pos 124))) dims box eight_old ∷ answers_to (topped (fin true 8388609 (pos 101))) dims box eight_old ∷ answers_to (topped (inf true)) dims box eight_old ∷ []
    ≡ 1 ∷ 2 ∷ 2 ∷ 3 ∷ 5 ∷ 78 ∷ 0 ∷ 0 ∷ 5 ∷ 5 ∷ []
unfolding levels_answer bad_dimensions bad_box bad_length bad_distance bad_layer layer_points beyond some joined up_to run
whole-answers = refl

-- a refusal keeps the list
pub whole-kept : levels_after bench dims box five_old ≡ five_old
unfolding levels_after levels_answer bad_dimensions bad_box bad_length bad_distance bad_layer layer_points beyond some joined up_to run
whole-kept = refl

-- whole numbers, each the float of the same value: a column of -4, 12 and 13 that stands from 0 up
pub whole-of-numbers : levels_after (as_floats (negsuc 3 ∷ pos 12 ∷ pos 13 ∷ [])) (point 1 1 3) (record { low = point 0 0 0; high = point 0 0 2 }) (plus 7 ∷ [])
    ≡ fin false 1 (negsuc 1) ∷ []
unfolding levels_after levels_answer changed placed level_of level_up_to level_step first_level fraction bad_dimensions bad_box bad_length bad_distance bad_layer layer_points beyond some joined
    up_to run add sub div lt of_int round size units odd neg sum span climb count_trailing_zeros
whole-of-numbers = refl

-- ---- the same layer by layer

abbrev at1 : List Float
at1 = told no_level no_level no_level (plus 1) no_level (plus 1)

abbrev at2 : List Float
at2 = told no_level no_level two (halves 3) two third

abbrev at3 : List Float
at3 = told no_level no_level (quarters 9) (plus 3) (plus 3) third

abbrev at4 : List Float
at4 = told no_level four (quarters 9) (quarters 15) (plus 3) third

pub layer-levels : layer_after [] layer1 dims box 1 eight_old ∷ layer_after layer1 layer2 dims box 2 at1 ∷ layer_after layer2 layer3 dims box 3 at2
    ∷ layer_after layer3 layer4 dims box 4 at3 ∷ [] ≡ at1 ∷ at2 ∷ at3 ∷ at4 ∷ []
unfolding layer_after layer_answer changed placed layer_level level_step first_level fraction bad_dimensions bad_box bad_layer layer_points beyond some joined
    up_to run add sub div lt of_int round size units odd neg sum span climb count_trailing_zeros
layer-levels = refl

abbrev layer_answers_to : List Float → List Float → GridPoint → Box → ℕ → List Float → ℕ
layer_answers_to lower upper d b z old = layer_answer lower upper d b z (length old)

abbrev bad_layer4 : List Float
bad_layer4 = layer_of (plus 1) (minus 1) (plus 1) (plus 1) (minus 0) nan

-- one case to a condition, with every later one holding too; then each kind of a wrong length and of a bad distance
pub layer-answers :
    layer_answers_to (nan ∷ []) (nan ∷ bad_layer4) (point 0 3 5) crossed 5 five_old ∷ layer_answers_to (nan ∷ []) (nan ∷ bad_layer4) dims crossed 5 five_old
    ∷ layer_answers_to (nan ∷ []) (nan ∷ bad_layer4) dims box 5 five_old ∷ layer_answers_to (nan ∷ []) (nan ∷ bad_layer4) dims box 0 five_old
    ∷ layer_answers_to layer3 (nan ∷ bad_layer4) dims box 4 five_old ∷ layer_answers_to layer3 bad_layer4 dims box 4 five_old
    ∷ layer_answers_to layer3 layer4 dims box 4 five_old ∷ layer_answers_to layer3 layer4 dims box 4 eight_old
    ∷ layer_answers_to layer0 layer1 dims box 1 eight_old ∷ layer_answers_to [] layer1 dims box 1 eight_old ∷ layer_answers_to [] layer2 dims box 2 eight_old
    ∷ layer_answers_to (nan ∷ layer1) layer2 dims box 2 eight_old ∷ layer_answers_to bad_layer4 layer2 dims box 2 eight_old ∷ []
    ≡ 1 ∷ 2 ∷ 77 ∷ 77 ∷ 3 ∷ 5 ∷ 78 ∷ 0 ∷ 3 ∷ 0 ∷ 3 ∷ 3 ∷ 5 ∷ []
unfolding layer_answer bad_dimensions bad_box bad_layer layer_points beyond some joined up_to run
layer-answers = refl

pub layer-kept : layer_after layer3 bad_layer4 dims box 4 at3 ≡ at3
unfolding layer_after layer_answer bad_dimensions bad_box bad_layer layer_points beyond some joined up_to run
layer-kept = refl
