-- Closing computed by the kernel from the definitions and compared with numbers written by hand: a grid of 2 by 1 by 3 points, every layer of it, each refusal
-- alone and before the next, and walls for several depths. Assumes nothing.
use Prim.Native.Nat.{ℕ}
use mathlib.Core.Bool.{true, false}
use mathlib.Core.List.{List, [], ◌∷◌, ◌++◌}
use mathlib.Core.Path.{◌≡◌, refl}
use lib.IntN.{pos, negsuc}
use lib.Ieee.{Float, nan, inf, fin, lt, neg}
use Rattle.lists.specs.Lists.{run, up_to, place}
use Rattle.rules.specs.Grid.{GridPoint}
use Rattle.rules.specs.Call.{bad_dimensions, bad_length, beyond}
use Rattle.closing.specs.Closed.{open_field, closed_value, closed_list, closed_layer}
use Rattle.closing.specs.Answers.{close_answer, closed_room, layer_answer, layer_room}
use Rattle.closing.specs.Wall.{deepest, wall_for}

abbrev point : ℕ → ℕ → ℕ → GridPoint
point x y z = record { x = x; y = y; z = z }

-- 8.0, the wall, and six distances that differ: 1, -2, 3, -4, 5 and -6
abbrev w : Float
w = fin false 1 (pos 3)

abbrev a : Float
a = fin false 1 (pos 0)

abbrev b : Float
b = fin true 1 (pos 1)

abbrev c : Float
c = fin false 3 (pos 0)

abbrev d : Float
d = fin true 1 (pos 2)

abbrev e : Float
e = fin false 5 (pos 0)

abbrev f : Float
f = fin true 3 (pos 1)

abbrev sdf : List Float
sdf = a ∷ b ∷ c ∷ d ∷ e ∷ f ∷ []

abbrev dims : GridPoint
dims = point 2 1 3

-- ---- the closed grid: 5 by 4 by 6 points, a row a line

-- a row of wall, and a layer of it
abbrev row : List Float
row = w ∷ w ∷ w ∷ w ∷ w ∷ []

abbrev wall_layer : List Float
wall_layer = row ++ row ++ row ++ row

-- a layer with two distances
abbrev open_layer : Float → Float → List Float
open_layer p q =
    row
    ++ (w ∷ p ∷ q ∷ w ∷ w ∷ [])
    ++ row
    ++ row

pub grid-closed : closed_list (open_field dims sdf) w ≡ wall_layer ++ open_layer a b ++ open_layer c d ++ open_layer e f ++ wall_layer ++ wall_layer
unfolding closed_list closed_value run
grid-closed = refl

-- ---- one layer at a time: 0, 1, Z, Z + 1 and Z + 2

pub layers-closed :
    (closed_layer dims w 0 [] ≡ wall_layer)
    × (closed_layer dims w 1 (a ∷ b ∷ []) ≡ open_layer a b)
    × (closed_layer dims w 3 (e ∷ f ∷ []) ≡ open_layer e f)
    × (closed_layer dims w 4 [] ≡ wall_layer)
    × (closed_layer dims w 5 [] ≡ wall_layer)
unfolding closed_layer closed_value run
layers-closed = (refl, refl, refl, refl, refl)

-- ---- the room: on 0 the closed grid and what stood past it, and else as it was

abbrev four : List Float
four = w ∷ w ∷ w ∷ w ∷ []

abbrev sixteen : List Float
sixteen = four ++ four ++ four ++ four

-- 1 by 1 by 1 makes 4 by 4 by 4, the distance at (1, 1, 1), which is the place 21
abbrev single : List Float
single = sixteen ++ four ++ (w ∷ b ∷ w ∷ w ∷ []) ++ four ++ four ++ sixteen ++ sixteen

-- numbers that are none of the others
abbrev olds : List Float
olds = e ∷ e ∷ e ∷ e ∷ e ∷ e ∷ e ∷ e ∷ e ∷ e ∷ e ∷ e ∷ e ∷ e ∷ e ∷ e ∷ []

pub room-left :
    (closed_room (point 1 1 1) w (b ∷ []) (olds ++ olds ++ olds ++ olds ++ (a ∷ c ∷ [])) ≡ single ++ (a ∷ c ∷ []))
    × (closed_room (point 1 1 1) w (b ∷ []) (sixteen ++ sixteen ++ sixteen ++ (a ∷ [])) ≡ sixteen ++ sixteen ++ sixteen ++ (a ∷ []))
    × (layer_room (point 1 1 1) w 1 (b ∷ []) (sixteen ++ (a ∷ [])) ≡ four ++ (w ∷ b ∷ w ∷ w ∷ []) ++ four ++ four ++ (a ∷ []))
    × (layer_room (point 1 1 1) w 1 [] (sixteen ++ (a ∷ [])) ≡ sixteen ++ (a ∷ []))
unfolding closed_room layer_room close_answer layer_answer closed_list closed_layer closed_value bad_dimensions bad_length beyond lt run
room-left = (refl, refl, refl, refl)

-- ---- the answers, each alone and before the next

-- 2 ^ 124, the next float up, and the largest finite one
abbrev cap : Float
cap = fin false 1 (pos 124)

abbrev next : Float
next = fin false 8388609 (pos 101)

abbrev largest : Float
largest = fin false 16777215 (pos 104)

pub answers :
    (close_answer dims 6 w 120 ≡ 0)
    × (close_answer dims 6 cap 121 ≡ 0)
    × (close_answer dims 6 (fin false 1 (negsuc 148)) 120 ≡ 0)
    × (close_answer (point 2 0 3) 5 nan 0 ≡ 1)
    × (close_answer (point 16777218 1 1) 5 nan 0 ≡ 1)
    × (close_answer dims 5 nan 0 ≡ 3)
    × (close_answer dims 7 nan 0 ≡ 3)
    × (close_answer (point 16777217 1 1) 16777217 nan 0 ≡ 72)
    × (close_answer dims 6 nan 120 ≡ 72)
    × (close_answer dims 6 (inf false) 120 ≡ 72)
    × (close_answer dims 6 (inf true) 120 ≡ 72)
    × (close_answer dims 6 next 120 ≡ 72)
    × (close_answer dims 6 largest 120 ≡ 72)
    × (close_answer dims 6 (fin false 0 (pos 0)) 120 ≡ 72)
    × (close_answer dims 6 (fin true 0 (pos 0)) 120 ≡ 72)
    × (close_answer dims 6 b 120 ≡ 72)
    × (close_answer (point 16777217 1 1) 16777217 w 0 ≡ 73)
    × (close_answer (point 16777215 1 1) 16777215 w 268435455 ≡ 73)
    × (close_answer (point 16777214 1 1) 16777214 w 268435472 ≡ 0)
    × (close_answer dims 6 w 119 ≡ 74)
unfolding close_answer bad_dimensions bad_length beyond lt
answers = (refl, refl, refl, refl, refl, refl, refl, refl, refl, refl, refl, refl, refl, refl, refl, refl, refl, refl, refl, refl)

pub layer-answers :
    (layer_answer dims 0 0 w 20 ≡ 0)
    × (layer_answer dims 1 2 w 20 ≡ 0)
    × (layer_answer dims 3 2 w 21 ≡ 0)
    × (layer_answer dims 4 0 w 20 ≡ 0)
    × (layer_answer dims 5 0 w 20 ≡ 0)
    × (layer_answer (point 0 1 3) 6 1 nan 0 ≡ 1)
    × (layer_answer dims 6 1 nan 0 ≡ 71)
    × (layer_answer dims 7 0 nan 0 ≡ 71)
    × (layer_answer dims 0 2 nan 0 ≡ 3)
    × (layer_answer dims 1 0 nan 0 ≡ 3)
    × (layer_answer dims 3 3 nan 0 ≡ 3)
    × (layer_answer dims 4 2 nan 0 ≡ 3)
    × (layer_answer dims 5 2 nan 0 ≡ 3)
    × (layer_answer (point 16777217 1 1) 0 0 nan 0 ≡ 72)
    × (layer_answer dims 1 2 b 20 ≡ 72)
    × (layer_answer (point 16777217 1 1) 0 0 w 0 ≡ 73)
    × (layer_answer dims 1 2 w 19 ≡ 74)
    × (layer_answer dims 0 0 w 19 ≡ 74)
unfolding layer_answer bad_dimensions bad_length beyond lt
layer-answers = (refl, refl, refl, refl, refl, refl, refl, refl, refl, refl, refl, refl, refl, refl, refl, refl, refl, refl)

-- ---- the deepest, and the wall

-- +0.0, -0.0 and not-a-number are not below zero; begun at 4.0, -2.0 is no deeper, and -6.0 is; an infinity is deepest
pub depths :
    (deepest (fin false 0 (pos 0)) (a ∷ fin true 0 (pos 0) ∷ nan ∷ inf false ∷ []) ≡ fin false 0 (pos 0))
    × (deepest (fin false 0 (pos 0)) sdf ≡ fin false 3 (pos 1))
    × (deepest (fin false 0 (pos 0)) (f ∷ nan ∷ b ∷ []) ≡ fin false 3 (pos 1))
    × (deepest (fin false 1 (pos 2)) (b ∷ d ∷ []) ≡ fin false 1 (pos 2))
    × (deepest (fin false 1 (pos 2)) (b ∷ f ∷ []) ≡ fin false 3 (pos 1))
    × (deepest (fin false 0 (pos 0)) (f ∷ inf true ∷ d ∷ []) ≡ inf false)
    × (deepest nan (f ∷ []) ≡ nan)
unfolding deepest lt neg
depths = (refl, refl, refl, refl, refl, refl, refl)

-- 2 ^ 25 for 1.0; 2 ^ 28 for 6.0, whose 2 ^ 25 fold is not a power; just above 1.0 2 ^ 26; 2 ^ -124 for the least float; 2 ^ 124 at 2 ^ 99 and above it
pub walls :
    (wall_for (fin false 0 (pos 0)) ≡ fin false 1 (pos 0))
    × (wall_for nan ≡ fin false 1 (pos 0))
    × (wall_for b ≡ fin false 1 (pos 0))
    × (wall_for (fin false 1 (pos 0)) ≡ fin false 1 (pos 25))
    × (wall_for (fin false 3 (pos 1)) ≡ fin false 1 (pos 28))
    × (wall_for (fin false 8388609 (negsuc 22)) ≡ fin false 1 (pos 26))
    × (wall_for (fin false 16777215 (negsuc 23)) ≡ fin false 1 (pos 25))
    × (wall_for (fin false 1 (negsuc 148)) ≡ fin false 1 (negsuc 123))
    × (wall_for (fin false 3 (negsuc 148)) ≡ fin false 1 (negsuc 121))
    × (wall_for (fin false 1 (pos 98)) ≡ fin false 1 (pos 123))
    × (wall_for (fin false 1 (pos 99)) ≡ fin false 1 (pos 124))
    × (wall_for (fin false 3 (pos 98)) ≡ fin false 1 (pos 124))
    × (wall_for (inf false) ≡ fin false 1 (pos 124))
unfolding wall_for lt place up_to run
walls = (refl, refl, refl, refl, refl, refl, refl, refl, refl, refl, refl, refl, refl)
