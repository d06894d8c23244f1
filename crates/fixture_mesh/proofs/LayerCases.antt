-- One layer, by numbers: the layers of Cases' row of dimensions 1, 2, 3, whose grid after the cut was worked out by another reading of the request, and the answers
-- 81, 82 and 3 in their order. Computed by the kernel from the definitions. Assumes nothing.
use Prim.Native.Nat.{ℕ}
use mathlib.Core.List.{List, [], ◌∷◌, map}
use mathlib.Core.Path.{◌≡◌, refl}
use lib.IntN.{pos, negsuc}
use lib.Count.{count_trailing_zeros}
use lib.Ieee.{Float, binary32, add, sub, mul, div, lt, neg, of_int, round, size, units, odd, sum, span, climb, of_bits, of_fields}
use Rattle.lists.specs.Lists.{run, joined, placed}
use Rattle.rules.specs.Grid.{GridPoint}
use Rattle.rules.specs.Call.{bad_dimensions, bad_length}
use Rattle.grid.specs.Values.{as_floats}
use Rattle.mesh_record.specs.Record.{bytes_of}
use Rattle.fixtures.specs.Record as record_of
use Rattle.fixtures.specs.Record.{word_at, unknown_kind, bad_count, rest_zero, bad_group, past, far_point, head_at}
use Rattle.fixtures.specs.Solid.{greater, lesser, box_value, joins, members, solid_at, file_at}
use Rattle.fixtures.specs.Cut.{file_answer, cut_all, cut_answer, cut_grid}
use Rattle.fixtures.specs.Layer.{layer_answer, cut_layer}
use Rattle.fixture_widths.specs.Into.{into_answer, cut_into}

opened : Unit {0}
unfolding layer_answer cut_layer into_answer cut_into cut_answer cut_grid cut_all file_answer file_at solid_at members greater lesser box_value joins head_at bad_group record_of.bad_box
    past far_point unknown_kind bad_count rest_zero word_at bytes_of bad_dimensions bad_length run joined placed add sub mul div lt neg of_int round size units odd sum span climb
    count_trailing_zeros of_bits of_fields
opened = tt

-- low -9, -9, -9, high 9, 0.5, 1
abbrev solid : List ℕ
solid = joined bytes_of (1 ∷ 0xC1100000 ∷ 0xC1100000 ∷ 0xC1100000 ∷ 0x41100000 ∷ 0x3F000000 ∷ 0x3F800000 ∷ 0 ∷ [])

abbrev dims : ℕ → ℕ → ℕ → GridPoint
dims x y z = record { x = x; y = y; z = z }

abbrev bits : List ℕ → List Float
bits l = map (of_bits binary32) l

-- all -5.0: layer 0 becomes 0.5, -0.5; layer 1 -0.0, -0.5; layer 2 -1.0, -1.0
pub lowest : cut_layer solid (dims 1 2 3) 0 (bits (0xC0A00000 ∷ 0xC0A00000 ∷ [])) ≡ bits (0x3F000000 ∷ 0xBF000000 ∷ [])
unfolding opened
lowest = refl

pub middle : cut_layer solid (dims 1 2 3) 1 (bits (0xC0A00000 ∷ 0xC0A00000 ∷ [])) ≡ bits (0x80000000 ∷ 0xBF000000 ∷ [])
unfolding opened
middle = refl

pub highest : cut_layer solid (dims 1 2 3) 2 (bits (0xC0A00000 ∷ 0xC0A00000 ∷ [])) ≡ bits (0xBF800000 ∷ 0xBF800000 ∷ [])
unfolding opened
highest = refl

-- there is no layer 3, tried before the length and the file; a layer of three numbers is none; the file is tried after both
pub no-layer : layer_answer [] (dims 1 2 3) 3 5 ≡ 81
unfolding opened
no-layer = refl

pub dimensions-first : layer_answer [] (dims 1 0 3) 3 5 ≡ 1
unfolding opened
dimensions-first = refl

pub wrong-length : layer_answer [] (dims 1 2 3) 2 3 ≡ 3
unfolding opened
wrong-length = refl

pub empty-file : layer_answer [] (dims 1 2 3) 2 2 ≡ 51
unfolding opened
empty-file = refl

-- whole numbers -5 and 4 into three floats, of which the last is kept; and into one, last of all refused
pub whole_numbers : cut_into solid (dims 1 2 3) 1 (as_floats (negsuc 4 ∷ pos 4 ∷ [])) (bits (0x41100000 ∷ 0x41100000 ∷ 0x41100000 ∷ []))
    ≡ bits (0x80000000 ∷ 0x40800000 ∷ 0x41100000 ∷ [])
unfolding opened
whole_numbers = refl

pub no_room : into_answer solid (dims 1 2 3) 1 2 1 ≡ 82
unfolding opened
no_room = refl

pub file-before-room : into_answer [] (dims 1 2 3) 1 2 1 ≡ 51
unfolding opened
file-before-room = refl
