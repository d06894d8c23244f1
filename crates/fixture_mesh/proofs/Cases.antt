-- Document 02, request 11: cases as one table that the kernel computes from the definitions, and one law that gives each entry: each answer number, two faults in one
-- record and in two, ties of zeros, depths 8 and 9; and a rake cut out of a 5, 5, 5 bed, with the mesh's counts before and after. What is wanted was worked out by a
-- reading of the request of its own, in another language. From the definitions alone. Assumes nothing.
use Prim.Native.Nat.{ℕ, zero, suc, ◌<◌}
use mathlib.Core.Bool.{Bool, true, false, ◌&&◌, beq}
use mathlib.Core.List.{List, [], ◌∷◌, ◌++◌, map}
use mathlib.Core.Path.{◌≡◌, refl, ap, ap₂, ◌∙◌}
use native.Mathlib.Nat.{not-suc-le-zero, le_of_suc-le-suc}
use lib.Dec.{T, eqb, eqb→eq}
use lib.IntN.{ℤ, pos, negsuc}
use lib.Count.{count_trailing_zeros}
use lib.ListN.{length, get_or, replicate}
use lib.Ieee.{Float, nan, inf, fin, binary32, add, sub, mul, div, lt, neg, of_int, round, size, units, odd, sum, span, climb, of_bits, of_fields}
use lib.Ieee.Fits.{and_l, and_r}
use Rattle.lists.specs.Lists.{run, up_to, keep, many, some, joined, place, placed}
use Rattle.rules.specs.Grid.{GridPoint}
use Rattle.rules.specs.Cell.{fraction, point_between, crossing_point, crossing_points, summed, crossings, centroid, position, normal}
use Rattle.rules.specs.Vertices.{row_cells, layer_cells, cells, layer_vertices, vertices, first_vertex, cell_entry, map_entry}
use Rattle.rules.specs.Faces.{all_three, owned, changes, cell_edges, layer_edges, edges, shorter, face_cells, layer_indices, indices, layer_points, points, changing_edges}
use Rattle.rules.specs.Call.{Call, Room, answers, bad_dimensions, bad_box, bad_length, beyond, bad_layer, bad_distance, room_answer, answer}
use Rattle.mesh_record.specs.Record.{bytes_of}
use Rattle.fixtures.specs.Record as record_of
use Rattle.fixtures.specs.Record.{word_at, unknown_kind, bad_count, rest_zero, bad_group, past, far_point, head_at}
use Rattle.fixtures.specs.Solid.{greater, lesser, box_value, joins, members, solid_at, file_at}
use Rattle.fixtures.specs.Cut.{file_answer, cut_all, cut_answer, cut_grid}
use Rattle.fixture_mesh.proofs.Accepted.{field}

-- ---- what a case asks for

-- the file's words and the bytes behind them, the dimensions, and the grid by its bits; the answer, and the grid afterwards by its bits
pub record Case : Type 0 where
  pub words : List ℕ
  pub more : List ℕ
  pub dims : GridPoint
  pub grid : List ℕ
  pub wanted : ℕ
  pub after : List ℕ

abbrev pub file : Case → List ℕ
file k = joined bytes_of k.words ++ k.more

abbrev pub floats_of : List ℕ → List Float
floats_of l = map (of_bits binary32) l

abbrev pub Holds : Case → Type 0
Holds k = (cut_answer (file k) k.dims (length (floats_of k.grid)) ≡ k.wanted) × (cut_grid (file k) k.dims (floats_of k.grid) ≡ floats_of k.after)

-- ---- records

abbrev box : ℕ → ℕ → ℕ → ℕ → ℕ → ℕ → List ℕ
box a b c d e f = 1 ∷ a ∷ b ∷ c ∷ d ∷ e ∷ f ∷ 0 ∷ []

abbrev group : ℕ → ℕ → List ℕ
group kind count = kind ∷ count ∷ 0 ∷ 0 ∷ 0 ∷ 0 ∷ 0 ∷ 0 ∷ []

abbrev times : ℕ → List ℕ → List ℕ
times n r = joined (λ (k : ℕ). r) (run n)

abbrev nines : List ℕ
nines = replicate 8 9

abbrev minus_one : ℕ
minus_one = 0xBF800000

-- a box whose value at the origin is -0.0, one whose value there is +0.0, and the box that is the origin
abbrev minus_zero : List ℕ
minus_zero = box 0xC0A00000 0x80000000 0xC0A00000 0 0x40A00000 0x40A00000

abbrev plus_zero : List ℕ
plus_zero = box 0xC0A00000 0xC0A00000 0xC0A00000 0 0x40A00000 0x40A00000

abbrev origins : List ℕ
origins = box 0 0 0 0 0 0

-- from one x to another, and from -9 to 9 in y and z
abbrev slab : ℕ → ℕ → List ℕ
slab from to = box from 0xC1100000 0xC1100000 to 0x41100000 0x41100000

abbrev point : ℕ → ℕ → ℕ → GridPoint
point x y z = record { x = x; y = y; z = z }

abbrev case : List ℕ → List ℕ → GridPoint → List ℕ → ℕ → List ℕ → Case
case w b d g a l = record { words = w; more = b; dims = d; grid = g; wanted = a; after = l }

-- dimensions 1, 1, 1 and the distance -1.0
abbrev single : List ℕ → List ℕ → ℕ → List ℕ → Case
single w b a l = case w b (point 1 1 1) (minus_one ∷ []) a l

-- "Refused, the grid keeps."
abbrev refused : List ℕ → List ℕ → ℕ → Case
refused w b a = single w b a (minus_one ∷ [])

abbrev pub cases : List Case
cases =
    -- "in record order": low (-5, -0, -5), high (0, 5, 5) at the origin is -0.0, and its negation +0.0
    single minus_zero [] 0 (0 ∷ [])
    -- axis by axis it would be -0.0, as that of low (-5, -5, -5) is
    ∷ single plus_zero [] 0 (0x80000000 ∷ [])
    -- low above high is no fault
    ∷ single (box 0x3F800000 0 0 0 0 0) [] 0 (minus_one ∷ [])
    -- an old -0.0 under a fixture of -0.0, negated +0.0, stays; an old 0.0 under +0.0 too
    ∷ case minus_zero [] (point 1 1 1) (0x80000000 ∷ []) 0 (0x80000000 ∷ [])
    ∷ case plus_zero [] (point 1 1 1) (0 ∷ []) 0 (0 ∷ [])
    -- not-a-number stays, and so does what is greater; infinities
    ∷ case (box 0xC0400000 0 0 0x40400000 0 0) [] (point 4 1 1) (0x7FC00000 ∷ 0x3F000000 ∷ 0x7F800000 ∷ 0xFF800000 ∷ []) 0 (0x7FC00000 ∷ 0x3F000000 ∷ 0x7F800000 ∷ 0x80000000 ∷ [])
    -- ties: the first of two zeros stands, in a union, an intersection and a difference
    ∷ single (group 2 2 ++ minus_zero ++ plus_zero) [] 0 (0 ∷ [])
    ∷ single (group 2 2 ++ plus_zero ++ minus_zero) [] 0 (0x80000000 ∷ [])
    ∷ single (group 3 2 ++ minus_zero ++ plus_zero) [] 0 (0 ∷ [])
    ∷ single (group 3 2 ++ plus_zero ++ minus_zero) [] 0 (0x80000000 ∷ [])
    ∷ single (group 4 2 ++ minus_zero ++ minus_zero) [] 0 (0 ∷ [])
    ∷ single (group 4 2 ++ plus_zero ++ plus_zero) [] 0 (0x80000000 ∷ [])
    -- union the least, intersection the greatest, difference the greater of the first and the negated second: boxes to 1 and to 2 around a row of four
    ∷ case (group 2 2 ++ slab minus_one 0x3F800000 ++ slab 0x3F800000 0x40000000) [] (point 4 1 1) (replicate 4 0xC1100000) 0 (0x3F800000 ∷ 0x80000000 ∷ 0x80000000 ∷ minus_one ∷ [])
    ∷ case (group 3 2 ++ slab minus_one 0x3F800000 ++ slab 0x3F800000 0x40000000) [] (point 4 1 1) (replicate 4 0xC1100000) 0 (minus_one ∷ 0x80000000 ∷ minus_one ∷ 0xC0000000 ∷ [])
    ∷ case (group 4 2 ++ slab minus_one 0x40000000 ++ slab 0x3F800000 0x40A00000) [] (point 4 1 1) (replicate 4 0xC1100000) 0 (0x3F800000 ∷ 0 ∷ minus_one ∷ 0xC0000000 ∷ [])
    -- a group of one, and of three
    ∷ single (group 3 1 ++ box 0xC0000000 0xC0400000 0xC0800000 0x40A00000 0x40C00000 0x40E00000) [] 0 (0x40000000 ∷ [])
    ∷ single (group 2 3 ++ box 0x40000000 0 0 0 0 0 ++ box minus_one minus_one minus_one 0x3F800000 0x3F800000 0x3F800000 ++ box 0x40400000 0 0 0 0 0) [] 0 (0x3F800000 ∷ [])
    -- y and z are coordinates too
    ∷ case (box 0xC1100000 0xC1100000 0xC1100000 0x41100000 0x3F000000 0x3F800000) [] (point 1 2 3) (replicate 6 0xC0A00000) 0
    (0x3F000000 ∷ 0xBF000000 ∷ 0x80000000 ∷ 0xBF000000 ∷ minus_one ∷ minus_one ∷ [])
    -- 2^24 passes on both sides
    ∷ case (box 0x4B800000 0 0 0 0 0) [] (point 1 1 1) (0xCD8F0D18 ∷ []) 0 (0xCB800000 ∷ [])
    ∷ case (box 0xCB800000 0xCB800000 0xCB800000 0xCB800000 0x4B800000 0x4B800000) [] (point 1 1 1) (0xCD8F0D18 ∷ []) 0 (0xCB800000 ∷ [])
    -- depth 8 is accepted
    ∷ single (times 7 (group 2 1) ++ origins) [] 0 (0x80000000 ∷ [])
    -- 1: a dimension is 0, tried before 3 and the file
    ∷ case [] [] (point 0 1 1) (minus_one ∷ []) 1 (minus_one ∷ [])
    -- 3: the grid is one short, or one long, tried before the file
    ∷ case [] [] (point 2 1 1) (minus_one ∷ []) 3 (minus_one ∷ [])
    ∷ case origins [] (point 1 1 1) (minus_one ∷ minus_one ∷ []) 3 (minus_one ∷ minus_one ∷ [])
    -- 51: an empty file; 31 bytes; a group whose member does not follow; a huge count with two records
    ∷ refused [] [] 51
    ∷ refused (1 ∷ 0 ∷ 0 ∷ 0 ∷ 0 ∷ 0 ∷ 0 ∷ []) (0 ∷ 0 ∷ 0 ∷ []) 51
    ∷ refused (group 4 2 ++ origins) [] 51
    ∷ refused (group 2 4294967295 ++ origins ++ origins) [] 51
    -- 52: kinds 0 and 5, the second with a word that should be zero besides
    ∷ refused (0 ∷ 0 ∷ 0 ∷ 0 ∷ 0 ∷ 0 ∷ 0 ∷ 0 ∷ []) [] 52
    ∷ refused (5 ∷ 0 ∷ 0 ∷ 0 ∷ 0 ∷ 0 ∷ 0 ∷ 1 ∷ []) [] 52
    -- 53: depth 9; with a bad count besides; but 51 and 52 come first there
    ∷ refused (times 8 (group 2 1) ++ origins) [] 53
    ∷ refused (times 8 (group 2 1) ++ group 2 0) [] 53
    ∷ refused (times 8 (group 2 1) ++ (1 ∷ 0x7FC00000 ∷ 0 ∷ 0 ∷ 0 ∷ 0 ∷ 0 ∷ 1 ∷ [])) [] 53
    ∷ refused (times 8 (group 2 1)) [] 51
    ∷ refused (times 8 (group 2 1) ++ nines) [] 52
    -- 54: the sign bit of a zero word, beside a float that is not finite; a count of 0; a difference of one and of three; each further word of a group
    ∷ refused (1 ∷ 0x7F800000 ∷ 0 ∷ 0 ∷ 0 ∷ 0 ∷ 0 ∷ 0x80000000 ∷ []) [] 54
    ∷ refused (group 2 0) [] 54
    ∷ refused (group 3 0) [] 54
    ∷ refused (group 4 1 ++ origins) [] 54
    ∷ refused (group 4 3 ++ times 3 origins) [] 54
    ∷ refused ((2 ∷ 1 ∷ 1 ∷ 0 ∷ 0 ∷ 0 ∷ 0 ∷ 0 ∷ []) ++ origins) [] 54
    ∷ refused ((3 ∷ 1 ∷ 0 ∷ 1 ∷ 0 ∷ 0 ∷ 0 ∷ 0 ∷ []) ++ origins) [] 54
    ∷ refused ((2 ∷ 1 ∷ 0 ∷ 0 ∷ 1 ∷ 0 ∷ 0 ∷ 0 ∷ []) ++ origins) [] 54
    ∷ refused ((4 ∷ 2 ∷ 0 ∷ 0 ∷ 0 ∷ 1 ∷ 0 ∷ 0 ∷ []) ++ origins ++ origins) [] 54
    ∷ refused ((3 ∷ 1 ∷ 0 ∷ 0 ∷ 0 ∷ 0 ∷ 1 ∷ 0 ∷ []) ++ origins) [] 54
    ∷ refused ((3 ∷ 1 ∷ 0 ∷ 0 ∷ 0 ∷ 0 ∷ 0 ∷ 1 ∷ []) ++ origins) [] 54
    -- 55: infinite, not a number, and the next float above 2^24 on either side, in the first and in the last of the six
    ∷ refused (box 0x7F800000 0 0 0 0 0) [] 55
    ∷ refused (box 0 0 0 0 0 0x7FC00000) [] 55
    ∷ refused (box 0x4B800001 0 0 0 0 0) [] 55
    ∷ refused (box 0 0 0 0 0 0xCB800001) [] 55
    -- 56: one byte, and one record, after the solid
    ∷ refused origins (0 ∷ []) 56
    ∷ refused (origins ++ origins) [] 56
    -- two faulty records: the first in file order answers, whatever its number
    ∷ refused (group 2 2 ++ box 0x7FC00000 0 0 0 0 0 ++ nines) [] 55
    ∷ refused (group 2 2 ++ group 3 0 ++ nines) [] 54
    ∷ refused (box 0x7FC00000 0 0 0 0 0) (0 ∷ []) 55
    ∷ refused (group 2 2 ++ group 4 2 ++ origins ++ origins ++ (0 ∷ 0 ∷ 0 ∷ 0 ∷ 0 ∷ 0 ∷ 0 ∷ 0 ∷ [])) [] 52
    ∷ []

-- ---- the test, and from it each entry

-- what a computed test opens: every definition of the fixtures and of the rules, and the arithmetic below them
opened : Unit {0}
unfolding cut_answer cut_grid cut_all file_answer file_at solid_at members greater lesser box_value joins head_at bad_group record_of.bad_box past far_point unknown_kind bad_count rest_zero
    word_at bytes_of answer room_answer bad_dimensions bad_box bad_length beyond bad_layer bad_distance run up_to keep many some joined place placed fraction point_between crossing_point
    crossing_points summed crossings centroid position normal row_cells layer_cells cells layer_vertices vertices first_vertex cell_entry map_entry owned changes cell_edges layer_edges
    edges shorter face_cells layer_indices indices layer_points points changing_edges add sub mul div lt neg of_int round size units odd sum span climb count_trailing_zeros of_bits of_fields
opened = tt

same_integer : ℤ → ℤ → Bool
same_integer (pos a) (pos b) = eqb a b
same_integer (pos a) (negsuc b) = false
same_integer (negsuc a) (pos b) = false
same_integer (negsuc a) (negsuc b) = eqb a b

same_float : Float → Float → Bool
same_float nan nan = true
same_float nan (inf t) = false
same_float nan (fin t n d) = false
same_float (inf s) nan = false
same_float (inf s) (inf t) = beq s t
same_float (inf s) (fin t n d) = false
same_float (fin s m e) nan = false
same_float (fin s m e) (inf t) = false
same_float (fin s m e) (fin t n d) = beq s t && (eqb m n && same_integer e d)

same : List Float → List Float → Bool
same [] [] = true
same [] (y ∷ ys) = false
same (x ∷ xs) [] = false
same (x ∷ xs) (y ∷ ys) = same_float x y && same xs ys

integer-equal : (a b : ℤ) → T (same_integer a b) → a ≡ b
unfolding same_integer
integer-equal (pos a) (pos b) t = ap pos (eqb→eq a b t)
integer-equal (pos a) (negsuc b) t = absurd t
integer-equal (negsuc a) (pos b) t = absurd t
integer-equal (negsuc a) (negsuc b) t = ap negsuc (eqb→eq a b t)

sign-equal : (s t : Bool) → T (beq s t) → s ≡ t
sign-equal true true h = refl
sign-equal true false h = absurd h
sign-equal false true h = absurd h
sign-equal false false h = refl

float_equal : (x y : Float) → T (same_float x y) → x ≡ y
unfolding same_float
float_equal nan nan t = refl
float_equal nan (inf b) t = absurd t
float_equal nan (fin b n d) t = absurd t
float_equal (inf a) nan t = absurd t
float_equal (inf a) (inf b) t = ap inf (sign-equal a b t)
float_equal (inf a) (fin b n d) t = absurd t
float_equal (fin a m e) nan t = absurd t
float_equal (fin a m e) (inf b) t = absurd t
float_equal (fin a m e) (fin b n d) t =
    let s = sign-equal a b (and_l (beq a b) (eqb m n && same_integer e d) t) in
    let r = and_r (beq a b) (eqb m n && same_integer e d) t in
    let p = eqb→eq m n (and_l (eqb m n) (same_integer e d) r) in
    let q = integer-equal e d (and_r (eqb m n) (same_integer e d) r) in
    λ i. fin (s i) (p i) (q i)

same-equal : (xs ys : List Float) → T (same xs ys) → xs ≡ ys
unfolding same
same-equal [] [] t = refl
same-equal [] (y ∷ ys) t = absurd t
same-equal (x ∷ xs) [] t = absurd t
same-equal (x ∷ xs) (y ∷ ys) t = ap₂ ◌∷◌ (float_equal x y (and_l (same_float x y) (same xs ys) t)) (same-equal xs ys (and_r (same_float x y) (same xs ys) t))

passes : Case → Bool
passes k = eqb (cut_answer (file k) k.dims (length (floats_of k.grid))) k.wanted && same (cut_grid (file k) k.dims (floats_of k.grid)) (floats_of k.after)

passed : (k : Case) → T (passes k) → Holds k
unfolding passes
passed k t =
    let a : Bool = eqb (cut_answer (file k) k.dims (length (floats_of k.grid))) k.wanted in
    let b : Bool = same (cut_grid (file k) k.dims (floats_of k.grid)) (floats_of k.after) in (
      eqb→eq (cut_answer (file k) k.dims (length (floats_of k.grid))) k.wanted (and_l a b t),
      same-equal (cut_grid (file k) k.dims (floats_of k.grid)) (floats_of k.after) (and_r a b t),
    )

every : List Case → Bool
every [] = true
every (k ∷ ks) = passes k && every ks

all_pass : T (every cases)
unfolding every passes same same_float same_integer opened
all_pass = tt

entry_of : (other : Case) (ks : List Case) → T (every ks) → (k : ℕ) → k < length ks → Holds (get_or ks k other)
unfolding every
entry_of other [] t k h = absurd (not-suc-le-zero h)
entry_of other (c ∷ ks) t zero h = passed c (and_l (passes c) (every ks) t)
entry_of other (c ∷ ks) t (suc k) h = entry_of other ks (and_r (passes c) (every ks) t) k (le_of_suc-le-suc h)

-- each entry of the table holds
pub case-holds : (other : Case) (k : ℕ) → k < length cases → Holds (get_or cases k other)
case-holds other k h = entry_of other cases all_pass k h

-- ---- a rake, cut out of a bed and meshed: a beam less two slots. The bed's top lies between its layers 3 and 4.

abbrev pub rake : Case
rake =
    case
    (group 4 2 ++ box 0x3F000000 0x3F800000 0x3F800000 0x40600000 0x40400000 0x40400000 ++ group 2 2
    ++ box 0x3FA00000 0 0x3FC00000 0x3FE00000 0x40800000 0x40800000 ++ box 0x40100000 0 0x3FC00000 0x40300000 0x40800000 0x40800000) []
    (point 5 5 5) (replicate 25 0xC0600000 ++ replicate 25 0xC0200000 ++ replicate 25 0xBFC00000 ++ replicate 25 0xBF000000 ++ replicate 25 0x3F000000) 0 (
    0xBF800000 ∷ 0xBF800000 ∷ 0xBF800000 ∷ 0xBF800000 ∷ 0xBF800000
    ∷ 0xBF800000 ∷ 0xBF800000 ∷ 0xBF800000 ∷ 0xBF800000 ∷ 0xBF800000
    ∷ 0xBF800000 ∷ 0xBF800000 ∷ 0xBF800000 ∷ 0xBF800000 ∷ 0xBF800000
    ∷ 0xBF800000 ∷ 0xBF800000 ∷ 0xBF800000 ∷ 0xBF800000 ∷ 0xBF800000
    ∷ 0xBF800000 ∷ 0xBF800000 ∷ 0xBF800000 ∷ 0xBF800000 ∷ 0xBF800000
    ∷ 0xBF800000 ∷ 0xBF800000 ∷ 0xBF800000 ∷ 0xBF800000 ∷ 0xBF800000
    ∷ 0xBF000000 ∷ 0x80000000 ∷ 0x80000000 ∷ 0x80000000 ∷ 0xBF000000
    ∷ 0xBF000000 ∷ 0x80000000 ∷ 0x80000000 ∷ 0x80000000 ∷ 0xBF000000
    ∷ 0xBF000000 ∷ 0x80000000 ∷ 0x80000000 ∷ 0x80000000 ∷ 0xBF000000
    ∷ 0xBF800000 ∷ 0xBF800000 ∷ 0xBF800000 ∷ 0xBF800000 ∷ 0xBF800000
    ∷ 0xBF800000 ∷ 0xBF800000 ∷ 0xBF800000 ∷ 0xBF800000 ∷ 0xBF800000
    ∷ 0xBF000000 ∷ 0x80000000 ∷ 0x80000000 ∷ 0x80000000 ∷ 0xBF000000
    ∷ 0xBF000000 ∷ 0x3E800000 ∷ 0x3E800000 ∷ 0x3E800000 ∷ 0xBF000000
    ∷ 0xBF000000 ∷ 0x80000000 ∷ 0x80000000 ∷ 0x80000000 ∷ 0xBF000000
    ∷ 0xBF800000 ∷ 0xBF800000 ∷ 0xBF800000 ∷ 0xBF800000 ∷ 0xBF800000
    ∷ 0xBF000000 ∷ 0xBF000000 ∷ 0xBF000000 ∷ 0xBF000000 ∷ 0xBF000000
    ∷ 0xBF000000 ∷ 0x80000000 ∷ 0x80000000 ∷ 0x80000000 ∷ 0xBF000000
    ∷ 0xBF000000 ∷ 0x80000000 ∷ 0x80000000 ∷ 0x80000000 ∷ 0xBF000000
    ∷ 0xBF000000 ∷ 0x80000000 ∷ 0x80000000 ∷ 0x80000000 ∷ 0xBF000000
    ∷ 0xBF000000 ∷ 0xBF000000 ∷ 0xBF000000 ∷ 0xBF000000 ∷ 0xBF000000
    ∷ 0x3F000000 ∷ 0x3F000000 ∷ 0x3F000000 ∷ 0x3F000000 ∷ 0x3F000000
    ∷ 0x3F000000 ∷ 0x3F000000 ∷ 0x3F000000 ∷ 0x3F000000 ∷ 0x3F000000
    ∷ 0x3F000000 ∷ 0x3F000000 ∷ 0x3F000000 ∷ 0x3F000000 ∷ 0x3F000000
    ∷ 0x3F000000 ∷ 0x3F000000 ∷ 0x3F000000 ∷ 0x3F000000 ∷ 0x3F000000
    ∷ 0x3F000000 ∷ 0x3F000000 ∷ 0x3F000000 ∷ 0x3F000000 ∷ 0x3F000000 ∷ []
    )

rake-passes : T (passes rake)
unfolding passes same same_float same_integer opened
rake-passes = tt

pub rake-holds : Holds rake
rake-holds = passed rake rake-passes

-- the mesher's call on a grid of these numbers: the whole box, no max plane, and room for everything
abbrev pub mesh_of : List Float → Call
mesh_of grid = record { grid = field (point 5 5 5) grid; size = 125; box = record { low = point 0 0 0; high = point 4 4 4 }; flags = all_three false }

abbrev pub roomy : Room
roomy = record { positions = 1000; normals = 1000; cells = 1000; strides = 1000; crossings = 1000; map = 125; indices = 1000 }

pub rake-before : answer (mesh_of (floats_of rake.grid)) roomy ≡ answers 0 16 0
unfolding opened
rake-before = refl

pub rake-counted : answer (mesh_of (floats_of rake.after)) roomy ≡ answers 0 52 162
unfolding opened
rake-counted = refl

-- the mesh of the cut bed: 52 vertices, 54 triangles
pub rake-meshed : answer (mesh_of (cut_grid (file rake) rake.dims (floats_of rake.grid))) roomy ≡ answers 0 52 162
rake-meshed = ap (λ (g : List Float). answer (mesh_of g) roomy) rake-holds.1 ∙ rake-counted
