-- The start and an offer with numbers, computed by the kernel from the definitions. The box is smaller than the grid on every side, no two sides are alike, min is above 0
-- on each axis, and every list is longer than it need be, so that what lies beside the box and past the last number is seen to be kept. The wanted numbers were not made by
-- these definitions: answers, map and cells are read off documents 01 and 02, positions, normals and indices were worked out by a plain program written from document 01. Outside
-- the box the layers hold negative numbers and not-a-numbers, which nothing may read. Assumes nothing.
use Prim.Native.Nat.{ℕ, ◌+◌, ◌*◌}
use mathlib.Core.Bool.{Bool, true, false, ◌&&◌}
use mathlib.Core.List.{List, [], ◌∷◌, ◌++◌, map}
use lib.Dec.{T, eqb}
use lib.IntN.{pos, negsuc}
use lib.Ieee.{Float, nan, fin, binary32, to_bits}
use Rattle.lists.specs.Lists.{up_to}
use Rattle.rules.specs.Cell.{one32}
use Rattle.rules.proofs.Cases.{minus_one, opened, same}
use Rattle.grid.specs.declared.Extent.{Extent}
use Rattle.grid.specs.declared.Block.{Block}
use Rattle.grid.specs.Layers.{layer_dist}
use Rattle.layer_vertices.specs.Marked.{layer_entry, last_entry, marked}
use Rattle.layer_faces.specs.Below.{position_at, shorter_over, face_over, indices_over}
use Rattle.layers.specs.declared.State.{State}
use Rattle.layers.specs.Memory.{Memory, memory, bad_memory, start_answer}
use Rattle.layers.specs.Offer.{begun, Output, output, room_in, new_vertices, runs_on, new_indices, layer_answer, state_after, marked_out, brought_out, layer_kept, leaves}

abbrev extent : ℕ → ℕ → ℕ → Extent
extent x y z = record { x = x; y = y; z = z }

abbrev block : Extent → Extent → Extent → Block
block dims low high = record { dims = dims; low = low; high = high; max_plane = record { x = true; y = false; z = false } }

-- a grid of 6 by 7 by 10 points: two layers are 84 numbers, and the positions of one layer of cells at most 126
abbrev tank : Block
tank = block (extent 6 7 10) (extent 2 1 3) (extent 4 4 5)

-- ---- the start: "gives 1, 2 and, if that memory is shorter, 4"

pub record Start : Type 0 where
  pub block : Block
  pub distances : ℕ
  pub map : ℕ
  pub positions : ℕ
  pub wanted : ℕ

abbrev start : Block → ℕ → ℕ → ℕ → ℕ → Start
start k d m p n = record { block = k; distances = d; map = m; positions = p; wanted = n }

pub starts : List Start
starts =
    -- a dimension of 0, whatever box and memory; then min above max on one axis, max at its dimension on one axis, both before short memory
    start (block (extent 0 7 10) (extent 2 1 3) (extent 4 4 5)) 0 0 0 1
    ∷ start (block (extent 6 7 10) (extent 4 1 3) (extent 2 4 5)) 0 0 0 2
    ∷ start (block (extent 6 0 10) (extent 2 4 3) (extent 4 1 5)) 84 84 126 1
    ∷ start (block (extent 6 7 0) (extent 2 1 5) (extent 4 4 3)) 84 84 126 1
    ∷ start (block (extent 6 7 10) (extent 2 5 3) (extent 4 4 5)) 84 84 126 2
    ∷ start (block (extent 6 7 10) (extent 2 1 6) (extent 4 4 5)) 84 84 126 2
    ∷ start (block (extent 6 7 10) (extent 2 1 3) (extent 6 4 5)) 83 0 0 2
    ∷ start (block (extent 6 7 10) (extent 2 1 3) (extent 4 7 5)) 84 84 126 2
    ∷ start (block (extent 6 7 10) (extent 2 1 3) (extent 4 4 10)) 84 84 126 2
    -- a corner of the grid is a corner of the box
    ∷ start (block (extent 6 7 10) (extent 2 1 3) (extent 5 6 9)) 84 84 126 0
    -- each list of memory one short, as long as it need be, and longer
    ∷ start tank 83 84 126 4
    ∷ start tank 84 83 126 4
    ∷ start tank 84 84 125 4
    ∷ start tank 84 84 126 0
    ∷ start tank 85 86 128 0
    -- document 01: dimensions up to 16,777,217, their product up to 1,073,741,824
    ∷ start (block (extent 16777218 1 1) (extent 0 0 0) (extent 0 0 0)) 33554436 33554436 50331654 1
    ∷ start (block (extent 16777217 1 1) (extent 0 0 0) (extent 3 0 0)) 33554434 33554434 50331651 0
    ∷ start (block (extent 1024 512 2049) (extent 0 0 0) (extent 3 2 1)) 1048576 1048576 1572864 1
    ∷ start (block (extent 1024 512 2048) (extent 0 0 0) (extent 3 2 1)) 1048576 1048576 1572864 0
    ∷ []

unfoldable pub started : List Start → Bool
started [] = true
started (s ∷ ss) =
    eqb (start_answer s.block (record { distances = s.distances; map = s.map; positions = s.positions })) s.wanted && started ss

pub starts-computed : T (started starts)
unfolding started starts start_answer bad_memory opened
starts-computed = tt

-- ---- three layers of points, by rows

abbrev three : Float
three = fin false 3 (pos 0)

abbrev minus_three : Float
minus_three = fin true 3 (pos 0)

abbrev lowest : List Float
lowest =
    nan ∷ minus_one ∷ minus_one ∷ nan ∷ minus_one ∷ minus_one
    ∷ minus_one ∷ minus_one ∷ one32 ∷ minus_three ∷ minus_three ∷ nan
    ∷ minus_one ∷ nan ∷ minus_three ∷ three ∷ three ∷ minus_one
    ∷ nan ∷ minus_one ∷ three ∷ one32 ∷ one32 ∷ minus_one
    ∷ minus_one ∷ minus_one ∷ three ∷ three ∷ one32 ∷ nan
    ∷ minus_one ∷ nan ∷ minus_one ∷ minus_one ∷ nan ∷ minus_one
    ∷ nan ∷ minus_one ∷ minus_one ∷ nan ∷ minus_one ∷ minus_one ∷ []

abbrev middle : List Float
middle =
    minus_one ∷ minus_one ∷ nan ∷ minus_one ∷ minus_one ∷ nan
    ∷ minus_one ∷ nan ∷ minus_one ∷ minus_three ∷ minus_three ∷ minus_one
    ∷ nan ∷ minus_one ∷ three ∷ one32 ∷ minus_one ∷ minus_one
    ∷ minus_one ∷ minus_one ∷ three ∷ one32 ∷ minus_three ∷ nan
    ∷ minus_one ∷ nan ∷ three ∷ three ∷ minus_three ∷ minus_one
    ∷ nan ∷ minus_one ∷ minus_one ∷ nan ∷ minus_one ∷ minus_one
    ∷ minus_one ∷ minus_one ∷ nan ∷ minus_one ∷ minus_one ∷ nan ∷ []

abbrev highest : List Float
highest =
    minus_one ∷ nan ∷ minus_one ∷ minus_one ∷ nan ∷ minus_one
    ∷ nan ∷ minus_one ∷ one32 ∷ minus_one ∷ minus_one ∷ minus_one
    ∷ minus_one ∷ minus_one ∷ one32 ∷ three ∷ minus_three ∷ nan
    ∷ minus_one ∷ nan ∷ three ∷ one32 ∷ minus_one ∷ minus_one
    ∷ nan ∷ minus_one ∷ three ∷ three ∷ minus_one ∷ minus_one
    ∷ minus_one ∷ minus_one ∷ nan ∷ minus_one ∷ minus_one ∷ nan
    ∷ minus_one ∷ nan ∷ minus_one ∷ minus_one ∷ nan ∷ minus_one ∷ []

-- ---- what is lent: no two numbers of a list alike

-- the odd numbers 2·a + 1 up to 2·b - 1
abbrev odds : ℕ → ℕ → List Float
odds a b = map (λ (j : ℕ). fin false (2 * j + 1) (pos 0)) (up_to a b)

abbrev bits : List Float → List ℕ
bits l = map (to_bits binary32) l

abbrev lent : Output
lent = output (odds 0 16) (odds 0 17) (up_to 200 218) (up_to 300 305) (up_to 50 56) (up_to 400 421)

abbrev none : ℕ
none = 4294967295

-- what is opened besides the rules
unfoldable layers_opened : Unit {0}
unfolding opened bad_memory new_vertices runs_on new_indices layer_answer state_after marked_out brought_out layer_kept leaves marked layer_entry last_entry position_at shorter_over
    face_over indices_over layer_dist
layers_opened = tt

-- ---- the first layer: nothing comes out, and in its half of the map no point of the box has a vertex

abbrev fresh : Memory
fresh = memory (odds 0 85) (up_to 700 786) (odds 0 128)

abbrev first_numbers : List ℕ
first_numbers =
    let a = layer_answer (begun tank) lowest fresh (room_in fresh lent) in
    let s = state_after (begun tank) lowest fresh lent in
    let l = leaves (begun tank) lowest fresh lent in
    a.number ∷ a.vertices ∷ a.indices ∷ s.taken ∷ s.next ∷ s.first ∷ l.memory.map

abbrev first_wanted : List ℕ
first_wanted =
    0 ∷ 0 ∷ 0 ∷ 1 ∷ 0 ∷ 0
    ∷ 700 ∷ 701 ∷ 702 ∷ 703 ∷ 704 ∷ 705 ∷ 706 ∷ 707 ∷ none ∷ none ∷ none ∷ 711
    ∷ 712 ∷ 713 ∷ none ∷ none ∷ none ∷ 717 ∷ 718 ∷ 719 ∷ none ∷ none ∷ none ∷ 723
    ∷ 724 ∷ 725 ∷ none ∷ none ∷ none ∷ 729 ∷ 730 ∷ 731 ∷ 732 ∷ 733 ∷ 734 ∷ 735
    ∷ 736 ∷ 737 ∷ 738 ∷ 739 ∷ 740 ∷ 741 ∷ 742 ∷ 743 ∷ 744 ∷ 745 ∷ 746 ∷ 747
    ∷ 748 ∷ 749 ∷ 750 ∷ 751 ∷ 752 ∷ 753 ∷ 754 ∷ 755 ∷ 756 ∷ 757 ∷ 758 ∷ 759
    ∷ 760 ∷ 761 ∷ 762 ∷ 763 ∷ 764 ∷ 765 ∷ 766 ∷ 767 ∷ 768 ∷ 769 ∷ 770 ∷ 771
    ∷ 772 ∷ 773 ∷ 774 ∷ 775 ∷ 776 ∷ 777 ∷ 778 ∷ 779 ∷ 780 ∷ 781 ∷ 782 ∷ 783
    ∷ 784 ∷ 785 ∷ []

pub first-computed : T (same first_numbers first_wanted)
unfolding same opened layers_opened
first-computed = tt

-- kept distances and positions, and the lists lent for output
abbrev first_lists : List ℕ
first_lists =
    let l = leaves (begun tank) lowest fresh lent in
    let o = l.output in
    bits l.memory.distances ++ (bits l.memory.positions ++ (bits o.positions ++ (bits o.normals ++ (o.cells ++ (o.strides ++ (o.crossings ++ o.indices))))))

abbrev first_lists_wanted : List ℕ
first_lists_wanted =
    bits lowest ++ (bits (odds 42 85) ++ (bits (odds 0 128) ++ (bits lent.positions ++ (bits lent.normals
    ++ (up_to 200 218 ++ (up_to 300 305 ++ (up_to 50 56 ++ up_to 400 421)))))))

pub first-lists-computed : T (same first_lists first_lists_wanted)
unfolding same opened layers_opened
first-lists-computed = tt

-- ---- the third layer, to a state whose vertices so far end at 104, those of the cells below being 100 to 104. What the map holds of the second layer is stale

abbrev later : State
later = record { block = tank; taken = 2; next = 105; first = 100 }

abbrev kept_map : List ℕ
kept_map =
    700 ∷ 701 ∷ 702 ∷ 703 ∷ 704 ∷ 705 ∷ 706 ∷ 707 ∷ 100 ∷ 101 ∷ none ∷ 711
    ∷ 712 ∷ 713 ∷ 102 ∷ 103 ∷ none ∷ 717 ∷ 718 ∷ 719 ∷ none ∷ 104 ∷ none ∷ 723
    ∷ 724 ∷ 725 ∷ none ∷ none ∷ none ∷ 729 ∷ 730 ∷ 731 ∷ 732 ∷ 733 ∷ 734 ∷ 735
    ∷ 736 ∷ 737 ∷ 738 ∷ 739 ∷ 740 ∷ 741 ∷ 742 ∷ 743 ∷ 744 ∷ 745 ∷ 746 ∷ 747
    ∷ 748 ∷ 749 ∷ 750 ∷ 751 ∷ 752 ∷ 753 ∷ 754 ∷ 755 ∷ 756 ∷ 757 ∷ 758 ∷ 759
    ∷ 760 ∷ 761 ∷ 762 ∷ 763 ∷ 764 ∷ 765 ∷ 766 ∷ 767 ∷ 768 ∷ 769 ∷ 770 ∷ 771
    ∷ 772 ∷ 773 ∷ 774 ∷ 775 ∷ 776 ∷ 777 ∷ 778 ∷ 779 ∷ 780 ∷ 781 ∷ 782 ∷ 783
    ∷ 784 ∷ 785 ∷ []

-- of the five cells below
abbrev positions_below : List Float
positions_below =
    fin false 75 (negsuc 4) ∷ fin false 47 (negsuc 4) ∷ fin false 27 (negsuc 2) ∷ fin false 7 (negsuc 0) ∷ fin false 7 (negsuc 1) ∷ fin false 14889779 (negsuc 21)
    ∷ fin false 9087659 (negsuc 21) ∷ fin false 9087659 (negsuc 21) ∷ fin false 13281963 (negsuc 21) ∷ fin false 59 (negsuc 3) ∷ fin false 5 (negsuc 0)
    ∷ fin false 15 (negsuc 1) ∷ fin false 59 (negsuc 3) ∷ fin false 7 (negsuc 0) ∷ fin false 29 (negsuc 2) ∷ []

abbrev held : Memory
held = memory (odds 0 42 ++ (middle ++ (three ∷ []))) kept_map (positions_below ++ odds 15 128)

abbrev later_numbers : List ℕ
later_numbers =
    let a = layer_answer later highest held (room_in held lent) in
    let s = state_after later highest held lent in
    a.number ∷ a.vertices ∷ a.indices ∷ s.taken ∷ s.next ∷ s.first ∷ (leaves later highest held lent).memory.map

-- 0 with V 4 and I 18; three layers taken; the next vertex, and the first of the last layer of cells; the map, the lower half cleared and the upper half with the new vertices
abbrev later_wanted : List ℕ
later_wanted =
    0 ∷ 4 ∷ 18 ∷ 3 ∷ 109 ∷ 105
    ∷ 700 ∷ 701 ∷ 702 ∷ 703 ∷ 704 ∷ 705 ∷ 706 ∷ 707 ∷ none ∷ none ∷ none ∷ 711
    ∷ 712 ∷ 713 ∷ none ∷ none ∷ none ∷ 717 ∷ 718 ∷ 719 ∷ none ∷ none ∷ none ∷ 723
    ∷ 724 ∷ 725 ∷ none ∷ none ∷ none ∷ 729 ∷ 730 ∷ 731 ∷ 732 ∷ 733 ∷ 734 ∷ 735
    ∷ 736 ∷ 737 ∷ 738 ∷ 739 ∷ 740 ∷ 741 ∷ 742 ∷ 743 ∷ 744 ∷ 745 ∷ 746 ∷ 747
    ∷ 748 ∷ 749 ∷ 105 ∷ 106 ∷ none ∷ 753 ∷ 754 ∷ 755 ∷ none ∷ 107 ∷ none ∷ 759
    ∷ 760 ∷ 761 ∷ none ∷ 108 ∷ none ∷ 765 ∷ 766 ∷ 767 ∷ none ∷ none ∷ none ∷ 771
    ∷ 772 ∷ 773 ∷ 774 ∷ 775 ∷ 776 ∷ 777 ∷ 778 ∷ 779 ∷ 780 ∷ 781 ∷ 782 ∷ 783
    ∷ 784 ∷ 785 ∷ []

pub later-computed : T (same later_numbers later_wanted)
unfolding same opened layers_opened
later-computed = tt

-- the kept layers, and the positions of the new vertices before what stood past them
abbrev later_kept : List ℕ
later_kept = let m = (leaves later highest held lent).memory in bits m.distances ++ bits m.positions

abbrev later_kept_wanted : List ℕ
later_kept_wanted =
    bits highest ++ (bits middle ++ (0x40400000
    ∷ 0x40200000 ∷ 0x3FA00000 ∷ 0x40900000 ∷ 0x40500000 ∷ 0x3FE00000 ∷ 0x40900000 ∷ 0x405C0000 ∷ 0x40200000 ∷ 0x40900000 ∷ 0x40600000 ∷ 0x40600000 ∷ 0x40900000
    ∷ 0x406C0000 ∷ 0x40600000 ∷ 0x40680000 ∷ bits (odds 15 128)))

pub later-kept-computed : T (same later_kept later_kept_wanted)
unfolding same opened layers_opened
later-kept-computed = tt

-- positions, normals, cells, strides, numbers of crossings and indices, each with what stood past the last one
abbrev later_lists : List ℕ
later_lists =
    let o = (leaves later highest held lent).output in
    bits o.positions ++ (bits o.normals ++ (o.cells ++ (o.strides ++ (o.crossings ++ o.indices))))

abbrev later_lists_wanted : List ℕ
later_lists_wanted =
    0x40200000 ∷ 0x3FA00000 ∷ 0x40900000 ∷ 0x40500000 ∷ 0x3FE00000 ∷ 0x40900000 ∷ 0x405C0000 ∷ 0x40200000 ∷ 0x40900000 ∷ 0x40600000 ∷ 0x40600000 ∷ 0x40900000
    ∷ 0x41C80000 ∷ 0x41D80000 ∷ 0x41E80000 ∷ 0x41F80000
    ∷ 0xBFC00000 ∷ 0x40400000 ∷ 0x3FC00000 ∷ 0xC0400000 ∷ 0x40400000 ∷ 0x3FA00000 ∷ 0xC0600000 ∷ 0xBF100000 ∷ 0x3F100000 ∷ 0xC0800000 ∷ 0x3F800000 ∷ 0x3F800000
    ∷ 0x41C80000 ∷ 0x41D80000 ∷ 0x41E80000 ∷ 0x41F80000 ∷ 0x42040000
    ∷ 2 ∷ 1 ∷ 4 ∷ 3 ∷ 1 ∷ 4 ∷ 3 ∷ 2 ∷ 4 ∷ 3 ∷ 3 ∷ 4 ∷ 212 ∷ 213 ∷ 214 ∷ 215 ∷ 216 ∷ 217
    ∷ 176 ∷ 177 ∷ 183 ∷ 189 ∷ 304
    ∷ 5 ∷ 4 ∷ 4 ∷ 4 ∷ 54 ∷ 55
    ∷ 101 ∷ 100 ∷ 105 ∷ 101 ∷ 105 ∷ 106 ∷ 106 ∷ 103 ∷ 101 ∷ 106 ∷ 107 ∷ 103 ∷ 108 ∷ 103 ∷ 107 ∷ 108 ∷ 104 ∷ 103 ∷ 418 ∷ 419 ∷ 420 ∷ []

pub later-lists-computed : T (same later_lists later_lists_wanted)
unfolding same opened layers_opened
later-lists-computed = tt
