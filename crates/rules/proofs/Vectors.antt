-- Numbers that come from the published Rust, on grids where slips of the arithmetic show, as one table that the kernel computes from the definitions:
-- so the definitions themselves are held to the Rust. Cells with the bits of their position and normal; grids of 1.0 and -1.0 with their
-- index list and, face by face, the bits of the two squared distances. Each number is one that oracle/oracle/examples/table_vectors.rs prints, which runs
-- the published Rust and takes the squared distances of the positions that it gives; none comes from these definitions or from the code.
-- Assumes nothing.
use Prim.Native.Nat.{ℕ, ◌+◌, ◌/◌, ◌%◌, ◌<◌}
use mathlib.Core.Bool.{false, cond}
use mathlib.Core.List.{List, [], ◌∷◌}
use lib.Dec.{T, eqb}
use lib.ListN.{length, get_or, replicate}
use lib.Ieee.{Float}
use Rattle.rules.specs.Cell.{float}
use Rattle.rules.specs.Call.{Call}
use Rattle.rules.proofs.Cases.{Case, Holds, the_indices, the_strides, the_diagonals, position_of, normal_of, point, calls, ball, bit_grid, whole, whole_plane, below, corners, one_cell, roomy, case, opened, same, passes, every, entry_of}

-- ---- the cells

abbrev fused_normal : ℕ → Float
fused_normal = corners (float 0) (below 1) (float 0) (float 0) (below 2) (float 1) (float 0) (float 0)

abbrev reciprocal : ℕ → Float
reciprocal = corners (float 0) (float 0) (float 1) (float 0) (float 0) (float 0) (below 1) (float 0)

abbrev small_order : ℕ → Float
small_order = corners (float 0) (float 0) (float 0) (float 2) (below 1) (float 0) (float 0) (below 1)

-- on each axis the two middle terms of the normal, exchanged, give other bits: as they would be with the weights by the other order of the two axes
abbrev middle_terms : ℕ → Float
middle_terms = corners (below 2) (below 1) (float 3) (float 1) (float 3) (float 0) (below 3) (float 2)

-- the same cell at (6,2,4) of dimensions 9, 5, 7, the box being that cell alone: no two coordinates are alike
abbrev far_corner : ℕ → ℕ
far_corner j = cond (eqb (j % 9) 7) 1 0 + (cond (eqb (j / 9 % 5) 3) 2 0 + cond (eqb (j / 45) 5) 4 0)

abbrev far_cell : Call
far_cell = calls (point 9 5 7) 315 (λ (j : ℕ). middle_terms (far_corner j)) (point 6 2 4) (point 7 3 5) false

-- of the 66 exchanges of two edges 55 change some cell's sum, as far as 400,000 cells show; each of those changes that of one of these three cells
abbrev first_order : ℕ → Float
first_order = corners (float 1) (below 2) (below 2) (float 3) (below 1) (float 2) (float 2) (below 1)

abbrev second_order : ℕ → Float
second_order = corners (float 1) (below 1) (below 3) (float 2) (below 2) (float 2) (float 2) (below 3)

abbrev third_order : ℕ → Float
third_order = corners (float 3) (float 0) (below 3) (below 3) (float 1) (float 3) (float 1) (below 2)

-- ---- the table

abbrev pub vectors : List Case
vectors =
    -- "Every diagonal ties": at each edge of Ball the two squared distances have the same bits, without and with max plane
    case (whole ball) roomy the_diagonals (replicate 6 0x3E638E37)
    ∷ case (whole_plane ball) roomy the_diagonals (replicate 12 0x3E638E37)
    ∷ case (whole_plane ball) roomy the_indices
    (2 ∷ 1 ∷ 0 ∷ 2 ∷ 3 ∷ 1 ∷ 1 ∷ 4 ∷ 0 ∷ 1 ∷ 5 ∷ 4 ∷ 4 ∷ 2 ∷ 0 ∷ 4 ∷ 6 ∷ 2 ∷ 5 ∷ 1 ∷ 3 ∷ 5 ∷ 3 ∷ 7 ∷ 3 ∷ 2 ∷ 6 ∷ 3 ∷ 6 ∷ 7 ∷ 6 ∷ 4 ∷ 5 ∷ 6 ∷ 5 ∷ 7 ∷ [])
    -- a diagonal that is shorter, and one that ties, as it does only if the squares are added in document 01's order
    ∷ case (whole_plane (bit_grid 0x0A09214)) roomy the_diagonals (0x3F54766B ∷ 0x3FEC4357 ∷ 0x3FE3292C ∷ 0x3FE3292C ∷ [])
    ∷ case (whole_plane (bit_grid 0x0A09214)) roomy the_indices (3 ∷ 2 ∷ 0 ∷ 3 ∷ 0 ∷ 1 ∷ 4 ∷ 0 ∷ 2 ∷ 4 ∷ 2 ∷ 6 ∷ [])
    -- one that is shorter by the last bit, and would tie if the last square were added by a fused step
    ∷ case (whole_plane (bit_grid 0x0166401)) roomy the_diagonals (0x401626DE ∷ 0x3F681B4E ∷ 0x3F9AFE41 ∷ 0x3F9AFE42 ∷ 0x3F45F92C ∷ 0x3F45F92C ∷ 0x401626DE ∷ 0x3FAEAAAB ∷ [])
    ∷ case (whole_plane (bit_grid 0x0166401)) roomy the_indices (2 ∷ 1 ∷ 0 ∷ 2 ∷ 3 ∷ 1 ∷ 6 ∷ 0 ∷ 4 ∷ 6 ∷ 2 ∷ 0 ∷ 3 ∷ 2 ∷ 6 ∷ 3 ∷ 6 ∷ 7 ∷ 6 ∷ 4 ∷ 5 ∷ 6 ∷ 5 ∷ 7 ∷ [])
    -- where another order of its axes does
    ∷ case (one_cell middle_terms) roomy (position_of 0) (0x3EBE2BE2 ∷ 0x3EF8AF8B ∷ 0x3F0EA0EA ∷ [])
    ∷ case (one_cell middle_terms) roomy (normal_of 0) (0x3E9500A0 ∷ 0x3D091768 ∷ 0x3E1FA903 ∷ [])
    ∷ case far_cell roomy (position_of 0) (0x40CBE2BE ∷ 0x401F15F1 ∷ 0x4091D41D ∷ [])
    ∷ case far_cell roomy (normal_of 0) (0x3E9500A0 ∷ 0x3D091768 ∷ 0x3E1FA903 ∷ [])
    ∷ case far_cell roomy the_strides (204 ∷ [])
    -- where a fused step of the normal does
    ∷ case (one_cell fused_normal) roomy (position_of 0) (0x3EE38E39 ∷ 0x3EAAAAAB ∷ 0x3ED55555 ∷ [])
    ∷ case (one_cell fused_normal) roomy (normal_of 0) (0x3EE38E36 ∷ 0x3F097B43 ∷ 0xBE17B428 ∷ [])
    -- where the sum times the reciprocal of the number, and not divided by it, does
    ∷ case (one_cell reciprocal) roomy (position_of 0) (0x3EAAAAAB ∷ 0x3F2AAAAB ∷ 0x3F555555 ∷ [])
    ∷ case (one_cell reciprocal) roomy (normal_of 0) (0x3EE38E39 ∷ 0xBEE38E38 ∷ 0xBF638E38 ∷ [])
    -- where another order of the edges does
    ∷ case (one_cell small_order) roomy (position_of 0) (0x3F000000 ∷ 0x3F000000 ∷ 0x3F471C73 ∷ [])
    ∷ case (one_cell small_order) roomy (normal_of 0) (0x3E638E32 ∷ 0x3E638E32 ∷ 0xBF800000 ∷ [])
    ∷ case (one_cell first_order) roomy (position_of 0) (0x3EF49F4B ∷ 0x3EF49F49 ∷ 0x3F055555 ∷ [])
    ∷ case (one_cell first_order) roomy (normal_of 0) (0x3EED4628 ∷ 0x3EED462C ∷ 0x3F099BA0 ∷ [])
    ∷ case (one_cell second_order) roomy (position_of 0) (0x3F000000 ∷ 0x3EE9F4A0 ∷ 0x3EF1C71C ∷ [])
    ∷ case (one_cell second_order) roomy (normal_of 0) (0x3F14587E ∷ 0xBF000001 ∷ 0x00000000 ∷ [])
    ∷ case (one_cell third_order) roomy (position_of 0) (0x3EEEEEEE ∷ 0x3F1EB852 ∷ 0x3F0CCCCD ∷ [])
    ∷ case (one_cell third_order) roomy (normal_of 0) (0xBF8F1A9F ∷ 0xC0569D03 ∷ 0x3FDE8CA2 ∷ [])
    ∷ []

-- ---- each entry of it holds

all_pass : T (every vectors)
unfolding every passes same opened
all_pass = tt

pub vector-holds : (other : Case) (k : ℕ) → k < length vectors → Holds (get_or vectors k other)
vector-holds other k h = entry_of other vectors all_pass k h
