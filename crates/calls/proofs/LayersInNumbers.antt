-- A start and an offer of a bed that is taken layer by layer, by the places of their arguments: whatever fits the contract on these numbers answered so and left these lists.
-- The box has 2, 3 and 4 cells of a grid of 4, 5 and 7 points, min is above 0 on each axis, the max plane of y alone is set and one face comes of it, and every list is longer than
-- it need be. The offer is the third, to a state in which vertices 100 to 105 are those of the cells below. Outside the box the layers hold negative numbers and not-a-numbers.
-- What is wanted was worked out by a plain program written from documents 01 and 02; the state's words are in the order of include/bed.h. Computed by the kernel. Assumes
-- nothing.
use Prim.Native.Nat.{ℕ}
use mathlib.Core.Bool.{true, false}
use mathlib.Core.List.{List, [], ◌∷◌, ◌++◌}
use mathlib.Core.Path.{◌≡◌, ap, subst}
use lib.IntN.{pos}
use lib.Ieee.{Float, nan, fin, of_bits, of_fields}
use Rattle.lists.specs.Lists.{up_to}
use Rattle.rules.specs.Call.{Answer}
use Rattle.rules.proofs.Cases as rules
use Rattle.grid.specs.Layers.{layer_dist}
use Rattle.layer_vertices.specs.Marked.{layer_entry, last_entry, marked}
use Rattle.layer_faces.specs.Below.{position_at, shorter_over, face_over, indices_over}
use Rattle.layers.specs.Memory.{Memory, memory, lengths, bad_memory, start_answer}
use Rattle.layers.specs.Offer.{Output, output, room_in, new_vertices, runs_on, new_indices, layer_answer, state_after, Left, left, marked_out, brought_out, layer_kept, leaves}
use Rattle.layers.specs.Words.{state_of, words_on}
use Rattle.bed.specs.Boundary.{said}
use Rattle.bed.specs.Layered.{words_started}
use Rattle.bed.specs.Words12.{block_words}
use Rattle.bed.proofs.Places.{StartCall, OfferCall, layers-start-by-place, layers-offer-by-place}
use Rattle.calls.proofs.Lists.{odds, floats}

-- what a computed fact opens
opened : Unit {0}
unfolding rules.opened bad_memory start_answer new_vertices runs_on new_indices layer_answer state_after marked_out brought_out layer_kept leaves marked layer_entry last_entry
    position_at shorter_over face_over indices_over layer_dist of_bits of_fields
opened = tt

-- ---- bed_layers_start: the state, words, kept distances, map and positions

abbrev StartLent : Type 0
StartLent = List ℕ × List ℕ × List Float × List ℕ × List Float

-- dimensions 4, 5, 7; from (1, 1, 2) to (3, 4, 6): two layers are 40 numbers, and three numbers for each point of one are 60
abbrev start_lent : ℕ → StartLent
start_lent n = (up_to 50 65, 4 ∷ 5 ∷ 7 ∷ 1 ∷ 1 ∷ 2 ∷ 3 ∷ 4 ∷ 6 ∷ 0 ∷ 7 ∷ 0 ∷ [], odds 0 41, up_to 700 742, odds 0 n)

abbrev start_given : StartCall → StartLent
start_given u = let (layers, (words, (distances, (map', (positions, _))))) = u.args in (layers.now, words.now, distances.now, map'.now, positions.now)

-- the contract of a start with n kept positions
start-says : (n : ℕ) (u : StartCall) → start_given u ≡ start_lent n
    → (let (layers', _) = u.last in
    let (layers, words, distances, map', positions) = start_lent n in
    (u.result ≡ start_answer (block_words words) (lengths (memory distances map' positions))) × (layers' ≡ words_started u.result (block_words words) layers))
start-says n u e =
    let (layers', _) = u.last in
    subst
    (λ (g : StartLent). (u.result ≡ start_answer (block_words g.1) (lengths (memory g.2 g.3 g.4)))
    × (layers' ≡ words_started u.result (block_words g.1) g.0)) e (layers-start-by-place u)

-- the twelve words, a flag that is set being 1, no layer taken and no vertex
pub layers-start-called : (u : StartCall) → start_given u ≡ start_lent 63
    → (let (layers', _) = u.last in
    (u.result ≡ 0) × (layers' ≡ 4 ∷ 5 ∷ 7 ∷ 1 ∷ 1 ∷ 2 ∷ 3 ∷ 4 ∷ 6 ∷ 0 ∷ 1 ∷ 0 ∷ 0 ∷ 0 ∷ 0 ∷ []))
unfolding opened
layers-start-called u e =
    let (layers', _) = u.last in
    let (answered, started) = start-says 63 u e in
    let done : u.result ≡ 0 = answered in
    (done, subst (λ (r : ℕ). layers' ≡ words_started r (block_words (start_lent 63).1) (up_to 50 65)) done started)

-- kept positions one short
pub layers-start-refused : (u : StartCall) → start_given u ≡ start_lent 59 → (let (layers', _) = u.last in (u.result ≡ 4) × (layers' ≡ up_to 50 65))
unfolding opened
layers-start-refused u e =
    let (layers', _) = u.last in
    let (answered, started) = start-says 59 u e in
    let short : u.result ≡ 4 = answered in
    (short, subst (λ (r : ℕ). layers' ≡ words_started r (block_words (start_lent 59).1) (up_to 50 65)) short started)

-- ---- bed_layers_offer: the state, the layer, kept distances, map and positions, six lists for output, V, I

abbrev one : Float
one = fin false 1 (pos 0)

abbrev two : Float
two = fin false 1 (pos 1)

abbrev three : Float
three = fin false 3 (pos 0)

abbrev minus_one : Float
minus_one = fin true 1 (pos 0)

abbrev minus_two : Float
minus_two = fin true 1 (pos 1)

abbrev minus_three : Float
minus_three = fin true 3 (pos 0)

-- the layers z 3, which is kept, and z 4, which is offered, by rows
abbrev kept_layer : List Float
kept_layer =
    minus_one ∷ nan ∷ minus_one ∷ nan
    ∷ minus_one ∷ three ∷ two ∷ one
    ∷ nan ∷ minus_three ∷ three ∷ two
    ∷ minus_one ∷ one ∷ minus_three ∷ one
    ∷ nan ∷ minus_one ∷ two ∷ minus_two ∷ []

abbrev offered : List Float
offered =
    nan ∷ minus_one ∷ nan ∷ minus_one
    ∷ nan ∷ three ∷ three ∷ three
    ∷ minus_one ∷ minus_three ∷ three ∷ two
    ∷ nan ∷ three ∷ one ∷ minus_one
    ∷ minus_one ∷ one ∷ minus_two ∷ two ∷ []

abbrev none : ℕ
none = 4294967295

-- the cells below; what the other half holds is stale
abbrev kept_map : List ℕ
kept_map =
    (700 ∷ 701 ∷ 702 ∷ 703
    ∷ 704 ∷ 100 ∷ 101 ∷ none
    ∷ 708 ∷ 102 ∷ 103 ∷ none
    ∷ 712 ∷ 104 ∷ 105 ∷ none
    ∷ 716 ∷ none ∷ none ∷ none ∷ [])
    ++ up_to 720 742

-- the vertices of the cells below, and then what stood there
abbrev kept_positions : List Float
kept_positions =
    floats
    (0x3FB05B06 ∷ 0x3FCFA4FA ∷ 0x4016C16C ∷ 0x400AAAAB ∷ 0x3FEEEEEE ∷ 0x40088889 ∷ 0x3FBC4444 ∷ 0x4020CCCD ∷ 0x401FD27D
    ∷ 0x400D5555 ∷ 0x401EEEEF ∷ 0x401EEEEF ∷ 0x3FBA7D28 ∷ 0x40600000 ∷ 0x4022C16C ∷ 0x401AAAAB ∷ 0x4066A315 ∷ 0x40288888 ∷ [])
    ++ odds 18 63

abbrev OfferLent : Type 0
OfferLent = List ℕ × List Float × List Float × List ℕ × List Float × List Float × List Float × List ℕ × List ℕ × List ℕ × List ℕ

-- two layers taken; the next vertex is 106, and the first of the last layer of cells 100
abbrev offer_lent : OfferLent
offer_lent = (
  4 ∷ 5 ∷ 7 ∷ 1 ∷ 1 ∷ 2 ∷ 3 ∷ 4 ∷ 6 ∷ 0 ∷ 8 ∷ 0 ∷ 2 ∷ 106 ∷ 100 ∷ [],
  offered,
  odds 0 20 ++ kept_layer ++ (three ∷ []),
  kept_map,
  kept_positions,
  odds 0 17,
  odds 100 118,
  up_to 200 219,
  up_to 300 307,
  up_to 50 56,
  up_to 400 433,
)

abbrev offer_given : OfferCall → OfferLent
offer_given u =
    let (layers, (layer, (kd, (km, (kp, (positions, (normals, (cells, (strides, (crossings, (indices, _))))))))))) = u.args in
    (layers.now, layer.now, kd.now, km.now, kp.now, positions.now, normals.now, cells.now, strides.now, crossings.now, indices.now)

-- five vertices of the cells at z 3
abbrev new_positions : List ℕ
new_positions =
    0x3FA00000 ∷ 0x3FE00000 ∷ 0x40600000 ∷ 0x3FBB6DB7 ∷ 0x40224924 ∷ 0x40592492 ∷ 0x4022AAAB ∷ 0x40371C72 ∷ 0x4062AAAB
    ∷ 0x3FC5ED0A ∷ 0x4066A315 ∷ 0x405AAAAB ∷ 0x40215555 ∷ 0x405DDDDE ∷ 0x40615555 ∷ []

abbrev new_normals : List ℕ
new_normals =
    0x408C0000 ∷ 0xC08C0000 ∷ 0x3D800000 ∷ 0x3F8829CD ∷ 0x3F01F58E ∷ 0x3FC8D0FA ∷ 0x3F01C71C ∷ 0xC038AAAA ∷ 0x3F255554
    ∷ 0xBF73FD75 ∷ 0x3B4A4700 ∷ 0x3EE88AC4 ∷ 0x3F0B60B5 ∷ 0x3EEDC71E ∷ 0x3F0B60B5 ∷ []

-- the half of the offered layer cleared in the box, and the other with the new vertices
abbrev map_left : List ℕ
map_left =
    700 ∷ 701 ∷ 702 ∷ 703
    ∷ 704 ∷ none ∷ none ∷ none
    ∷ 708 ∷ none ∷ none ∷ none
    ∷ 712 ∷ none ∷ none ∷ none
    ∷ 716 ∷ none ∷ none ∷ none
    ∷ 720 ∷ 721 ∷ 722 ∷ 723
    ∷ 724 ∷ 106 ∷ none ∷ none
    ∷ 728 ∷ 107 ∷ 108 ∷ none
    ∷ 732 ∷ 109 ∷ 110 ∷ none
    ∷ 736 ∷ none ∷ none ∷ none
    ∷ 740 ∷ 741 ∷ []

abbrev memory_left : Memory
memory_left =
    record {
      distances = offered ++ kept_layer ++ (three ∷ []);
      map = map_left;
      positions = floats (new_positions ++ (0x401AAAAB ∷ 0x4066A315 ∷ 0x40288888 ∷ [])) ++ odds 18 63;
    }

abbrev output_left : Output
output_left =
    record {
      positions = floats new_positions ++ odds 15 17;
      normals = floats new_normals ++ odds 115 118;
      cells = 1 ∷ 1 ∷ 3 ∷ 1 ∷ 2 ∷ 3 ∷ 2 ∷ 2 ∷ 3 ∷ 1 ∷ 3 ∷ 3 ∷ 2 ∷ 3 ∷ 3 ∷ 215 ∷ 216 ∷ 217 ∷ 218 ∷ [];
      strides = 65 ∷ 69 ∷ 70 ∷ 73 ∷ 74 ∷ 305 ∷ 306 ∷ [];
      crossings = 4 ∷ 7 ∷ 6 ∷ 9 ∷ 12 ∷ 55 ∷ [];
      indices =
          106 ∷ 100 ∷ 102 ∷ 106 ∷ 102 ∷ 107 ∷ 103 ∷ 107 ∷ 102 ∷ 103 ∷ 108 ∷ 107 ∷ 107 ∷ 104 ∷ 102 ∷ 107 ∷ 109 ∷ 104
          ∷ 105 ∷ 104 ∷ 109 ∷ 105 ∷ 109 ∷ 110 ∷ 109 ∷ 107 ∷ 108 ∷ 109 ∷ 108 ∷ 110 ∷ 430 ∷ 431 ∷ 432 ∷ [];
    }

-- answer 0, V 5 and I 30; three layers taken, the next vertex 111, the first of the last layer of cells 106; and every list
pub layers-offer-called : (u : OfferCall) → offer_given u ≡ offer_lent
    → (let (layers', (_, (kd', (km', (kp', (positions', (normals', (cells', (strides', (crossings', (indices', (v, (i, _))))))))))))) = u.last in
    (u.result ≡ 0)
    × (v ≡ 5)
    × (i ≡ 30)
    × (layers' ≡ 4 ∷ 5 ∷ 7 ∷ 1 ∷ 1 ∷ 2 ∷ 3 ∷ 4 ∷ 6 ∷ 0 ∷ 8 ∷ 0 ∷ 3 ∷ 111 ∷ 106 ∷ [])
    × (kd' ≡ memory_left.distances)
    × (km' ≡ memory_left.map)
    × (kp' ≡ memory_left.positions)
    × (positions' ≡ output_left.positions)
    × (normals' ≡ output_left.normals)
    × (cells' ≡ output_left.cells)
    × (strides' ≡ output_left.strides)
    × (crossings' ≡ output_left.crossings)
    × (indices' ≡ output_left.indices))
unfolding opened
layers-offer-called u e =
    let (layers', (_, (kd', (km', (kp', (positions', (normals', (cells', (strides', (crossings', (indices', (v, (i, _))))))))))))) = u.last in
    let says =
    subst
    (λ (g : OfferLent). let s = state_of g.0 in
    let m = memory g.2 g.3 g.4 in
    let o = output g.5 g.6 g.7 g.8 g.9 g.10 in
    (said u.result v i ≡ layer_answer s g.1 m (room_in m o)) × ((layers' ≡ words_on g.0 (state_after s g.1 m o))
    × (left (memory kd' km' kp') (output positions' normals' cells' strides' crossings' indices') ≡ leaves s g.1 m o))) e (layers-offer-by-place u) in
    let a : said u.result v i ≡ said 0 5 30 = says.0 in
    let l : left (memory kd' km' kp') (output positions' normals' cells' strides' crossings' indices') ≡ left memory_left output_left = says.1.1 in (
      ap (λ (x : Answer). x.number) a,
      ap (λ (x : Answer). x.vertices) a,
      ap (λ (x : Answer). x.indices) a,
      says.1.0,
      ap (λ (x : Left). x.memory.distances) l,
      ap (λ (x : Left). x.memory.map) l,
      ap (λ (x : Left). x.memory.positions) l,
      ap (λ (x : Left). x.output.positions) l,
      ap (λ (x : Left). x.output.normals) l,
      ap (λ (x : Left). x.output.cells) l,
      ap (λ (x : Left). x.output.strides) l,
      ap (λ (x : Left). x.output.crossings) l,
      ap (λ (x : Left). x.output.indices) l,
    )
