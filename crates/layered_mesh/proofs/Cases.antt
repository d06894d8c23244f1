-- Layers with numbers, computed by the kernel from the definitions: each answer, the order in which they are tried, the cap, and Ball in three layers.
-- Assumes nothing.
use Prim.Native.Nat.{ℕ, ◌*◌}
use mathlib.Core.Bool.{Bool, true, false, ◌&&◌}
use mathlib.Core.List.{List, [], ◌∷◌, ◌++◌, map}
use mathlib.Core.Path.{refl}
use lib.Dec.{T}
use lib.IntN.{pos}
use lib.ListN.{replicate, set}
use lib.Ieee.{Float, nan, fin, binary32, to_bits}
use Rattle.rules.specs.Cell.{one32}
use Rattle.rules.specs.Call.{Answer}
use Rattle.rules.proofs.Cases.{minus_one, opened, same}
use Rattle.grid.specs.declared.Extent.{Extent}
use Rattle.grid.specs.declared.Block.{Block}
use Rattle.grid.specs.Layers.{layer_dist}
use Rattle.layer_vertices.specs.Marked.{layer_entry, last_entry, marked}
use Rattle.layer_faces.specs.Below.{position_at, shorter_over, face_over, indices_over}
use Rattle.layers.specs.declared.State.{State}
use Rattle.layers.specs.Memory.{Memory, memory, bad_memory, start_answer}
use Rattle.layers.specs.Offer.{begun, Output, output, room_in, new_vertices, runs_on, new_indices, layer_answer, state_after, marked_out, brought_out, layer_kept, leaves}
use Rattle.layered_mesh.specs.Fed.{Offered, wrote, joined_with, nothing, Fed, started, taken}

-- ---- the layers of Ball, and what is lent

abbrev pub extent : ℕ → ℕ → ℕ → Extent
extent x y z = record { x = x; y = y; z = z }

abbrev pub block : Extent → Extent → Block
block dims high = record { dims = dims; low = extent 0 0 0; high = high; max_plane = record { x = false; y = false; z = false } }

abbrev pub ball : Block
ball = block (extent 3 3 3) (extent 2 2 2)

-- nine distances, all 1.0, and the middle one
abbrev pub flat : List Float
flat = replicate 9 one32

abbrev pub middle : List Float
middle = set flat 4 minus_one

-- 2^124, and the next float up
abbrev far : Float
far = fin false 1 (pos 124)

abbrev farther : Float
farther = fin false 8388609 (pos 101)

-- kept memory and lists of these lengths
abbrev keeps : ℕ → ℕ → ℕ → Memory
keeps d m p = memory (replicate d one32) (replicate m 7) (replicate p one32)

abbrev pub enough : Memory
enough = keeps 18 18 27

abbrev pub room : ℕ → ℕ → Output
room v i = output (replicate (3 * v) one32) (replicate (3 * v) one32) (replicate (3 * v) 7) (replicate v 7) (replicate v 7) (replicate i 7)

abbrev at : Block → ℕ → State
at k n = record { block = k; taken = n; next = 0; first = 0 }

-- ---- the answers

pub record Case : Type 0 where
  pub state : State
  pub layer : List Float
  pub memory : Memory
  pub lent : Output
  pub wanted : List ℕ

abbrev case : State → List Float → Memory → Output → ℕ → ℕ → ℕ → Case
case s l m o n v i = record { state = s; layer = l; memory = m; lent = o; wanted = n ∷ v ∷ i ∷ [] }

pub cases : List Case
cases =
    case (begun ball) flat enough (room 0 0) 0 0 0
    -- dimension 0, and max not below its dimension, before anything else; 8 right after them, before a wrong length and short memory
    ∷ case (at (block (extent 3 0 3) (extent 2 2 2)) 3) [] (keeps 0 0 0) (room 0 0) 1 0 0
    ∷ case (at (block (extent 3 3 3) (extent 2 3 2)) 3) [] (keeps 0 0 0) (room 0 0) 2 0 0
    ∷ case (at ball 3) [] (keeps 0 0 0) (room 0 0) 8 0 0
    ∷ case (at ball 4294967295) flat enough (room 0 0) 8 0 0
    -- X·Y - 1 and X·Y + 1, before short memory; then each list of kept memory one short, before a bad distance
    ∷ case (at ball 2) (replicate 8 one32) (keeps 0 0 0) (room 0 0) 3 0 0
    ∷ case (at ball 2) (replicate 10 one32) enough (room 0 0) 3 0 0
    ∷ case (at ball 0) (set flat 0 nan) (keeps 17 18 27) (room 0 0) 4 0 0
    ∷ case (at ball 0) flat (keeps 18 17 27) (room 0 0) 4 0 0
    ∷ case (at ball 0) flat (keeps 18 18 26) (room 0 0) 4 0 0
    -- 2^124 passes and the next float up gives 5; outside the box it does not matter
    ∷ case (at ball 0) (set flat 8 far) enough (room 0 0) 0 0 0
    ∷ case (at ball 1) (set middle 8 farther) enough (room 0 0) 5 0 0
    ∷ case (at (block (extent 3 3 3) (extent 1 1 2)) 0) (set flat 8 farther) enough (room 0 0) 0 0 0
    -- Ball's second layer, over a kept layer of 1.0: V 4, I 6
    ∷ case (at ball 1) middle enough (room 3 6) 6 4 6
    ∷ case (at ball 1) middle enough (room 4 5) 7 4 6
    ∷ case (at ball 1) middle enough (room 4 6) 0 4 6
    ∷ []

-- what a computed test opens besides the rules
unfoldable pub layers_opened : Unit {0}
unfolding opened bad_memory new_vertices runs_on new_indices layer_answer state_after marked_out brought_out layer_kept leaves marked layer_entry last_entry position_at shorter_over
    face_over indices_over layer_dist
layers_opened = tt

abbrev pub said : Answer → List ℕ
said a = a.number ∷ a.vertices ∷ a.indices ∷ []

unfoldable pub passes : List Case → Bool
passes [] = true
passes (c ∷ cs) = same (said (layer_answer c.state c.layer c.memory (room_in c.memory c.lent))) c.wanted && passes cs

pub answers-computed : T (passes cases)
unfolding passes cases same opened layers_opened
answers-computed = tt

-- ---- Ball in three layers

abbrev pub grid : List Float
grid = flat ++ (middle ++ flat)

-- an offer as it is made, whatever comes of it
abbrev pub made : State → List Float → Memory → Output → Offered
made s l m o =
    record {
      state = s;
      layer = l;
      memory = m;
      lent = o;
      says = layer_answer s l m (room_in m o);
      next = state_after s l m o;
      after = leaves s l m o;
      answered = refl;
      moved = refl;
      left = refl;
    }

abbrev pub first : Offered
first = made (begun ball) flat enough (room 0 0)

abbrev pub second : Offered
second = made first.next middle first.after.memory (room 4 6)

abbrev pub third : Offered
third = made second.next flat second.after.memory (room 4 12)

-- the numbers of a state
abbrev state_numbers : State → List ℕ
state_numbers s = s.taken ∷ s.next ∷ s.first ∷ []

-- what came out, list after list, floats by their bits; the states; and the kept map
abbrev ball_numbers : List ℕ
ball_numbers =
    let out = joined_with (wrote second) (wrote third) in
    said first.says ++ (said second.says ++ (said third.says ++ (state_numbers second.next ++ (state_numbers third.next
    ++ (map (to_bits binary32) out.positions ++ (map (to_bits binary32) out.normals
    ++ (out.cells ++ (out.strides ++ (out.crossings ++ (out.indices ++ third.after.memory.map))))))))))

abbrev none : ℕ
none = 4294967295

-- document 01's indices and strides, and the published Rust's positions and normals
abbrev ball_wanted : List ℕ
ball_wanted =
    0 ∷ 0 ∷ 0 ∷ 0 ∷ 4 ∷ 6 ∷ 0 ∷ 4 ∷ 12 ∷ 2 ∷ 4 ∷ 0 ∷ 3 ∷ 8 ∷ 4
    ∷ 0x3F555555 ∷ 0x3F555555 ∷ 0x3F555555 ∷ 0x3F955555 ∷ 0x3F555555 ∷ 0x3F555555 ∷ 0x3F555555 ∷ 0x3F955555 ∷ 0x3F555555 ∷ 0x3F955555 ∷ 0x3F955555 ∷ 0x3F555555
    ∷ 0x3F555555 ∷ 0x3F555555 ∷ 0x3F955555 ∷ 0x3F955555 ∷ 0x3F555555 ∷ 0x3F955555 ∷ 0x3F555555 ∷ 0x3F955555 ∷ 0x3F955555 ∷ 0x3F955555 ∷ 0x3F955555 ∷ 0x3F955555
    ∷ 0xBFB1C71C ∷ 0xBFB1C71C ∷ 0xBFB1C71C ∷ 0x3FB1C71C ∷ 0xBFB1C71C ∷ 0xBFB1C71C ∷ 0xBFB1C71C ∷ 0x3FB1C71C ∷ 0xBFB1C71C ∷ 0x3FB1C71C ∷ 0x3FB1C71C ∷ 0xBFB1C71C
    ∷ 0xBFB1C71C ∷ 0xBFB1C71C ∷ 0x3FB1C71C ∷ 0x3FB1C71C ∷ 0xBFB1C71C ∷ 0x3FB1C71C ∷ 0xBFB1C71C ∷ 0x3FB1C71C ∷ 0x3FB1C71C ∷ 0x3FB1C71C ∷ 0x3FB1C71C ∷ 0x3FB1C71C
    ∷ 0 ∷ 0 ∷ 0 ∷ 1 ∷ 0 ∷ 0 ∷ 0 ∷ 1 ∷ 0 ∷ 1 ∷ 1 ∷ 0 ∷ 0 ∷ 0 ∷ 1 ∷ 1 ∷ 0 ∷ 1 ∷ 0 ∷ 1 ∷ 1 ∷ 1 ∷ 1 ∷ 1
    ∷ 0 ∷ 1 ∷ 3 ∷ 4 ∷ 9 ∷ 10 ∷ 12 ∷ 13
    ∷ 3 ∷ 3 ∷ 3 ∷ 3 ∷ 3 ∷ 3 ∷ 3 ∷ 3
    ∷ 2 ∷ 1 ∷ 0 ∷ 2 ∷ 3 ∷ 1 ∷ 1 ∷ 4 ∷ 0 ∷ 1 ∷ 5 ∷ 4 ∷ 4 ∷ 2 ∷ 0 ∷ 4 ∷ 6 ∷ 2
    ∷ none ∷ none ∷ none ∷ none ∷ none ∷ none ∷ none ∷ none ∷ none ∷ 4 ∷ 5 ∷ none ∷ 6 ∷ 7 ∷ none ∷ none ∷ none ∷ none ∷ []

pub ball-computed : T (same ball_numbers ball_wanted)
unfolding same opened layers_opened
ball-computed = tt

-- the theorem's premises are met by it
pub ball-fed : Fed grid ball 3 third.next third.after.memory (joined_with (joined_with (joined_with nothing (wrote first)) (wrote second)) (wrote third))
unfolding opened layers_opened start_answer
ball-fed = taken (taken (taken (started enough refl) first refl refl refl refl) second refl refl refl refl) third refl refl refl refl
