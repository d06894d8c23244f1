-- The theorems over a bed taken layer by layer at Ball's three layers, and at a box smaller than its grid: each theorem's premises are met by numbers, and what it then says is a
-- number that document 01 gives. Assumes nothing.
use Prim.Native.Nat.{ℕ, zero, suc, ◌+◌, ◌≤◌}
use native.Mathlib.Nat.{zero-add}
use native.Mathlib.Omega.{arith}
use mathlib.Core.Bool.{true, false}
use mathlib.Core.List.{List, [], ◌∷◌, ◌++◌}
use mathlib.Core.Logic.{inl}
use mathlib.Core.Path.{◌≡◌, refl, sym, ap}
use lib.Dec.{lit≤, lit<}
use lib.Ieee.{Float}
use lib.ListN.{get_or, drop, set, replicate}
use Rattle.rules.specs.Cell.{one32}
use Rattle.rules.specs.Call.{Buffers, answers, answer, room as room_is}
use Rattle.rules.proofs.Cases.{minus_one, opened}
use Rattle.lists.specs.Lists.{many, up_to}
use Rattle.grid.specs.declared.Block.{Block}
use Rattle.grid.specs.Block.{call_of}
use Rattle.grid.specs.Inside.{Inside}
use Rattle.judge.proofs.Judging.{Enough}
use Rattle.skin.specs.Links.{link, same_link, links}
use Rattle.skin.specs.Enclosed.{inner}
use Rattle.skin.specs.Scan.{layer_enclosed, judged_layer, examined_layer, answers as enclosed_answers}
use Rattle.layers.specs.Memory.{memory, half_of, start_answer}
use Rattle.layers.specs.Offer.{begun, Output, room_in}
use Rattle.layered_mesh.specs.Fed.{Offered, wrote, joined_with, nothing, layer_of, Fed, started, taken}
use Rattle.layered_mesh.proofs.Cases.{extent, block, ball, middle, enough, room, layers_opened, grid, made, first, second, ball-fed}
use Rattle.layered_mesh.proofs.Again.{offered-again}
use Rattle.layered_mesh.proofs.Taken.{AsLong, InTurn, out_at, all-taken, all-out}
use Rattle.layered_mesh.proofs.SoFar.{so-far-begins}
use Rattle.layered_mesh.proofs.NoHole.{layers-no-hole}
use Rattle.layered_mesh.proofs.Untouched.{rest-kept, map-beside-keeps}

-- ---- offered again

-- Ball's second layer with room for three of its four vertices, and then for all
abbrev short : Offered
short = made first.next middle first.after.memory (room 3 6)

abbrev again : Offered
again = made short.next middle short.after.memory (room 4 6)

enough-again : Enough (room_in again.memory again.lent) 4 6
enough-again = record { positions = lit≤ tt; normals = lit≤ tt; cells = lit≤ tt; strides = lit≤ tt; crossings = lit≤ tt; indices = lit≤ tt }

pub ball-again : again.says ≡ answers 0 4 6
unfolding opened layers_opened
ball-again = offered-again short again refl refl refl (inl refl) enough-again

-- ---- all layers in turn

-- the lists of a whole call on Ball, exactly as long as they need be
abbrev lists : Buffers
lists =
    record {
      positions = replicate 24 one32;
      normals = replicate 24 one32;
      cells = replicate 24 7;
      strides = replicate 8 7;
      crossings = replicate 8 7;
      map = replicate 27 7;
      indices = replicate 18 7;
    }

-- each layer with lists of those lengths
pub offers : ℕ → Offered
offers zero = made (begun ball) (layer_of grid ball 0) enough (room 8 18)
offers (suc n) = made (offers n).next (layer_of grid ball (suc n)) (offers n).after.memory (room 8 18)

as_long : AsLong (room 8 18) lists
as_long = record { positions = lit≤ tt; normals = lit≤ tt; cells = lit≤ tt; strides = lit≤ tt; crossings = lit≤ tt; indices = lit≤ tt }

pub call-done : (answer (call_of grid ball) (room_is lists)).number ≡ 0
unfolding opened
call-done = refl

lent-long : (n : ℕ) → AsLong (offers n).lent lists
unfolding offers
lent-long zero = as_long
lent-long (suc n) = as_long

layer-is : (n : ℕ) → (offers n).layer ≡ layer_of grid ball (0 + n)
unfolding offers
layer-is zero = refl
layer-is (suc n) = ap (layer_of grid ball) (sym (zero-add (suc n)))

pub offers-in-turn : InTurn grid ball lists call-done enough offers
unfolding offers opened layers_opened start_answer
offers-in-turn =
    record {
      began = refl;
      first-state = refl;
      first-memory = refl;
      next-state = λ n h. refl;
      next-memory = λ n h. refl;
      layer = λ n h. layer-is n;
      long = λ n h. lent-long n;
    }

-- Ball: V 8, I 18, of which the second layer brings 4 and 6 and the third 4 and 12
pub ball-all-taken : ((offers 0).says ≡ answers 0 0 0) × (((offers 1).says ≡ answers 0 4 6) × ((offers 2).says ≡ answers 0 4 12))
unfolding opened layers_opened
ball-all-taken =
    let each = all-taken grid ball lists call-done enough offers offers-in-turn in (each 0 (lit< tt), (each 1 (lit< tt), each 2 (lit< tt)))

-- and document 01's own indices come out
pub ball-all-out : (out_at grid ball lists call-done enough offers offers-in-turn 3).indices ≡ 2 ∷ 1 ∷ 0 ∷ 2 ∷ 3 ∷ 1 ∷ 1 ∷ 4 ∷ 0 ∷ 1 ∷ 5 ∷ 4 ∷ 4 ∷ 2 ∷ 0 ∷ 4 ∷ 6 ∷ 2 ∷ []
unfolding opened layers_opened
ball-all-out = ap (λ (o : Output). o.indices) (all-out grid ball lists call-done enough offers offers-in-turn)

-- ---- so far

-- after two of Ball's three layers: its first six indices
ball-inside : Inside grid ball
unfolding opened
ball-inside = record { dims = tt; box = tt; size = tt }

fed-two : Fed grid ball 2 second.next second.after.memory (joined_with (joined_with nothing (wrote first)) (wrote second))
unfolding opened layers_opened start_answer
fed-two = taken (taken (started enough refl) first refl refl refl refl) second refl refl refl refl

pub ball-so-far : (joined_with (joined_with nothing (wrote first)) (wrote second)).indices ≡ 2 ∷ 1 ∷ 0 ∷ 2 ∷ 3 ∷ 1 ∷ []
unfolding opened layers_opened
ball-so-far = ap (λ (o : Output). o.indices) (so-far-begins grid ball ball-inside fed-two ball-fed refl (lit≤ tt))

-- ---- untouched

-- Ball's second layer with room for six vertices and eight indices: past the fourth stride and the sixth index stands what stood there
abbrev longer : Offered
longer = made first.next middle first.after.memory (room 6 8)

pub ball-rest : (drop 4 longer.after.output.strides ≡ 7 ∷ 7 ∷ []) × (drop 6 longer.after.output.indices ≡ 7 ∷ 7 ∷ [])
unfolding opened layers_opened
ball-rest = let r = rest-kept longer in (r.strides, r.indices)

-- a box from (1, 1, 2) to (2, 2, 4) in a grid of 4 by 3 by 5 points: the entry of x = 3, y = 1, which lies right of it, is at place 7 of its layer, and is kept
abbrev small : Block
small = record { dims = extent 4 3 5; low = extent 1 1 2; high = extent 2 2 4; max_plane = record { x = false; y = true; z = false } }

abbrev beside : Offered
beside = made (begun small) (replicate 12 one32) (memory (replicate 24 one32) (up_to 100 126) (replicate 36 one32)) (room 0 0)

pub small-beside : get_or (half_of small 0 beside.after.memory.map) 7 0 ≡ 107
unfolding opened layers_opened
small-beside = map-beside-keeps beside 7 (lit< tt) (λ t. t) 0

-- ---- no hole

-- one point below zero, (1, 1, 1) of 4 by 4 by 4, in four layers; the test says yes of each
abbrev single : Block
single = block (extent 4 4 4) (extent 3 3 3)

abbrev around : List Float
around = replicate 16 one32

abbrev inside : List Float
inside = set around 5 minus_one

abbrev single_grid : List Float
single_grid = around ++ (inside ++ (around ++ around))

abbrev s0 : Offered
s0 = made (begun single) around (memory (replicate 32 one32) (replicate 32 7) (replicate 48 one32)) (room 0 0)

abbrev s1 : Offered
s1 = made s0.next inside s0.after.memory (room 4 6)

abbrev s2 : Offered
s2 = made s1.next around s1.after.memory (room 4 30)

abbrev s3 : Offered
s3 = made s2.next around s2.after.memory (room 0 0)

abbrev single_out : Output
single_out = joined_with (joined_with (joined_with (joined_with nothing (wrote s0)) (wrote s1)) (wrote s2)) (wrote s3)

single-fed : Fed single_grid single 4 s3.next s3.after.memory single_out
unfolding opened layers_opened start_answer
single-fed =
    taken (taken (taken (taken (started s0.memory refl) s0 refl refl refl refl) s1 refl refl refl refl) s2 refl refl refl refl) s3 refl refl refl refl

single-inside : Inside single_grid single
unfolding opened
single-inside = record { dims = tt; box = tt; size = tt }

each-yes : (z : ℕ) → 0 ≤ z → z ≤ 3 → examined_layer (layer_of single_grid single z) single.dims single.low single.high z ≡ enclosed_answers 0 true
unfolding opened judged_layer layer_enclosed inner
each-yes zero l h = refl
each-yes (suc zero) l h = refl
each-yes (suc (suc zero)) l h = refl
each-yes (suc (suc (suc zero))) l h = refl
each-yes (suc (suc (suc (suc z)))) l h = absurd (omega arith)

-- the side from 2 to 1 occurs once, and so the one from 1 to 2
pub single-no-hole : many (same_link (link 1 2)) (links single_out.indices) ≡ 1
unfolding opened layers_opened links
single-no-hole = layers-no-hole single_grid single single-inside single-fed refl each-yes 1 2
