-- Document 02, request 1: "Every refusal leaves state and kept memory as they were, so the same layer can be offered again with more room." A layer that was refused with 6 or 7
-- and is offered again with room for the V and I that were told is answered 0, and says them once more. Whatever the state and kept memory are. Assumes nothing.
use Prim.Native.Nat.{ℕ, ◌<◌}
use native.Mathlib.Omega.{arith}
use mathlib.Core.Bool.{Bool, true, false, cond}
use mathlib.Core.List.{List}
use mathlib.Core.Logic.{◌⊎◌, inl, inr}
use mathlib.Core.Path.{◌≡◌, sym, ap, subst, ◌∙◌}
use lib.Ieee.{Float}
use lib.ListN.{length}
use Rattle.rules.specs.Call.{Room, Answer, answers, room_answer, bad_dimensions, bad_box, bad_vertex_room, bad_index_room}
use Rattle.grid.specs.Block.{point, box_of}
use Rattle.judge.proofs.Judging.{Enough, room-enough}
use Rattle.layers.specs.declared.State.{State}
use Rattle.layers.specs.Memory.{Memory, lengths, bad_memory}
use Rattle.layers.specs.Offer.{Left, room_in, new_vertices, new_indices, finished, bad_layer_length, bad_points, layer_answer}
use Rattle.layers.proofs.Left.{refused-state, refused-left}
use Rattle.layered_mesh.specs.Fed.{Offered}

-- 6 or 7
abbrev pub WantsRoom : ℕ → Type 0
WantsRoom n = (n ≡ 6) ⊎ (n ≡ 7)

wants-no : {n : ℕ} {A : Type 0} → WantsRoom n → (n < 6) ⊎ (7 < n) → A
wants-no (inl e) (inl h) = absurd (omega arith)
wants-no (inl e) (inr h) = absurd (omega arith)
wants-no (inr e) (inl h) = absurd (omega arith)
wants-no (inr e) (inr h) = absurd (omega arith)

-- ---- of the definition

-- what a list's room is tested for, is said
room-again : (r r' : Room) (v i : ℕ) → Enough r' (room_answer r v i).vertices (room_answer r v i).indices
    → room_answer r' v i ≡ answers 0 (room_answer r v i).vertices (room_answer r v i).indices
unfolding room_answer
room-again r r' v i = go (bad_vertex_room r v) (bad_index_room r i)
  where
    done : Enough r' v i → room_answer r' v i ≡ answers 0 v i
    done e = sym (room-enough r' v i e.positions e.normals e.cells e.strides e.crossings e.indices)

    go : (p q : Bool) → let a = cond p (answers 6 v i) (cond q (answers 7 v i) (answers 0 v i)) in
        Enough r' a.vertices a.indices → room_answer r' v i ≡ answers 0 a.vertices a.indices
    go true q e = done e
    go false true e = done e
    go false false e = done e

-- the conditions 1, 2, 8, 3, 4 and 5 do not look at the lists lent for output
pub layer-again : (s : State) (layer : List Float) (m : Memory) (r r' : Room) → WantsRoom (layer_answer s layer m r).number
    → Enough r' (layer_answer s layer m r).vertices (layer_answer s layer m r).indices
    → layer_answer s layer m r' ≡ answers 0 (layer_answer s layer m r).vertices (layer_answer s layer m r).indices
unfolding layer_answer
layer-again s layer m r r' =
    go (bad_dimensions (point s.block.dims)) (bad_box (point s.block.dims) (box_of s.block)) (finished s) (bad_layer_length s.block layer)
    (bad_memory s.block (lengths m)) (bad_points s.block layer)
  where
    v : ℕ
    v = length (new_vertices s layer m.distances)

    i : ℕ
    i = length (new_indices s layer m)

    -- the answer by the six tests
    by : Bool → Bool → Bool → Bool → Bool → Bool → Room → Answer
    by a b c d e f t =
        cond a (answers 1 0 0) (cond b (answers 2 0 0) (cond c (answers 8 0 0) (cond d (answers 3 0 0) (cond e (answers 4 0 0) (cond f (answers 5 0 0) (room_answer t v i))))))

    go : (a b c d e f : Bool) → WantsRoom (by a b c d e f r).number → Enough r' (by a b c d e f r).vertices (by a b c d e f r).indices
        → by a b c d e f r' ≡ answers 0 (by a b c d e f r).vertices (by a b c d e f r).indices
    go true b c d e f w h = wants-no w (inl (omega arith))
    go false true c d e f w h = wants-no w (inl (omega arith))
    go false false true d e f w h = wants-no w (inr (omega arith))
    go false false false true e f w h = wants-no w (inl (omega arith))
    go false false false false true f w h = wants-no w (inl (omega arith))
    go false false false false false true w h = wants-no w (inl (omega arith))
    go false false false false false false w h = room-again r r' v i h

-- ---- of two offers

-- `second` is the same layer, offered to the state and the memory that `first` left
module _ (first second : Offered) (state : second.state ≡ first.next) (memory : second.memory ≡ first.after.memory) (layer : second.layer ≡ first.layer)
    (wants : WantsRoom first.says.number) where
  never : (layer_answer first.state first.layer first.memory (room_in first.memory first.lent)).number ≡ 0 → ⊥
  never e = let n : first.says.number ≡ 0 = ap (λ (a : Answer). a.number) first.answered ∙ e in wants-no wants (inl (omega arith))

  -- they are what the first was offered to
  pub state-stands : second.state ≡ first.state
  state-stands = state ∙ first.moved ∙ refused-state first.state first.layer first.memory first.lent never

  pub memory-stands : second.memory ≡ first.memory
  memory-stands = memory ∙ ap (λ (l : Left). l.memory) (first.left ∙ refused-left first.state first.layer first.memory first.lent never)

  pub offered-again : Enough (room_in second.memory second.lent) first.says.vertices first.says.indices
      → second.says ≡ answers 0 first.says.vertices first.says.indices
  offered-again enough =
      let r = room_in first.memory first.lent in
      let r' = room_in second.memory second.lent in
      let a = first.answered in
      second.answered
      ∙ (λ j. layer_answer (state-stands j) (layer j) (memory-stands j) r')
      ∙ layer-again first.state first.layer first.memory r r' (subst (λ (x : Answer). WantsRoom x.number) a wants)
      (subst (λ (x : Answer). Enough r' x.vertices x.indices) a enough)
      ∙ sym (ap (λ (x : Answer). answers 0 x.vertices x.indices) a)
