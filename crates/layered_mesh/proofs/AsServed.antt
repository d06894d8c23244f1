-- A bed taken layer by layer beside a whole call that was made: the same lists, and so the same faces and the same vertices read back from them. What is
-- shown of those of a call, the closed cell, finite numbers, the law of cutting, the skin without a hole, is so shown of what the layers brought out.
-- Assumes nothing.
use Prim.Native.Nat.{ℕ}
use mathlib.Core.List.{List}
use mathlib.Core.Path.{◌≡◌, sym, ap, subst, ◌∙◌}
use lib.Ieee.{Float}
use Rattle.rules.specs.Call.{Call, Answer, answer, afterwards, room}
use Rattle.rules.specs.Cutting.{faces_seen, vertices_seen}
use Rattle.grid.specs.declared.Block.{Block}
use Rattle.grid.specs.Block.{call_of}
use Rattle.layers.specs.declared.State.{State}
use Rattle.layers.specs.Memory.{Memory}
use Rattle.layers.specs.Offer.{Output}
use Rattle.promises.specs.Served.{Served, Done, faces_read, vertices_read}
use Rattle.layered_mesh.specs.Fed.{first_of, map_apart, Fed, points_in_z}
use Rattle.layered_mesh.proofs.Layered.{layered}

module _ (sdf : List Float) (k : Block) (u : Served) (same : u.call ≡ call_of sdf k) (done : Done u) {n : ℕ} {s : State} {m : Memory} {out : Output} (fed : Fed sdf k n s m out)
    (all_in : n ≡ points_in_z k) where
  says : u.says ≡ answer (call_of sdf k) (room u.before)
  says = u.answered ∙ ap (λ (c : Call). answer c (room u.before)) same

  after : u.after ≡ afterwards (call_of sdf k) u.before
  after = u.left ∙ ap (λ (c : Call). afterwards c u.before) same

  -- what came out of the layers is what the call wrote, its map apart
  pub as-served : out ≡ first_of u.says.vertices u.says.indices (map_apart u.after)
  as-served =
      layered sdf k u.before (ap (λ (a : Answer). a.number) (sym says) ∙ done) fed all_in
      ∙ sym (λ j. first_of (says j).vertices (says j).indices (map_apart (after j)))

  pub faces-served : faces_seen out.cells out.positions out.indices ≡ faces_read u
  faces-served = ap (λ (o : Output). faces_seen o.cells o.positions o.indices) as-served

  pub vertices-served : vertices_seen u.says.vertices out.cells out.positions out.normals out.crossings ≡ vertices_read u
  vertices-served = ap (λ (o : Output). vertices_seen u.says.vertices o.cells o.positions o.normals o.crossings) as-served

  -- whatever holds of the lists that the call wrote
  pub carried-over : (P : Output → Type 0) → P (first_of u.says.vertices u.says.indices (map_apart u.after)) → P out
  carried-over P h = subst P (sym as-served) h
