-- What follows for a bed taken layer by layer from the theorem over all layers alone: every position lies in its cell, every number is finite, and where
-- the premise of document 02's request 8 holds the skin has no hole. Assumes nothing.
use Prim.Native.Nat.{ℕ, ◌+◌, ◌*◌, ◌<◌}
use native.Mathlib.Omega.{arith}
use mathlib.Core.List.{List}
use mathlib.Core.Path.{◌≡◌, sym, ap, subst, ◌∙◌}
use lib.Dec.{T}
use lib.Ieee.{Float, nan}
use lib.ListN.{get_or}
use lib.Seq.{get_or-take}
use Rattle.lists.specs.Lists.{many}
use Rattle.cube.proofs.ClosedCell.{InCell}
use Rattle.cube.proofs.Corners.{Finite}
use Rattle.grid.specs.declared.Block.{Block}
use Rattle.grid.specs.Block.{box_of, flags_of, field_of, call_of}
use Rattle.grid.specs.Inside.{Inside}
use Rattle.skin.specs.Links.{link, same_link, links}
use Rattle.skin.specs.Enclosed.{enclosed}
use Rattle.skin.proofs.Premise.{skin-closed}
use Rattle.layers.specs.declared.State.{State}
use Rattle.layers.specs.Memory.{Memory}
use Rattle.layers.specs.Offer.{Output}
use Rattle.promises.specs.Served.{Served, Done}
use Rattle.promises.proofs.ClosedMesh.{closed-mesh}
use Rattle.layered_mesh.specs.Fed.{Fed, points_in_z}
use Rattle.layered_mesh.proofs.Layered.{layered-mesh}
use Rattle.layered_mesh.proofs.AsServed.{as-served}

-- ---- no hole

pub layers-even : (sdf : List Float) (k : Block) → Inside sdf k → T (enclosed (field_of sdf k) (box_of k)) → {n : ℕ} {s : State} {m : Memory} {out : Output}
    → Fed sdf k n s m out → n ≡ points_in_z k → (i j : ℕ) → many (same_link (link i j)) (links out.indices) ≡ many (same_link (link j i)) (links out.indices)
layers-even sdf k inside t fed all_in i j =
    subst (λ (l : List ℕ). many (same_link (link i j)) (links l) ≡ many (same_link (link j i)) (links l))
    (sym (ap (λ (o : Output). o.indices) (layered-mesh sdf k inside fed all_in))) (skin-closed (field_of sdf k) (box_of k) t (flags_of k) i j)

-- ---- beside a whole call that was made

module _ (sdf : List Float) (k : Block) (u : Served) (same : u.call ≡ call_of sdf k) (done : Done u) {n : ℕ} {s : State} {m : Memory} {out : Output} (fed : Fed sdf k n s m out)
    (all_in : n ≡ points_in_z k) where
  positions-at : (i : ℕ) → i < 3 * u.says.vertices → get_or u.after.positions i nan ≡ get_or out.positions i nan
  positions-at i h = sym (ap (λ (o : Output). get_or o.positions i nan) (as-served sdf k u same done fed all_in) ∙ get_or-take (3 * u.says.vertices) u.after.positions i nan h)

  cells_at : (i : ℕ) → i < 3 * u.says.vertices → get_or u.after.cells i 0 ≡ get_or out.cells i 0
  cells_at i h = sym (ap (λ (o : Output). get_or o.cells i 0) (as-served sdf k u same done fed all_in) ∙ get_or-take (3 * u.says.vertices) u.after.cells i 0 h)

  -- the number at 3·v + a of the positions lies in the cell whose coordinate stands there
  pub layers-closed : (v a : ℕ) → v < u.says.vertices → a < 3 → InCell (get_or out.cells (3 * v + a) 0) (get_or out.positions (3 * v + a) nan)
  layers-closed v a h l =
      let i : 3 * v + a < 3 * u.says.vertices = omega arith in
      rw (← cells_at (3 * v + a) i, ← positions-at (3 * v + a) i) ((closed-mesh u done).inside v a h l)

  normals-at : (i : ℕ) → i < 3 * u.says.vertices → get_or u.after.normals i nan ≡ get_or out.normals i nan
  normals-at i h =
      sym (ap (λ (o : Output). get_or o.normals i nan) (as-served sdf k u same done fed all_in) ∙ get_or-take (3 * u.says.vertices) u.after.normals i nan h)

  pub layers-finite : (i : ℕ) → i < 3 * u.says.vertices → Finite (get_or out.positions i nan) × Finite (get_or out.normals i nan)
  layers-finite i h = let f = (closed-mesh u done).finite i h in (rw (← positions-at i h) f.0, rw (← normals-at i h) f.1)
