-- After a count answered 0 and a mesh call answered 0 on the same bed, of which request 8's premise is told, the sum over the mesh lies between the two numbers that the
-- three counts make: the sum over the triangles, what the volume's call answers, and what the weighing adds up. Assumes nothing.
use mathlib.Core.Bool.{true}
use mathlib.Core.List.{List}
use Prim.Native.Nat.{ℕ}
use mathlib.Core.Path.{◌≡◌, sym, ap, subst, ◌∙◌}
use lib.IntN.{ℤ}
use Rattle.rules.specs.Call.{vertex_count, index_count}
use Rattle.grid.specs.Block.{call_of}
use Rattle.skin.specs.Enclosed.{Enclosed}
use Rattle.skin.specs.Links.{links}
use Rattle.skin.specs.Scan.{answers, judged}
use Rattle.skin.proofs.Skin.{skin-law}
use Rattle.weigh.specs.Answers.{sum_in}
use Rattle.promises.specs.Served.{Served, Done}
use Rattle.promises.proofs.Done.{done-counts}
use Rattle.promises.proofs.ReadBack.{indices-back}
use Rattle.weighed_mesh.specs.Told.{Told as Volumed, positions_of, indices_of, weight_of}
use Rattle.weighed_mesh.proofs.Sides.{Even}
use Rattle.weighed_mesh.proofs.Mesh.{OwnMesh as OwnVolume}
use Rattle.weighed_bed.specs.Told.{Told as Weighed}
use Rattle.weighed_bed.proofs.Agree.{pillars-sixfold}
use Rattle.weighed_bed.proofs.Fits.{OwnMesh, own-mesh-sum}
use Rattle.bounded_mesh.specs.Bounded.{whole_of, Bounded}
use Rattle.bounded_mesh.proofs.Bounds.{volume-bounded, own-volume-bounded}
use Rattle.bounded_mesh.proofs.Asked.{yes-says}
use Rattle.tally.specs.declared.Counts.{Counts}
use Rattle.tally.specs.Cells.{whole_cells}
use Rattle.tally.specs.Call.{Told, counted}
use Rattle.tallied_bed.specs.Calls.{Whole}
use Rattle.tallied_bed.specs.Between.{Between}
use Rattle.tallied_bed.proofs.Accepted.{accepted, counts-told, done-told}

-- a count and a mesh call on the same grid, box and flags, both answered 0, and the premise told
pub record Same (w : Whole) (u : Served) : Type 0 where
  pub counted-all : w.says.answer ≡ 0
  pub meshed : Done u
  pub call : u.call ≡ call_of w.sdf w.block
  pub told : judged u.call.grid u.call.box u.call.size ≡ answers 0 true

module _ (w : Whole) (u : Served) (s : Same w u) where
  pub closed : Enclosed u.call.grid u.call.box
  closed = yes-says u s.meshed s.told

  -- V and I of the count are those of the mesh call's answer, and the cells are those that the bounds speak of
  pub same-counts : w.says.counts ≡ counted (whole_of u) u.says.vertices u.says.indices
  same-counts =
      let a = accepted w.sdf w.block (done-told w.sdf w.block w.said s.counted-all) in
      let e = w.said ∙ counts-told w.sdf w.block a in
      let c = sym s.call in
      let n = done-counts u s.meshed in
      ap (λ (t : Told). t.counts) e
      ∙ (λ i. counted (whole_cells (c i).grid (c i).box) ((ap vertex_count c ∙ sym n.0) i) ((ap index_count c ∙ sym n.1) i))

  bounds : (weight : ℤ) → Bounded u weight → Between w.says.counts weight
  bounds weight b = subst (λ (c : Counts). Between c weight) (sym same-counts) (record { low = b.low; high = b.high })

  -- the sum over what the mesh call wrote
  pub sum-between : Between w.says.counts (weight_of u)
  sum-between = bounds (weight_of u) (volume-bounded u s.meshed closed)

  -- what the volume's call answers to it
  pub volume-between : (t : Volumed) → OwnVolume u t → Between w.says.counts t.says.volume
  volume-between t o = bounds t.says.volume (own-volume-bounded u t o closed)

  -- and what the weighing adds up, at any size
  pub weight-between : (t : Weighed) → OwnMesh u t → Between w.says.counts (sum_in t.says)
  weight-between t o =
      let even : Even (links (indices_of u)) =
      subst (λ (l : List ℕ). Even (links l)) (sym (indices-back u s.meshed)) (skin-law u.call.grid u.call.box u.call.flags closed) in
      subst (Between w.says.counts) (sym (own-mesh-sum u t s.meshed o ∙ pillars-sixfold (positions_of u) (indices_of u) even)) sum-between
