-- The row's runs lie in the two layers, and what they count is what the row's cells count. Assumes nothing.
use Prim.Native.Nat.{◌+◌, ◌-◌, ◌*◌, ◌≤◌}
use native.Mathlib.Omega.{arith}
use mathlib.Core.Path.{refl, sym, ap, ◌∙◌}
use mathlib.Core.List.{List}
use lib.Ieee.{Float}
use lib.ListN.{length}
use Rattle.grid.specs.Block.{box_of}
use Rattle.grid.proofs.Parts.{length_part}
use Rattle.grid.proofs.Walks.{cell-spans}
use Rattle.grid.proofs.Layers.{somewhere}
use Rattle.grid.proofs.LayerWalks.{Row}
use Rattle.count.specs.declared.OwnedEdges.{OwnedEdges}
use Rattle.row_signs.specs.Signs.{row_length}
use Rattle.count.proofs.Runs.{changes-part}
use Rattle.count.proofs.Rows.{Reach, reach, row-tally}
use Rattle.count.proofs.count_row.Given.{Over}
use Rattle.count.proofs.count_row.Goals as goal
use Rattle.count.proofs.count_row.Goals.{After-owned_edges-own, Start}

abbrev lower_of : (g : Over) → Start g → List Float
lower_of g c = let a = c.args in g.D.Distance.floats a.lower.now

abbrev upper_of : (g : Over) → Start g → List Float
upper_of g c = let a = c.args in g.D.Distance.floats a.upper.now

row : (g : Over) (c : Start g) → Row (lower_of g c) (upper_of g c) c.args.k c.args.y c.args.z
row g c = record { layers = c.requires.in_layers; along-y = c.requires.y_le_y }

there : (g : Over) (c : Start g) → let a = c.args in Reach (lower_of g c) (upper_of g c) a.k a.y a.z (a.k.low.x + a.k.dims.x * a.y)
there g c = reach (row g c) refl

abbrev lower_of-2 : (g : Over) → After-owned_edges-own g → List Float
lower_of-2 g c = let a = c.args in g.D.Distance.floats a.lower.now

abbrev upper_of-2 : (g : Over) → After-owned_edges-own g → List Float
upper_of-2 g c = let a = c.args in g.D.Distance.floats a.upper.now

row-2 : (g : Over) (c : After-owned_edges-own g) → Row (lower_of-2 g c) (upper_of-2 g c) c.args.k c.args.y c.args.z
row-2 g c = record { layers = c.requires.in_layers; along-y = c.requires.y_le_y }

there-2 : (g : Over) (c : After-owned_edges-own g) → let a = c.args in Reach (lower_of-2 g c) (upper_of-2 g c) a.k a.y a.z (a.k.low.x + a.k.dims.x * a.y)
there-2 g c = reach (row-2 g c) refl

-- whatever is owned, no more than the row has
few : (g : Over) (c : After-owned_edges-own g) → let o = c.owned_edges-own.result in let n = row_length (box_of c.args.k) in
    (o.x ≤ n) × (o.y ≤ n - 1) × (o.z ≤ n - 1)
few g c =
    let r = there-2 g c in
    let x = ap (λ (o : OwnedEdges). o.x) c.owned_edges-own.ensures in
    let y = ap (λ (o : OwnedEdges). o.y) c.owned_edges-own.ensures in
    let z = ap (λ (o : OwnedEdges). o.z) c.owned_edges-own.ensures in
    (omega arith, omega arith, omega arith)

pub overflow_sub-n : goal.overflow_sub-n
overflow_sub-n g c = (cell-spans (somewhere c.requires.in_layers)).x.ordered

pub owned_edges-own-requires : goal.owned_edges-own-requires
owned_edges-own-requires g c =
    ((cell-spans (somewhere c.requires.in_layers)).x.ordered, (c.requires.y_le_y.1, c.requires.in_layers.here.1))

pub surface_cells-surface-requires-clause-row_in_bounds : goal.surface_cells-surface-requires-clause-row_in_bounds
surface_cells-surface-requires-clause-row_in_bounds g c =
    let r = there g (goal.at.surface_cells-surface-requires-clause-row_in_bounds g c).Start in
    let o = few g (goal.at.surface_cells-surface-requires-clause-row_in_bounds g c).After-owned_edges-own in (omega arith, omega arith)

pub surface_cells-surface-requires-clause-n_bound : goal.surface_cells-surface-requires-clause-n_bound
surface_cells-surface-requires-clause-n_bound g c = let r = there g (goal.at.surface_cells-surface-requires-clause-n_bound g c).Start in omega arith

pub run-x_low-requires : goal.run-x_low-requires
run-x_low-requires g c =
    let r = there g (goal.at.run-x_low-requires g c).Start in
    let o = few g (goal.at.run-x_low-requires g c).After-owned_edges-own in omega arith

pub run-x_high-requires : goal.run-x_high-requires
run-x_high-requires g c =
    let r = there g (goal.at.run-x_high-requires g c).Start in
    let o = few g (goal.at.run-x_high-requires g c).After-owned_edges-own in omega arith

pub changes-along_x-requires-clause-n_bound : goal.changes-along_x-requires-clause-n_bound
changes-along_x-requires-clause-n_bound g c =
    let a = c.args in
    let r = there g (goal.at.changes-along_x-requires-clause-n_bound g c).Start in
    let o = few g (goal.at.changes-along_x-requires-clause-n_bound g c).After-owned_edges-own in
    let at = a.k.low.x + a.k.dims.x * a.y in
    let own = c.owned_edges-own.result.x in
    omega (arith, ap length c.run-x_low.ensures ∙ length_part (at) own (g.D.Distance.floats a.lower.now) (omega arith))

pub changes-along_x-requires-clause-same_length : goal.changes-along_x-requires-clause-same_length
changes-along_x-requires-clause-same_length g c =
    let a = c.args in
    let r = there g (goal.at.changes-along_x-requires-clause-same_length g c).Start in
    let o = few g (goal.at.changes-along_x-requires-clause-same_length g c).After-owned_edges-own in
    let at = a.k.low.x + a.k.dims.x * a.y in
    let own = c.owned_edges-own.result.x in
    ap length c.run-x_low.ensures ∙ length_part (at) own (g.D.Distance.floats a.lower.now) (omega arith) ∙ sym (ap length c.run-x_high.ensures ∙ length_part (at + 1) own (g.D.Distance.floats a.lower.now) (omega arith))

pub run-y_low-requires : goal.run-y_low-requires
run-y_low-requires g c =
    let r = there g (goal.at.run-y_low-requires g c).Start in
    let o = few g (goal.at.run-y_low-requires g c).After-owned_edges-own in omega arith

pub run-y_high-requires : goal.run-y_high-requires
run-y_high-requires g c =
    let r = there g (goal.at.run-y_high-requires g c).Start in
    let o = few g (goal.at.run-y_high-requires g c).After-owned_edges-own in omega arith

pub changes-along_y-requires-clause-n_bound : goal.changes-along_y-requires-clause-n_bound
changes-along_y-requires-clause-n_bound g c =
    let a = c.args in
    let r = there g (goal.at.changes-along_y-requires-clause-n_bound g c).Start in
    let o = few g (goal.at.changes-along_y-requires-clause-n_bound g c).After-owned_edges-own in
    let at = a.k.low.x + a.k.dims.x * a.y in
    let own = c.owned_edges-own.result.y in
    omega (arith, ap length c.run-y_low.ensures ∙ length_part (at + 1) own (g.D.Distance.floats a.lower.now) (omega arith))

pub changes-along_y-requires-clause-same_length : goal.changes-along_y-requires-clause-same_length
changes-along_y-requires-clause-same_length g c =
    let a = c.args in
    let r = there g (goal.at.changes-along_y-requires-clause-same_length g c).Start in
    let o = few g (goal.at.changes-along_y-requires-clause-same_length g c).After-owned_edges-own in
    let at = a.k.low.x + a.k.dims.x * a.y in
    let own = c.owned_edges-own.result.y in
    ap length c.run-y_low.ensures ∙ length_part (at + 1) own (g.D.Distance.floats a.lower.now) (omega arith) ∙ sym (ap length c.run-y_high.ensures ∙ length_part (at + 1 + a.k.dims.x) own (g.D.Distance.floats a.lower.now) (omega arith))

pub run-z_low-requires : goal.run-z_low-requires
run-z_low-requires g c =
    let r = there g (goal.at.run-z_low-requires g c).Start in
    let o = few g (goal.at.run-z_low-requires g c).After-owned_edges-own in omega arith

pub run-z_high-requires : goal.run-z_high-requires
run-z_high-requires g c =
    let r = there g (goal.at.run-z_high-requires g c).Start in
    let o = few g (goal.at.run-z_high-requires g c).After-owned_edges-own in omega arith

pub changes-along_z-requires-clause-n_bound : goal.changes-along_z-requires-clause-n_bound
changes-along_z-requires-clause-n_bound g c =
    let a = c.args in
    let r = there g (goal.at.changes-along_z-requires-clause-n_bound g c).Start in
    let o = few g (goal.at.changes-along_z-requires-clause-n_bound g c).After-owned_edges-own in
    let at = a.k.low.x + a.k.dims.x * a.y in
    let own = c.owned_edges-own.result.z in
    omega (arith, ap length c.run-z_low.ensures ∙ length_part (at + 1) own (g.D.Distance.floats a.lower.now) (omega arith))

pub changes-along_z-requires-clause-same_length : goal.changes-along_z-requires-clause-same_length
changes-along_z-requires-clause-same_length g c =
    let a = c.args in
    let r = there g (goal.at.changes-along_z-requires-clause-same_length g c).Start in
    let o = few g (goal.at.changes-along_z-requires-clause-same_length g c).After-owned_edges-own in
    let at = a.k.low.x + a.k.dims.x * a.y in
    let own = c.owned_edges-own.result.z in
    ap length c.run-z_low.ensures ∙ length_part (at + 1) own (g.D.Distance.floats a.lower.now) (omega arith) ∙ sym (ap length c.run-z_high.ensures ∙ length_part (at + 1) own (g.D.Distance.floats a.upper.now) (omega arith))

pub returns : goal.returns
returns g c =
    let a = c.args in
    let r = there g (goal.at.returns g c).Start in
    let o = few g (goal.at.returns g c).After-owned_edges-own in
    let at = a.k.low.x + a.k.dims.x * a.y in
    let own = c.owned_edges-own.result in
    let along-x = c.changes-along_x.ensures
    ∙ changes-part (g.D.Distance.floats a.lower.now) _ (g.D.Distance.floats a.lower.now) _ (at) (at + 1) own.x (omega arith) c.run-x_low.ensures c.run-x_high.ensures in
    let along-y = c.changes-along_y.ensures
    ∙ changes-part (g.D.Distance.floats a.lower.now) _ (g.D.Distance.floats a.lower.now) _ (at + 1) (at + 1 + a.k.dims.x) own.y (omega arith) c.run-y_low.ensures c.run-y_high.ensures in
    let along-z = c.changes-along_z.ensures
    ∙ changes-part (g.D.Distance.floats a.lower.now) _ (g.D.Distance.floats a.upper.now) _ (at + 1) (at + 1) own.z (omega arith) c.run-z_low.ensures c.run-z_high.ensures in
    row-tally (lower_of g (goal.at.returns g c).Start) (upper_of g (goal.at.returns g c).Start) a.k c.requires.in_layers c.requires.y_le_y refl c.owned_edges-own.ensures c.surface_cells-surface.ensures
    along-x along-y along-z
