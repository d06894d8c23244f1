-- `levels::rising::rise_box` meets its contract. The invariant: the columns have their levels up to the layer before z. Assumes nothing.
use Rattle.std.proofs.Common.{◌≡◌, ◌+◌, ◌≤◌, List, length, refl, ◌∙◌}
use lib.Ieee.{Float}
use Rattle.rules.proofs.Indexes.{box-fits}
use Rattle.grid.specs.Block.{point, box_of}
use Rattle.grid.proofs.Walks.{Turn, turn, begun, ended, through}
use Rattle.levels.proofs.Layers.{none_more, layer-of-grid, layers-done, GridPlaces, grid-places, laid-at, laid_on, few-fits, above-one}
use Rattle.levels.proofs.rising.rise_box.Given.{Over}
use Rattle.levels.proofs.rising.rise_box.Goals as goal
use Rattle.levels.proofs.rising.rise_box.Goals.{At-loop-z, In-loop-z, Start}

abbrev grid-of : (g : Over) → Start g → List Float
grid-of g c = let a = c.args in g.D.Distance.floats a.sdf.now

places : (g : Over) (c : Start g) → GridPlaces c.args.k (length (grid-of g c))
places g c = grid-places (grid-of g c) c.args.k c.requires.inside

lowest : (g : Over) (c : Start g) → c.args.k.low.z ≤ c.args.k.high.z
lowest g c = (box-fits (point c.args.k.dims) (box_of c.args.k) c.requires.inside.box).z.0

abbrev grid-of-2 : (g : Over) → In-loop-z g → List Float
grid-of-2 g c = let a = c.args in g.D.Distance.floats a.sdf.now

places-2 : (g : Over) (c : In-loop-z g) → GridPlaces c.args.k (length (grid-of-2 g c))
places-2 g c = grid-places (grid-of-2 g c) c.args.k c.requires.inside

here : (g : Over) (c : In-loop-z g) → let k = c.args.k in Turn (k.low.z + 1) (k.high.z + 1) c.loop-z.z
here g c = turn (places-2 g c).span c.loop-z.invariant.0 c.loop-z-test.true

abbrev first_out : (g : Over) → At-loop-z g → List Float
first_out g c = c.first_layer.new.out

first-kept : (g : Over) (c : At-loop-z g) → length (first_out g c) ≡ length c.args.out.now
first-kept g c = c.first_layer.auto.out

low : (g : Over) (c : In-loop-z g) → 1 ≤ c.loop-z.z
low g c = above-one c.args.k.low.z c.loop-z.z (here g c).here.0

pub overflow_add-from : goal.overflow_add-from
overflow_add-from g c = (places g (goal.at.overflow_add-from g c).Start).from

pub overflow_add-end : goal.overflow_add-end
overflow_add-end g c = (places g (goal.at.overflow_add-end g c).Start).end

pub overflow_mul-plane-2 : goal.overflow_mul-plane-2
overflow_mul-plane-2 g c =
    few-fits ((places g (goal.at.overflow_mul-plane-2 g c).Start).within c.args.k.low.z (lowest g (goal.at.overflow_mul-plane-2 g c).Start)).1

pub first_layer-requires-clause-laid : goal.first_layer-requires-clause-laid
first_layer-requires-clause-laid g c =
    laid-at (places g (goal.at.first_layer-requires-clause-laid g c).Start) c.args.k.low.z (lowest g (goal.at.first_layer-requires-clause-laid g c).Start)

pub loop-z-init : goal.loop-z-init
loop-z-init g c =
    (begun (places g (goal.at.loop-z-init g c).Start).span, refl, none_more (grid-of g (goal.at.loop-z-init g c).Start) c.args.k c.first_layer.new.out)

pub overflow_mul-upper : goal.overflow_mul-upper
overflow_mul-upper g c = few-fits ((places g (goal.at.overflow_mul-upper g c).Start).within c.loop-z.z (through (here g c)).1).1

pub rise_layer-requires-clause-laid : goal.rise_layer-requires-clause-laid
rise_layer-requires-clause-laid g c =
    let l = c.loop-z in laid_on (places g (goal.at.rise_layer-requires-clause-laid g c).Start) l.z (low g (goal.at.rise_layer-requires-clause-laid g c).In-loop-z) (through (here g (goal.at.rise_layer-requires-clause-laid g c).In-loop-z)).1

pub loop-z-preserved : goal.loop-z-preserved
loop-z-preserved g c =
    let l = c.loop-z in (
      (here g (goal.at.loop-z-preserved g c).In-loop-z).next,
      c.rise_layer.auto.out ∙ l.invariant.1,
      layer-of-grid (grid-of g (goal.at.loop-z-preserved g c).Start) c.args.k l.z (here g (goal.at.loop-z-preserved g c).In-loop-z).here.0 (first_out g (goal.at.loop-z-preserved g c).At-loop-z) l.invariant.2 c.rise_layer.ensures,
    )

pub returns : goal.returns
returns g c =
    let l = c.loop-z in
    layers-done (grid-of g (goal.at.returns g c).Start) c.args.k c.args.out.now c.first_layer.ensures l.invariant.2 (ended l.invariant.0 c.loop-z-test.false)
