-- The invariant: the flag says whether a point of the part before x is stray. Assumes nothing.
use lib.Dec.{T}
use native.Mathlib.Nat.{le_trans}
use native.Mathlib.Omega.{arith}
use Rattle.rules.specs.Grid.{GridPoint, in_box}
use Rattle.grid.specs.Block.{box_of}
use Rattle.grid.proofs.Rows.{on_row}
use Rattle.grid.proofs.Bounds.{point-inside, below_length}
use Rattle.grid.proofs.Walks.{Span, Turn, turn, scan-begun, scan-more, scan-ended, point-spans}
use Rattle.skin.specs.Scan.{stray_part}
use Rattle.skin.proofs.scan.stray_part.Given.{Over}
use Rattle.skin.proofs.scan.stray_part.Goals as goal
use Rattle.skin.proofs.scan.stray_part.Goals.{In-loop-x, Start}

-- the part lies in the box
span : (g : Over) (c : Start g) → Span c.args.from c.args.end
span g c = let (_, order, last) = c.requires.x_le_from in let p = (point-spans c.requires.inside).x in record { ordered = order; small = le_trans last p.small }

-- the point of a turn
here : (g : Over) (c : In-loop-x g) → Turn c.args.from c.args.end c.loop-x.x
here g c =
    let (_, order, last) = c.requires.x_le_from in
    let p = (point-spans c.requires.inside).x in
    turn (record { ordered = order; small = le_trans last p.small }) c.loop-x.invariant.count c.loop-x-test.true

abbrev spot : (g : Over) → In-loop-x g → GridPoint
spot g c = record { x = c.loop-x.x; y = c.args.y; z = c.args.place }

within : (g : Over) (c : In-loop-x g) → T (in_box (box_of c.args.f) (spot g c))
within g c =
    let (ylow, yhigh, zlow, zhigh) = c.requires.y_le_y in
    let (low, _, last) = c.requires.x_le_from in
    let (from, end) = (here g c).here in
    on_row c.requires.inside (ylow, yhigh) (zlow, zhigh) (omega arith, omega arith)

pub loop-x-init : goal.loop-x-init
loop-x-init g c = scan-begun (span g (goal.at.loop-x-init g c).Start)

pub linearize-at-requires : goal.linearize-at-requires
linearize-at-requires g c =
    let s = (goal.at.linearize-at-requires g c).In-loop-x in
    point-inside (g.D.Distance.floats c.args.sdf.now) c.args.f c.requires.inside (spot g s) (within g s)

pub value_at-requires : goal.value_at-requires
value_at-requires g c =
    let s = (goal.at.value_at-requires g c).In-loop-x in
    rw c.linearize-at.ensures (below_length (g.D.Distance.floats c.args.sdf.now) c.args.f c.requires.inside (spot g s) (within g s))

pub loop-x-preserved : goal.loop-x-preserved
loop-x-preserved g c =
    let s = (goal.at.loop-x-preserved g c).In-loop-x in
    scan-more c.loop-x.invariant (here g s) (rw (← c.linearize-at.ensures, ← c.value_at.ensures) c.is_stray.ensures) c.either-stray.ensures

pub returns : goal.returns
unfolding stray_part
returns g c = scan-ended c.loop-x.invariant c.loop-x-test.false
