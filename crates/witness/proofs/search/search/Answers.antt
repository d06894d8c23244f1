-- The invariant: what is seen from the point, and that every edge before it is right. Assumes nothing.
use Rattle.std.proofs.Common.{ℕ, ◌<◌, List, length, ◌≡◌, true, false, sym, subst, ◌∙◌}
use Rattle.std.specs.Prelude.{Some, None}
use Rattle.plan.specs.declared.Block.{Block}
use Rattle.plan.specs.Triples.{Region}
use Rattle.witness.specs.declared.axis.Axis.{Axis as Way}
use Rattle.witness.specs.declared.search.Wrong.{Wrong}
use Rattle.witness.specs.Steps.{Near, axis_of, region_of, block_at, blocks_on, Good, Searched}
use Rattle.witness.proofs.Walk.{Bounded, BeforeRight, left, step, ended}
use Rattle.witness.proofs.Refusals.{good-bounded}
use Rattle.witness.proofs.search.search.Goals as goal
use Rattle.witness.proofs.search.search.Goals.{After-moved-p}

-- the regions of the blocks, and that each is bounded, as the whole's is
bounds : (blocks : List (List ℕ)) (whole : Block) (way : Way) → Good blocks whole → (i : ℕ) → i < length blocks → Bounded (blocks_on way blocks i)
bounds blocks whole way g i h = good-bounded (axis_of way) (block_at blocks i) (g.1 i _ h)

bound : (blocks : List (List ℕ)) (whole : Block) (way : Way) (w : Region) → w ≡ region_of (axis_of way) whole → Good blocks whole → Bounded w
bound blocks whole way w e g = subst Bounded (sym e) (good-bounded (axis_of way) whole g.2)

-- a turn, from the place that it has come to
turned : (c : After-moved-p)
    → (let q = c.moved-p.result in
    Near q × BeforeRight (blocks_on c.args.axis c.args.blocks.now) (length c.args.blocks.now) c.region_on-w.result q × (left q < left c.loop-l.p))
turned c =
    let a = c.args in
    step (blocks_on a.axis a.blocks.now) (length a.blocks.now) c.region_on-w.result (bounds a.blocks.now a.whole a.axis c.requires)
    (bound a.blocks.now a.whole a.axis c.region_on-w.result c.region_on-w.ensures c.requires) c.loop-l.p c.moved-p.result c.loop-l.l
    c.loop-l.invariant.0 c.moved-p.ensures (sym c.goes_on.ensures ∙ c.loop-l-test.true) c.loop-l.invariant.1 c.loop-l.invariant.2

pub loop-l-smaller : goal.loop-l-smaller
loop-l-smaller c = (turned (goal.at.loop-l-smaller c).After-moved-p).2

pub loop-l-preserved : goal.loop-l-preserved
loop-l-preserved c =
    let t = turned (goal.at.loop-l-preserved c).After-moved-p in
    (c.look-l-in-loop-l.ensures, t.0, t.1)

pub returns-then-not-is_wrong : goal.returns-then-not-is_wrong
returns-then-not-is_wrong c =
    let a = c.args in
    subst (λ (w : Region). Searched (blocks_on a.axis a.blocks.now) (length a.blocks.now) w a.axis None) c.region_on-w.ensures
    (ended (blocks_on a.axis a.blocks.now) (length a.blocks.now) c.region_on-w.result (bounds a.blocks.now a.whole a.axis c.requires)
    (bound a.blocks.now a.whole a.axis c.region_on-w.result c.region_on-w.ensures c.requires) c.loop-l.p c.loop-l.invariant.2 c.loop-l.invariant.1 a.axis
    c.loop-l.l false c.loop-l.invariant.0 (sym c.is_wrong.ensures ∙ c.if-not-is_wrong.true) (sym c.goes_on.ensures ∙ c.loop-l-test.false))

pub returns : goal.returns
returns c =
    let a = c.args in
    let found : Wrong = record { axis = a.axis; at = c.loop-l.p; first = c.loop-l.l.first; second = c.loop-l.l.second } in
    subst (λ (w : Region). Searched (blocks_on a.axis a.blocks.now) (length a.blocks.now) w a.axis (Some found)) c.region_on-w.ensures
    (ended (blocks_on a.axis a.blocks.now) (length a.blocks.now) c.region_on-w.result (bounds a.blocks.now a.whole a.axis c.requires)
    (bound a.blocks.now a.whole a.axis c.region_on-w.result c.region_on-w.ensures c.requires) c.loop-l.p c.loop-l.invariant.2 c.loop-l.invariant.1 a.axis
    c.loop-l.l true c.loop-l.invariant.0 (sym c.is_wrong.ensures ∙ c.if-not-is_wrong.false) (sym c.goes_on.ensures ∙ c.loop-l-test.false))
