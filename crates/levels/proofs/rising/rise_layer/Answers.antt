-- `levels::rising::rise_layer` meets its contract. The invariant: the columns of the rows before y are changed, and the rest are old. Assumes nothing.
use Rattle.std.proofs.Common.{◌≡◌, ◌-◌, ◌≤◌, take, drop, arith, ℕ, ◌+◌, List, length, sym, refl, ap, ◌∙◌}
use lib.Ieee.{Float}
use Rattle.grid.proofs.Walks.{Turn, turn, begun, through, end_fits}
use Rattle.grid.specs.Block.{box_of}
use Rattle.grid.proofs.Places.{as-long, part-of-grid}
use Rattle.levels.specs.Columns.{across, changed}
use Rattle.levels.specs.Fits.{column_step}
use Rattle.levels.proofs.Changed.{changed-none}
use Rattle.levels.proofs.Rows.{row_at, row_to, row-lent, RowPlace, row-place, row-span, layer-more, none_below, point-span, row-held}
use Rattle.levels.proofs.rising.rise_layer.Given.{Over}
use Rattle.levels.proofs.rising.rise_layer.Goals as goal
use Rattle.levels.proofs.rising.rise_layer.Goals.{In-loop-y, Start}

abbrev lower_of : (g : Over) → Start g → List Float
lower_of g c = let a = c.args in g.D.Distance.floats a.lower.now

abbrev upper_of : (g : Over) → Start g → List Float
upper_of g c = let a = c.args in g.D.Distance.floats a.upper.now

back : (p n : ℕ) → p + n - p ≡ n
back p n = omega arith

here : (g : Over) (c : In-loop-y g) → let k = c.args.k in Turn k.low.y (k.high.y + 1) c.loop-y.y
here g c = turn (row-span c.args.k c.requires.roomy) c.loop-y.invariant.0 c.loop-y-test.true

row : (g : Over) (c : In-loop-y g) → RowPlace c.args.k c.loop-y.y
row g c =
    let (low, high) = through (here g c) in
    row-place c.args.k c.requires.roomy c.loop-y.y low high

pub overflow_add-end : goal.overflow_add-end
overflow_add-end g c = end_fits (row-span c.args.k c.requires.roomy)

pub overflow_add-n : goal.overflow_add-n
overflow_add-n g c = end_fits (point-span c.args.k c.requires.roomy)

pub overflow_sub-n : goal.overflow_sub-n
overflow_sub-n g c = (point-span c.args.k c.requires.roomy).ordered

pub loop-y-init : goal.loop-y-init
loop-y-init g c =
    let k = c.args.k in
    let f = column_step k (lower_of g (goal.at.loop-y-init g c).Start) (upper_of g (goal.at.loop-y-init g c).Start) c.args.a c.args.b c.args.z in
    let old = c.args.out.now in
    (begun (row-span k c.requires.roomy), refl, sym (ap (λ (m : ℕ). changed f 0 m old) (none_below k) ∙ changed-none f 0 old))

-- the row's two parts end in the lists
in-lower : (g : Over) (c : In-loop-y g) → c.args.a + row_at c.args.k c.loop-y.y + across (box_of c.args.k) ≤ length c.args.lower.now
in-lower g c =
    let h = row-held (row g c) c.args.a (length (g.D.Distance.floats c.args.lower.now)) c.requires.laid.below in
    omega (arith, h, as-long g.met.D.Distance.floats_are c.args.lower.now)

in-upper : (g : Over) (c : In-loop-y g) → c.args.b + row_at c.args.k c.loop-y.y + across (box_of c.args.k) ≤ length c.args.upper.now
in-upper g c =
    let h = row-held (row g c) c.args.b (length (g.D.Distance.floats c.args.upper.now)) c.requires.laid.here in
    omega (arith, h, as-long g.met.D.Distance.floats_are c.args.upper.now)

pub offset_bounds-lower-a : goal.offset_bounds-lower-a
offset_bounds-lower-a g c = let h = in-lower g (goal.at.offset_bounds-lower-a g c).In-loop-y in omega arith

pub slice_bounds-rise_row-end : goal.slice_bounds-rise_row-end
slice_bounds-rise_row-end g c = let h = in-lower g (goal.at.slice_bounds-rise_row-end g c).In-loop-y in omega arith

pub offset_bounds-upper-b : goal.offset_bounds-upper-b
offset_bounds-upper-b g c = let h = in-upper g (goal.at.offset_bounds-upper-b g c).In-loop-y in omega arith

pub slice_bounds-rise_row-end-in-loop-y : goal.slice_bounds-rise_row-end-in-loop-y
slice_bounds-rise_row-end-in-loop-y g c = let h = in-upper g (goal.at.slice_bounds-rise_row-end-in-loop-y g c).In-loop-y in omega arith

pub loop-y-preserved : goal.loop-y-preserved
loop-y-preserved g c =
    let l = c.loop-y in
    let a = c.args in
    let are = g.met.D.Distance.floats_are in
    let lower = g.D.Distance.floats a.lower.now in
    let upper = g.D.Distance.floats a.upper.now in
    let turn = (goal.at.loop-y-preserved g c).In-loop-y in
    let n = across (box_of a.k) in
    let p = a.a + row_at a.k l.y in
    let q = a.b + row_at a.k l.y in
    let h : p + n ≤ length lower = row-held (row g turn) a.a (length lower) c.requires.laid.below in
    let low = part-of-grid are a.lower.now p (p + n) ∙ ap (λ (m : ℕ). take m (drop p lower)) (back p n) in
    let high = part-of-grid are a.upper.now q (q + n) ∙ ap (λ (m : ℕ). take m (drop q upper)) (back q n) in (
      (here g turn).next,
      c.rise_row.auto.out ∙ l.invariant.1,
      layer-more a.k (row g turn) (here g turn).here.0 lower upper a.a a.b a.z a.out.now l.invariant.2
          (c.rise_row.ensures ∙ row-lent lower upper p q n a.z (row_to a.k l.y) l.out low high h),
    )
