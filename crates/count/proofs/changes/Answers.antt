-- The invariant: the edges so far are counted, the ends that are left are those behind them, and the count is at most as many, so that it fits 32 bits.
-- Assumes nothing.
use Prim.Native.Nat.{ℕ, ◌+◌, ◌<◌}
use native.Mathlib.Nat.{zero-add}
use native.Mathlib.Omega.{arith}
use mathlib.Core.Bool.{Bool}
use mathlib.Core.List.{List, ◌∷◌}
use mathlib.Core.Path.{◌≡◌, refl, sym, ap, ap₂, ◌∙◌}
use lib.Ieee.{nan, unlike}
use lib.ListN.{length, get_or, drop, length-drop}
use Rattle.std.proofs.lemmas.List.{drop_more, length_push}
use Rattle.std.proofs.lemmas.Iterator.{empty_from_Zip}
use Rattle.lists.specs.Lists.{one}
use Rattle.rules.specs.Cell.{negative}
use Rattle.grid.proofs.Places.{as-long, float-at}
use Rattle.count.specs.Runs.{changes_at, changes_run}
use Rattle.row_signs.proofs.Runs.{none-counted, one_more}
use Rattle.count.proofs.changes.Goals as goal

-- ---- one end more is taken from what is left of a list
within : {A : Type 0} (l rest : List A) (x : A) (j : ℕ) → drop j l ≡ x ∷ rest → j < length l
within l rest x j e = omega (arith, length-drop j l, ap length e)

split : {A : Type 0} (l rest : List A) (x : A) (j : ℕ) → drop j l ≡ x ∷ rest → get_or l j x ∷ drop (j + 1) l ≡ x ∷ rest
split l rest x j e = sym (drop_more l j x (within l rest x j e)) ∙ e

taken : {A : Type 0} (l rest : List A) (x : A) (j : ℕ) → drop j l ≡ x ∷ rest → x ≡ get_or l j x
taken l rest x j e = sym (ap (λ (s : List _). get_or s 0 x) (split l rest x j e))

left : {A : Type 0} (l rest : List A) (x : A) (j : ℕ) → drop j l ≡ x ∷ rest → drop (j + 1) l ≡ rest
left l rest x j e = ap (drop 1) (split l rest x j e)

-- ---- the needs
pub loop-low-init : goal.loop-low-init
loop-low-init g c =
    let a = c.args in
    let gives = c.into_iter-low-iterator.ensures.into_iter_gives in
    let zipped = c.zip-low-items.ensures in (
      sym (ap (λ z. z.a.rest.now) gives ∙ ap (λ s. s.rest.now) zipped.first ∙ c.iter.ensures.rest),
      sym (ap (λ z. z.b.rest.now) gives ∙ zipped.second.0),
      omega arith,
      omega arith,
      none-counted (changes_at (g.D.Distance.floats a.a.now) 0 (g.D.Distance.floats a.b.now) 0),
    )

pub overflow_add-count : goal.overflow_add-count
overflow_add-count g c =
    let w = c.loop-low in
    let t = as-long g.met.D.Distance.floats_are c.args.a.now in
    omega (arith, t, w.invariant.3, c.requires.n_bound, c.counted-count.ensures.upper_bound, w.invariant.2)

pub loop-low-preserved : goal.loop-low-preserved
loop-low-preserved g c =
    let are = g.met.D.Distance.floats_are in
    let a = c.args.a.now in
    let b = c.args.b.now in
    let floats-a = g.D.Distance.floats a in
    let floats-b = g.D.Distance.floats b in
    let w = c.loop-low in
    let j = length w.yielded in
    let on = length_push w.yielded (c.in-Some.field-0-0, c.in-Some.field-0-1) in
    let x = c.in-Some.field-0-0.now in
    let y = c.in-Some.field-0-1.now in
    let steps = c.in-Some.ensures.steps in
    let ea = w.invariant.0 ∙ steps.0 in
    let eb = w.invariant.1 ∙ steps.1 in
    let ia = within a _ x j ea in
    let ib = within b _ y j eb in
    let low = c.float.ensures ∙ float-at are a x nan (omega (arith, as-long are a, ia)) (taken a _ x j ea) ∙ sym (ap (λ (i : ℕ). get_or floats-a i nan) (zero-add j)) in
    let high = c.float-in-loop-low.ensures ∙ float-at are b y nan (omega (arith, as-long are b, ib)) (taken b _ y j eb) ∙ sym (ap (λ (i : ℕ). get_or floats-b i nan) (zero-add j)) in
    let more = c.counted-count.ensures.value
    ∙ ap₂ (λ (s t : Bool). one (unlike s t)) (c.negative.ensures ∙ ap negative low) (c.negative-in-loop-low.ensures ∙ ap negative high) in (
      ap (λ (n : ℕ). drop n a) on ∙ left a _ x j ea,
      ap (λ (n : ℕ). drop n b) on ∙ left b _ y j eb,
      omega (arith, on, ia),
      omega (arith, on, w.invariant.3, c.counted-count.ensures.upper_bound),
      one_more (changes_at floats-a 0 floats-b 0) j w.invariant.4 more refl ∙ sym (ap (λ (n : ℕ). changes_run floats-a 0 floats-b 0 n) on),
    )

pub returns : goal.returns
returns g c =
    let are = g.met.D.Distance.floats_are in
    let a = c.args.a.now in
    let b = c.args.b.now in
    let w = c.loop-low in
    let j = length w.yielded in
    let la = length-drop j a in
    let lb = length-drop j b in
    let spent = empty_from_Zip _ c.next.new.self _ c.in-None.is c.next.ensures.steps
    (omega (arith, as-long are a, as-long are b, c.requires.same_length, la, lb, ap length w.invariant.0, ap length w.invariant.1)) in
    let end : j ≡ length (g.D.Distance.floats a) = omega (arith, as-long are a, la, ap length w.invariant.0, ap length spent.0, w.invariant.2) in
    w.invariant.4 ∙ ap (λ (m : ℕ). changes_run (g.D.Distance.floats a) 0 (g.D.Distance.floats b) 0 m) end
