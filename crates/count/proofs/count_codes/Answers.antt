-- The invariant: the counts are those of the first j cells, and each at most j, so that it fits 32 bits. Assumes nothing.
use Prim.Native.Nat.{ℕ, ◌+◌, ◌≤◌, ◌<◌}
use native.Mathlib.Omega.{arith}
use mathlib.Core.List.{List}
use mathlib.Core.Path.{◌≡◌, refl, ap, ◌∙◌}
use Rattle.lists.specs.Lists.{one, many, run}
use Rattle.lists.proofs.Tests.{one-most}
use Rattle.row_signs.proofs.Runs.{none-counted, one_more}
use Rattle.count.specs.declared.CodeCounts.{CodeCounts}
use Rattle.row_signs.specs.Codes.{SmallFrom}
use Rattle.count.specs.Kept.{surface_code, x_code, y_code, z_code, cell_codes, counted_codes}
use Rattle.count.proofs.count_codes.Goals as goal
use Rattle.count.proofs.count_codes.Goals.{After-cell_codes-cell}

-- the codes of a cell are among the row's
within : {codes : List ℕ} {p n : ℕ} → SmallFrom codes p (n + 1) → (j : ℕ) → j < n → SmallFrom codes (p + j) 2
within s j h = record { held = let r = s.held in omega arith; small = λ i low high. s.small i (omega arith) (omega arith) }

-- what a turn adds
record Adds (codes : List ℕ) (here there j : ℕ) (cell : CodeCounts) : Type 0 where
  surface : cell.surface ≡ one (surface_code codes here there j)
  x : cell.x ≡ one (x_code codes here j)
  y : cell.y ≡ one (y_code codes here there j)
  z : cell.z ≡ one (z_code codes here j)
  few : (cell.surface ≤ 1) × (cell.x ≤ 1) × (cell.y ≤ 1) × (cell.z ≤ 1)

adds-of : (codes : List ℕ) (here there j : ℕ) {cell : CodeCounts} → cell ≡ cell_codes codes (here + j) (there + j) → Adds codes here there j cell
unfolding cell_codes
adds-of codes here there j e =
    let surface = ap (λ (t : CodeCounts). t.surface) e in
    let x = ap (λ (t : CodeCounts). t.x) e in
    let y = ap (λ (t : CodeCounts). t.y) e in
    let z = ap (λ (t : CodeCounts). t.z) e in
    record {
      surface = surface;
      x = x;
      y = y;
      z = z;
      few = (
        omega (arith, surface, one-most (surface_code codes here there j)),
        omega (arith, x, one-most (x_code codes here j)),
        omega (arith, y, one-most (y_code codes here there j)),
        omega (arith, z, one-most (z_code codes here j)),
      );
    }

adds : (c : After-cell_codes-cell) → let a = c.args in
    Adds a.codes.now a.here a.there c.loop-j.j c.cell_codes-cell.result
adds c = let a = c.args in adds-of a.codes.now a.here a.there c.loop-j.j c.cell_codes-cell.ensures

-- ---- the needs
pub loop-j-init : goal.loop-j-init
loop-j-init c =
    let a = c.args in
    let l = a.codes.now in (
      omega arith,
      (omega arith, omega arith, omega arith, omega arith),
      none-counted (surface_code l a.here a.there),
      none-counted (x_code l a.here),
      none-counted (y_code l a.here a.there),
      none-counted (z_code l a.here),
    )

pub overflow_add-surface : goal.overflow_add-surface
overflow_add-surface c = let f = (adds (goal.at.overflow_add-surface c).After-cell_codes-cell).few in omega arith

pub overflow_add-x : goal.overflow_add-x
overflow_add-x c = let f = (adds (goal.at.overflow_add-x c).After-cell_codes-cell).few in omega arith

pub overflow_add-y : goal.overflow_add-y
overflow_add-y c = let f = (adds (goal.at.overflow_add-y c).After-cell_codes-cell).few in omega arith

pub overflow_add-z : goal.overflow_add-z
overflow_add-z c = let f = (adds (goal.at.overflow_add-z c).After-cell_codes-cell).few in omega arith

pub loop-j-preserved : goal.loop-j-preserved
loop-j-preserved c =
    let a = c.args in
    let t = a.codes.now in
    let w = c.loop-j in
    let m = adds (goal.at.loop-j-preserved c).After-cell_codes-cell in
    let f = m.few in (
      omega arith,
      (omega arith, omega arith, omega arith, omega arith),
      one_more (surface_code t a.here a.there) w.j w.invariant.2 m.surface refl,
      one_more (x_code t a.here) w.j w.invariant.3 m.x refl,
      one_more (y_code t a.here a.there) w.j w.invariant.4 m.y refl,
      one_more (z_code t a.here) w.j w.invariant.5 m.z refl,
    )

pub returns : goal.returns
unfolding counted_codes
returns c =
    let a = c.args in
    let t = a.codes.now in
    let w = c.loop-j in
    let end : w.j ≡ a.n = omega arith in
    let surface = w.invariant.2 ∙ ap (λ (m : ℕ). many (surface_code t a.here a.there) (run m)) end in
    let x = w.invariant.3 ∙ ap (λ (m : ℕ). many (x_code t a.here) (run m)) end in
    let y = w.invariant.4 ∙ ap (λ (m : ℕ). many (y_code t a.here a.there) (run m)) end in
    let z = w.invariant.5 ∙ ap (λ (m : ℕ). many (z_code t a.here) (run m)) end in
    λ i. record { surface = surface i; x = x i; y = y i; z = z i }
