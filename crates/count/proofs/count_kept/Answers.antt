-- What the row's cells count, its first and its last, is what its owned edges count. Assumes nothing.
use Prim.Native.Nat.{ℕ, ◌+◌, ◌≤◌, ◌<◌}
use native.Mathlib.Omega.{arith}
use mathlib.Core.List.{List}
use mathlib.Core.Path.{ap, ◌∙◌}
use Rattle.grid.specs.Block.{box_of, flags_of}
use Rattle.row_signs.specs.Signs.{row_length}
use Rattle.count.specs.declared.OwnedEdges.{OwnedEdges}
use Rattle.row_signs.specs.Codes.{SmallFrom}
use Rattle.count.specs.Kept.{owned_part}
use Rattle.count.proofs.Kept.{owned-of, Counted, kept-some, kept-none, Few, few-of, part-most}
use Rattle.count.proofs.count_kept.Goals as goal
use Rattle.count.proofs.count_kept.Goals.{After-cell_codes-last, After-struct_known-2-1, Else-n-eq0, Start}

-- two codes of a row
pair : {codes : List ℕ} {p n : ℕ} → SmallFrom codes p (n + 1) → (j : ℕ) → j < n → SmallFrom codes (p + j) 2
pair s j h = record { held = let r = s.held in omega arith; small = λ i low high. s.small i (omega arith) (omega arith) }

first-pair : {codes : List ℕ} {p n : ℕ} → SmallFrom codes p (n + 1) → 0 < n → SmallFrom codes p 2
first-pair s h = record { held = let r = s.held in omega arith; small = λ i low high. s.small i (omega arith) (omega arith) }

abbrev length-of : After-cell_codes-last → ℕ
length-of c = row_length (box_of c.args.k)

counted : (c : After-cell_codes-last) → let a = c.args in
    Counted a.codes.now a.here a.there (length-of c) c.count_codes-all.result c.cell_codes-first.result c.cell_codes-last.result
counted c = record { all-is = c.count_codes-all.ensures; first-is = c.cell_codes-first.ensures; last-is = c.cell_codes-last.ensures }

some : (c : After-cell_codes-last) → 0 < length-of c
some c = let h = c.if-n-eq0.false in omega arith

few : (c : After-cell_codes-last) → Few (length-of c) c.count_codes-all.result c.cell_codes-first.result c.cell_codes-last.result
few c = few-of (counted c) (some c)

abbrev length-of-2 : After-struct_known-2-1 → ℕ
length-of-2 c = row_length (box_of c.args.k)

counted-2 : (c : After-struct_known-2-1) → let a = c.args in
    Counted a.codes.now a.here a.there (length-of-2 c) c.count_codes-all.result c.cell_codes-first.result c.cell_codes-last.result
counted-2 c = record { all-is = c.count_codes-all.ensures; first-is = c.cell_codes-first.ensures; last-is = c.cell_codes-last.ensures }

some-2 : (c : After-struct_known-2-1) → 0 < length-of-2 c
some-2 c = let h = c.if-n-eq0.false in omega arith

few-2 : (c : After-struct_known-2-1) → Few (length-of-2 c) c.count_codes-all.result c.cell_codes-first.result c.cell_codes-last.result
few-2 c = few-of (counted-2 c) (some-2 c)

-- the three parts are of at most 1,023 edges each
parts : (c : After-struct_known-2-1) → (c.owned_part-along_x.result ≤ 1023) × (c.owned_part-along_y.result ≤ 1023) × (c.owned_part-along_z.result ≤ 1023)
parts c =
    let n = length-of-2 c in
    let f = few-2 c in
    let short = c.requires.k_bound in
    let all = c.count_codes-all.result in
    let first = c.cell_codes-first.result in
    let last = c.cell_codes-last.result in
    let own = c.owned_edges-own.result in (
      omega (arith, c.owned_part-along_x.ensures, part-most all.x last.x n own.x),
      omega (arith, c.owned_part-along_y.ensures, part-most all.y first.y n own.y),
      omega (arith, c.owned_part-along_z.ensures, part-most all.z first.z n own.z),
    )

abbrev length-of-3 : Start → ℕ
length-of-3 c = row_length (box_of c.args.k)

abbrev length-of-4 : Else-n-eq0 → ℕ
length-of-4 c = row_length (box_of c.args.k)

some-3 : (c : Else-n-eq0) → 0 < length-of-4 c
some-3 c = let h = c.if-n-eq0.false in omega arith

pub returns-then-n-eq0 : goal.returns-then-n-eq0
returns-then-n-eq0 c =
    let a = c.args in
    kept-none a.codes.now a.here a.there (owned-of (box_of a.k) (flags_of a.k) a.y a.z) c.if-n-eq0.true

pub owned_part-along_x-requires : goal.owned_part-along_x-requires
owned_part-along_x-requires c = (few c).last-x

pub owned_part-along_y-requires : goal.owned_part-along_y-requires
owned_part-along_y-requires c = (few (goal.at.owned_part-along_y-requires c).After-cell_codes-last).first-y

pub owned_part-along_z-requires : goal.owned_part-along_z-requires
owned_part-along_z-requires c = (few (goal.at.owned_part-along_z-requires c).After-cell_codes-last).first-z

pub overflow_add-flat : goal.overflow_add-flat
overflow_add-flat c = let p = parts c in omega arith

pub overflow_add-edges : goal.overflow_add-edges
overflow_add-edges c = let p = parts c in omega arith

pub overflow_mul-kept_indices : goal.overflow_mul-kept_indices
overflow_mul-kept_indices c = let p = parts c in omega arith

pub returns : goal.returns
returns c =
    let a = c.args in
    let n = length-of-3 (goal.at.returns c).Start in
    let all = c.count_codes-all.result in
    let first = c.cell_codes-first.result in
    let last = c.cell_codes-last.result in
    let o = c.owned_edges-own.ensures in
    kept-some a.codes.now a.here a.there (owned-of (box_of a.k) (flags_of a.k) a.y a.z) (counted (goal.at.returns c).After-cell_codes-last) (some-3 (goal.at.returns c).Else-n-eq0)
    (c.owned_part-along_x.ensures ∙ ap (λ (t : OwnedEdges). owned_part all.x last.x n t.x) o)
    (c.owned_part-along_y.ensures ∙ ap (λ (t : OwnedEdges). owned_part all.y first.y n t.y) o)
    (c.owned_part-along_z.ensures ∙ ap (λ (t : OwnedEdges). owned_part all.z first.z n t.z) o)
