-- A row counted from the codes of its points. The changes of the owned edges are those of all the row's cells, less the first's or the last's; and the
-- tests over codes say what the signs of the distances say, since the lower sign is a code's lowest bit and the upper one its eighth. Assumes nothing.
use Prim.Native.Nat.{ℕ, suc, ◌+◌, ◌-◌, ◌*◌, ◌/◌, ◌≤◌, ◌<◌}
use native.Mathlib.Nat.{add-zero}
use native.Mathlib.Omega.{arith}
use mathlib.Core.Bool.{Bool, true, false, not, ◌&&◌, ◌||◌, cond}
use mathlib.Core.List.{List}
use mathlib.Core.Logic.{◌⊎◌, inl, inr}
use mathlib.Core.Path.{◌≡◌, refl, sym, ap, ap₂, ◌∙◌}
use lib.Dec.{ltb, eqb}
use lib.ListN.{get_or}
use lib.Ieee.{Float, nan, unlike}
use borrow.Author.Tests.{eq-eqb, ne_eqb}
use Rattle.lists.specs.Lists.{one, many, run}
use Rattle.lists.proofs.Tests.{less-or-not}
use Rattle.rules.specs.Cell.{negative}
use Rattle.rules.specs.Grid.{Box}
use Rattle.rules.specs.Faces.{Flags}
use Rattle.rules.specs.Vertices.{row_cells}
use Rattle.grid.specs.declared.Block.{Block}
use Rattle.grid.specs.Block.{box_of, flags_of}
use Rattle.grid.specs.Layers.{two_layers}
use Rattle.grid.specs.Signs.{surface_at}
use Rattle.grid.proofs.LayerWalks.{Row}
use Rattle.row_signs.specs.Signs.{row_length, row_start, row_points, cells_negatives, one_sign}
use Rattle.row_signs.specs.Codes.{Kept}
use Rattle.row_signs.proofs.Runs.{none-counted, run-most, run-same}
use Rattle.row_signs.proofs.Keeping.{code_of, mixed-cell}
use Rattle.row_signs.proofs.OneSign.{next_row}
use Rattle.count.specs.declared.OwnedEdges.{OwnedEdges}
use Rattle.count.specs.declared.CodeCounts.{CodeCounts}
use Rattle.count.specs.declared.Tally.{Tally}
use Rattle.count.specs.Runs.{changes_at, owned_edges}
use Rattle.count.specs.Tally.{tally_of}
use Rattle.count.specs.Kept.{
  one_odd,
  surface_code,
  x_code,
  y_code,
  z_code,
  cell_codes,
  counted_codes,
  owned_part,
  kept_tally,
  kept_where_mixed,
}
use Rattle.count.proofs.Runs.{without-last, without-first}
use Rattle.count.proofs.OneSign.{one-sign-counts-nothing}
use Rattle.count.proofs.Rows.{reach, row-tally}

-- ---- the owned part of a row's changes

pub part_none : (all left n own : ℕ) → own ≡ 0 → 0 ≡ owned_part all left n own
unfolding owned_part
part_none all left n own e = sym (ap (λ (t : Bool). cond t 0 (cond (eqb own n) all (all - left))) (eq-eqb own 0 e))

pub part-all : (all left n own : ℕ) → 0 < own → own ≡ n → all ≡ owned_part all left n own
unfolding owned_part
part-all all left n own h e = sym (ap₂ (λ (s t : Bool). cond s 0 (cond t all (all - left))) (ne_eqb own 0 (λ i. omega arith)) (eq-eqb own n e))

pub part-but-one : (all left n own : ℕ) → 0 < own → (own ≡ n → ⊥) → all - left ≡ owned_part all left n own
unfolding owned_part
part-but-one all left n own h d = sym (ap₂ (λ (s t : Bool). cond s 0 (cond t all (all - left))) (ne_eqb own 0 (λ i. omega arith)) (ne_eqb own n d))

-- all, none, or all but the last
last-left : (f : ℕ → Bool) (n own : ℕ) → 0 < n → (own ≡ 0) ⊎ ((own ≡ n) ⊎ (own ≡ n - 1)) → owned_part (many f (run n)) (one (f (n - 1))) n own ≡ many f (run own)
last-left f n own h owned = elim (less-or-not 0 own) [ inl some ↦ go some owned | inr none ↦ nothing (omega arith) ]
  where
    all : ℕ
    all = many f (run n)

    nothing : own ≡ 0 → owned_part (many f (run n)) (one (f (n - 1))) n own ≡ many f (run own)
    nothing e = sym (part_none (many f (run n)) (one (f (n - 1))) n own e) ∙ none-counted f ∙ ap (λ (m : ℕ). many f (run m)) (sym e)

    go : 0 < own → (own ≡ 0) ⊎ ((own ≡ n) ⊎ (own ≡ n - 1)) → owned_part (many f (run n)) (one (f (n - 1))) n own ≡ many f (run own)
    go some (inl e) = nothing e
    go some (inr (inl e)) = sym (part-all (many f (run n)) (one (f (n - 1))) n own some e) ∙ ap (λ (m : ℕ). many f (run m)) (sym e)
    go some (inr (inr e)) =
        sym (part-but-one (many f (run n)) (one (f (n - 1))) n own some (λ i. omega arith))
        ∙ omega (arith, without-last f n h)
        ∙ ap (λ (m : ℕ). many f (run m)) (sym e)

-- none, or all but the first
first-left : (f : ℕ → Bool) (n own : ℕ) → 0 < n → (own ≡ 0) ⊎ (own ≡ n - 1) → owned_part (many f (run n)) (one (f 0)) n own ≡ many (λ (j : ℕ). f (suc j)) (run own)
first-left f n own h owned = elim (less-or-not 0 own) [ inl some ↦ go some owned | inr none ↦ nothing (omega arith) ]
  where
    later : ℕ → Bool
    later j = f (suc j)

    nothing : own ≡ 0 → owned_part (many f (run n)) (one (f 0)) n own ≡ many (λ (j : ℕ). f (suc j)) (run own)
    nothing e = sym (part_none (many f (run n)) (one (f 0)) n own e) ∙ none-counted later ∙ ap (λ (m : ℕ). many later (run m)) (sym e)

    go : 0 < own → (own ≡ 0) ⊎ (own ≡ n - 1) → owned_part (many f (run n)) (one (f 0)) n own ≡ many (λ (j : ℕ). f (suc j)) (run own)
    go some (inl e) = nothing e
    go some (inr e) =
        sym (part-but-one (many f (run n)) (one (f 0)) n own some (λ i. omega arith))
        ∙ omega (arith, without-first f n h)
        ∙ ap (λ (m : ℕ). many later (run m)) (sym e)

-- how many edges of a row are owned
x-owned : (own flag : Bool) (n : ℕ) → let m = cond own (cond flag n (n - 1)) 0 in (m ≡ 0) ⊎ ((m ≡ n) ⊎ (m ≡ n - 1))
x-owned false flag n = inl refl
x-owned true true n = inr (inl refl)
x-owned true false n = inr (inr refl)

inner-owned : (own : Bool) (n : ℕ) → let m = cond own (n - 1) 0 in (m ≡ 0) ⊎ (m ≡ n - 1)
inner-owned false n = inl refl
inner-owned true n = inr refl

pub record Owned (n : ℕ) (own : OwnedEdges) : Type 0 where
  pub x : (own.x ≡ 0) ⊎ ((own.x ≡ n) ⊎ (own.x ≡ n - 1))
  pub y : (own.y ≡ 0) ⊎ (own.y ≡ n - 1)
  pub z : (own.z ≡ 0) ⊎ (own.z ≡ n - 1)

pub owned-of : (b : Box) (m : Flags) (y z : ℕ) → Owned (row_length b) (owned_edges b m y z)
unfolding owned_edges
owned-of b m y z =
    record {
      x = x-owned (ltb b.low.y y && ltb b.low.z z) m.x (row_length b);
      y = inner-owned (ltb b.low.z z && (m.y || not (eqb y (b.high.y - 1)))) (row_length b);
      z = inner-owned (ltb b.low.y y && (m.z || not (eqb z (b.high.z - 1)))) (row_length b);
    }

-- ---- a row's count from the counts of all its cells, of its first and of its last

pub record Counted (codes : List ℕ) (here there n : ℕ) (all first last : CodeCounts) : Type 0 where
  pub all-is : all ≡ counted_codes codes here there n
  pub first-is : first ≡ cell_codes codes here there
  pub last-is : last ≡ cell_codes codes (here + (n - 1)) (there + (n - 1))

-- the edges of the first cell
first-y-at : (codes : List ℕ) (here there : ℕ) {first : CodeCounts} → first ≡ cell_codes codes here there → first.y ≡ one (y_code codes here there 0)
unfolding cell_codes
first-y-at codes here there e =
    ap (λ (t : CodeCounts). t.y) e ∙ ap₂ (λ (p q : ℕ). one (one_odd (get_or codes p 0) (get_or codes q 0))) (sym (add-zero here)) (sym (add-zero there))

first-z-at : (codes : List ℕ) (here there : ℕ) {first : CodeCounts} → first ≡ cell_codes codes here there → first.z ≡ one (z_code codes here 0)
unfolding cell_codes
first-z-at codes here there e =
    ap (λ (t : CodeCounts). t.z) e ∙ ap (λ (p : ℕ). one (one_odd (get_or codes p 0) (get_or codes p 0 / 8))) (sym (add-zero here))

module _ (codes : List ℕ) (here there : ℕ) {n : ℕ} {own : OwnedEdges} (o : Owned n own) where
  pub kept-some : {all first last : CodeCounts} {ax ay az : ℕ} → Counted codes here there n all first last → 0 < n
      → ax ≡ owned_part all.x last.x n own.x → ay ≡ owned_part all.y first.y n own.y → az ≡ owned_part all.z first.z n own.z
      → ◌≡◌ {A = Tally} (record { vertices = all.surface; indices = 6 * (ax + ay + az) }) (kept_tally codes here there n own)
  unfolding kept_tally counted_codes cell_codes
  kept-some {all} {first} {last} {ax} {ay} {az} c h ex ey ez =
      let v = ap (λ (t : CodeCounts). t.surface) c.all-is in
      let x = ex ∙ ap₂ (λ (a l : ℕ). owned_part a l n own.x) (ap (λ (t : CodeCounts). t.x) c.all-is) (ap (λ (t : CodeCounts). t.x) c.last-is)
      ∙ last-left (x_code codes here) n own.x h o.x in
      let y = ey ∙ ap₂ (λ (a l : ℕ). owned_part a l n own.y) (ap (λ (t : CodeCounts). t.y) c.all-is) (first-y-at codes here there c.first-is)
      ∙ first-left (y_code codes here there) n own.y h o.y in
      let z = ez ∙ ap₂ (λ (a l : ℕ). owned_part a l n own.z) (ap (λ (t : CodeCounts). t.z) c.all-is) (first-z-at codes here there c.first-is)
      ∙ first-left (z_code codes here) n own.z h o.z in
      λ i. record { vertices = v i; indices = 6 * (x i + y i + z i) }

  -- a row without a cell
  pub kept-none : n ≡ 0 → ◌≡◌ {A = Tally} (record { vertices = 0; indices = 0 }) (kept_tally codes here there n own)
  unfolding kept_tally
  kept-none e =
      let none : (f : ℕ → Bool) (m : ℕ) → m ≡ 0 → 0 ≡ many f (run m) = λ f m e'. none-counted f ∙ ap (λ (i : ℕ). many f (run i)) (sym e') in
      let v = none (surface_code codes here there) n e in
      let x = none (x_code codes here) own.x (elim o.x [ inl q ↦ q | inr q ↦ elim q [ inl q' ↦ omega arith | inr q' ↦ omega arith ] ]) in
      let y = none (λ (j : ℕ). y_code codes here there (suc j)) own.y (elim o.y [ inl q ↦ q | inr q ↦ omega arith ]) in
      let z = none (λ (j : ℕ). z_code codes here (suc j)) own.z (elim o.z [ inl q ↦ q | inr q ↦ omega arith ]) in
      λ i. record { vertices = v i; indices = 6 * (x i + y i + z i) }

-- no cell changes more than its row, and no row more than it has cells, of whatever is owned
pub record Few (n : ℕ) (all first last : CodeCounts) : Type 0 where
  pub x : all.x ≤ n
  pub y : all.y ≤ n
  pub z : all.z ≤ n
  pub last-x : last.x ≤ all.x
  pub first-y : first.y ≤ all.y
  pub first-z : first.z ≤ all.z

pub few-of : {codes : List ℕ} {here there n : ℕ} {all first last : CodeCounts} → Counted codes here there n all first last → 0 < n → Few n all first last
unfolding counted_codes cell_codes
few-of {codes} {here} {there} {n} c h =
    let x = ap (λ (t : CodeCounts). t.x) c.all-is in
    let y = ap (λ (t : CodeCounts). t.y) c.all-is in
    let z = ap (λ (t : CodeCounts). t.z) c.all-is in
    record {
      x = omega (arith, x, run-most (x_code codes here) n);
      y = omega (arith, y, run-most (y_code codes here there) n);
      z = omega (arith, z, run-most (z_code codes here) n);
      last-x = omega (arith, x, ap (λ (t : CodeCounts). t.x) c.last-is, without-last (x_code codes here) n h);
      first-y = omega (arith, y, first-y-at codes here there c.first-is, without-first (y_code codes here there) n h);
      first-z = omega (arith, z, first-z-at codes here there c.first-is, without-first (z_code codes here) n h);
    }

pub part-most : (all left n own : ℕ) → owned_part all left n own ≤ all
unfolding owned_part
part-most all left n own = go (eqb own 0) (eqb own n)
  where
    go : (s t : Bool) → cond s 0 (cond t all (all - left)) ≤ all
    go true t = omega arith
    go false true = omega arith
    go false false = omega arith

-- ---- codes and signs

-- by the signs of two places
odd-one : (s t s' t' : Bool) → one_odd (one s + 8 * one t) (one s' + 8 * one t') ≡ unlike s s'
odd-one true true true true = refl
odd-one true true true false = refl
odd-one true true false true = refl
odd-one true true false false = refl
odd-one true false true true = refl
odd-one true false true false = refl
odd-one true false false true = refl
odd-one true false false false = refl
odd-one false true true true = refl
odd-one false true true false = refl
odd-one false true false true = refl
odd-one false true false false = refl
odd-one false false true true = refl
odd-one false false true false = refl
odd-one false false false true = refl
odd-one false false false false = refl

-- and by the two signs of one
odd-eighth : (s t : Bool) → one_odd (one s + 8 * one t) ((one s + 8 * one t) / 8) ≡ unlike s t
odd-eighth true true = refl
odd-eighth true false = refl
odd-eighth false true = refl
odd-eighth false false = refl

-- ---- by how many points are negative

pub nothing-kept : (codes : List ℕ) (here there : ℕ) (k : Block) (y z n : ℕ) → one_sign k n ≡ true
    → ◌≡◌ {A = Tally} (record { vertices = 0; indices = 0 }) (kept_where_mixed codes here there k y z n)
unfolding kept_where_mixed
nothing-kept codes here there k y z n e =
    sym (ap
    (λ (t : Bool). cond t (record { vertices = 0; indices = 0 }) (kept_tally codes here there (row_length (box_of k)) (owned_edges (box_of k) (flags_of k) y z))) e)

pub mixed-kept : (codes : List ℕ) (here there : ℕ) (k : Block) (y z n : ℕ) → one_sign k n ≡ false
    → kept_tally codes here there (row_length (box_of k)) (owned_edges (box_of k) (flags_of k) y z) ≡ kept_where_mixed codes here there k y z n
unfolding kept_where_mixed
mixed-kept codes here there k y z n e =
    sym (ap
    (λ (t : Bool). cond t (record { vertices = 0; indices = 0 }) (kept_tally codes here there (row_length (box_of k)) (owned_edges (box_of k) (flags_of k) y z))) e)

-- ---- a row by its codes

-- whether a distance is negative
abbrev sign : List Float → ℕ → Bool
sign l i = negative (get_or l i nan)

module _ {lower upper : List Float} {k : Block} {codes : List ℕ} (short : row_points k ≤ 1024) where
  module _ {y here there : ℕ} (n : Kept lower upper k y here codes) (f : Kept lower upper k (y + 1) there codes) where
    abbrev start : ℕ
    start = row_start k y

    x-test : (j : ℕ) → j < row_length (box_of k) → x_code codes here j ≡ changes_at lower start lower (start + 1) j
    x-test j h =
        let p = start + j in
        let q = start + 1 + j in
        ap₂ one_odd (code_of short n j (here + j) p (omega arith) refl refl) (code_of short n (j + 1) (here + j + 1) q (omega arith) (omega arith) (omega arith))
        ∙ odd-one (sign lower p) (sign upper p) (sign lower q) (sign upper q)

    y-test : (j : ℕ) → j < row_length (box_of k) - 1 → y_code codes here there (suc j) ≡ changes_at lower (start + 1) lower (start + 1 + k.dims.x) j
    y-test j h =
        let p = start + 1 + j in
        let q = start + 1 + k.dims.x + j in
        ap₂ one_odd (code_of short n (suc j) (here + suc j) p (omega arith) refl (omega arith))
        (code_of short f (suc j) (there + suc j) q (omega arith) refl (omega (arith, next_row k y)))
        ∙ odd-one (sign lower p) (sign upper p) (sign lower q) (sign upper q)

    z-test : (j : ℕ) → j < row_length (box_of k) - 1 → z_code codes here (suc j) ≡ changes_at lower (start + 1) upper (start + 1) j
    z-test j h =
        let p = start + 1 + j in
        ap (λ (a : ℕ). one_odd a (a / 8)) (code_of short n (suc j) (here + suc j) p (omega arith) refl (omega arith)) ∙ odd-eighth (sign lower p) (sign upper p)

    module _ {z : ℕ} (r : Row lower upper k y z) where
      -- a row is counted from the codes of its points
      pub kept_row : kept_tally codes here there (row_length (box_of k)) (owned_edges (box_of k) (flags_of k) y z)
          ≡ tally_of (two_layers lower upper k z) (box_of k) (flags_of k) (row_cells (box_of k) z y)
      unfolding kept_tally
      kept_row =
          let t = reach r refl in
          let own = owned_edges (box_of k) (flags_of k) y z in
          row-tally lower upper k r.layers r.along-y refl refl
          (run-same (surface_code codes here there) (surface_at lower upper start k.dims.x) (row_length (box_of k)) (mixed-cell short n f))
          (run-same (x_code codes here) (changes_at lower start lower (start + 1)) own.x (λ j h. x-test j (omega arith)))
          (run-same (λ (j : ℕ). y_code codes here there (suc j)) (changes_at lower (start + 1) lower (start + 1 + k.dims.x)) own.y (λ j h. y-test j (omega arith)))
          (run-same (λ (j : ℕ). z_code codes here (suc j)) (changes_at lower (start + 1) upper (start + 1)) own.z (λ j h. z-test j (omega arith)))

      -- where its points have one sign there is nothing to count
      pub kept-where-mixed : {m : ℕ} → m ≡ cells_negatives lower upper k y
          → kept_where_mixed codes here there k y z m ≡ tally_of (two_layers lower upper k z) (box_of k) (flags_of k) (row_cells (box_of k) z y)
      kept-where-mixed {m} e = go (one_sign k m) refl
        where
          go : (t : Bool) → one_sign k m ≡ t → kept_where_mixed codes here there k y z m ≡ tally_of (two_layers lower upper k z) (box_of k) (flags_of k) (row_cells (box_of k) z y)
          go true s = sym (nothing-kept codes here there k y z m s) ∙ one-sign-counts-nothing r e s
          go false s = sym (mixed-kept codes here there k y z m s) ∙ kept_row
