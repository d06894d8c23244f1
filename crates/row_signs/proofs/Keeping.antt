-- What is kept of a row that was read: its codes stand where they were put until its half of the list is used again, and the four codes of a cell
-- between two rows tell whether it is a surface cell. Assumes nothing.
use Prim.Native.Nat.{ℕ, ◌+◌, ◌-◌, ◌*◌, ◌≤◌, ◌<◌}
use native.Mathlib.Omega.{arith}
use mathlib.Core.Bool.{Bool, true, false, not, ◌&&◌, cond}
use mathlib.Core.List.{List}
use mathlib.Core.Logic.{◌⊎◌, inl, inr}
use mathlib.Core.Path.{◌≡◌, refl, sym, ap, ap₂, ◌∙◌}
use lib.Dec.{leb, eqb}
use lib.ListN.{length, get_or}
use lib.Seq.{sets, length-sets}
use lib.Ieee.{Float, nan}
use borrow.Author.Tests.{le-leb, lt-leb, eq-eqb, ne_eqb}
use Rattle.lists.specs.Lists.{one}
use Rattle.lists.proofs.Tests.{one-most, less-or-not}
use Rattle.rules.specs.Cell.{negative, negatives}
use Rattle.grid.specs.declared.Block.{Block}
use Rattle.grid.specs.Block.{box_of}
use Rattle.grid.specs.Corners.{side_between, eight_of}
use Rattle.grid.specs.Signs.{surface_at}
use Rattle.grid.proofs.Sides.{both-sides}
use Rattle.row_signs.specs.Signs.{row_length, row_start, row_points}
use Rattle.row_signs.specs.Codes.{code_at, codes_run, row_kept, Kept, Half, four_codes, mixed_code, SmallFrom}
use Rattle.row_signs.proofs.Stores.{long, stored_at, stored-apart}
use Rattle.row_signs.proofs.OneSign.{next_row}

-- ---- a row that was just read, and one that was read before

-- the row y was read to a place of the list
pub record Reads (lower upper : List Float) (k : Block) (y from : ℕ) (codes codes' : List ℕ) : Type 0 where
  pub same : codes' ≡ row_kept lower upper k y from codes

module _ {lower upper : List Float} {k : Block} {y from : ℕ} {codes codes' : List ℕ} (r : Reads lower upper k y from codes codes') where
  abbrev row : List ℕ
  row = codes_run lower upper (row_start k y) (row_points k)

  row-long : length row ≡ row_points k
  row-long = long (code_at lower upper (row_start k y)) codes from (row_points k)

  short-kept : row_points k ≤ 1024 → codes' ≡ sets codes from row
  unfolding row_kept
  short-kept h = r.same ∙ ap (λ (t : Bool). cond t (sets codes from row) codes) (le-leb (row_points k) 1024 h)

  pub kept-length : length codes' ≡ length codes
  unfolding row_kept
  kept-length = ap length r.same ∙ go (leb (row_points k) 1024)
    where
      go : (t : Bool) → length (cond t (sets codes from row) codes) ≡ length codes
      go true = length-sets codes from row
      go false = refl

  pub just-read : from + 1024 ≤ length codes → Kept lower upper k y from codes'
  just-read room =
      record {
        at = λ short j h. ap (λ (l : List ℕ). get_or l (from + j) 0) (short-kept short)
            ∙ stored_at (code_at lower upper (row_start k y)) codes from (row_points k) j 0 h (omega arith);
      }

  -- the row y' stands in another half
  pub still_kept : {y' place : ℕ} → Kept lower upper k y' place codes → (place + 1024 ≤ from) ⊎ (from + 1024 ≤ place) → Kept lower upper k y' place codes'
  still_kept {y'} {place} kept apart =
      record {
        at = λ short j h. ap (λ (l : List ℕ). get_or l (place + j) 0) (short-kept short)
            ∙ stored-apart codes row from (place + j) 0 (there short j h apart) ∙ kept.at short j h;
      }
    where
      there : row_points k ≤ 1024 → (j : ℕ) → j < row_points k → (place + 1024 ≤ from) ⊎ (from + 1024 ≤ place)
          → (place + j < from) ⊎ (from + length (codes_run lower upper (row_start k y) (row_points k)) ≤ place + j)
      there short j h (inl a) = inl (omega arith)
      there short j h (inr a) = inr (omega (arith, row-long))

-- the code of a place, by the signs of its two points
pub code_of : {lower upper : List Float} {k : Block} {codes : List ℕ} {y place : ℕ} → row_points k ≤ 1024 → Kept lower upper k y place codes → (j m i : ℕ)
    → j < row_points k → m ≡ place + j → i ≡ row_start k y + j → get_or codes m 0 ≡ one (negative (get_or lower i nan)) + 8 * one (negative (get_or upper i nan))
code_of {lower} {upper} {codes = codes} short kept j m i h em ei =
    ap (λ (p : ℕ). get_or codes p 0) em ∙ kept.at short j h
    ∙ ap (λ (p : ℕ). one (negative (get_or lower p nan)) + 8 * one (negative (get_or upper p nan))) (sym ei)

pub kept_small : {lower upper : List Float} {k : Block} {codes : List ℕ} {y place : ℕ} → row_points k ≤ 1024 → place + 1024 ≤ length codes
    → Kept lower upper k y place codes → SmallFrom codes place (row_points k)
kept_small {lower} {upper} {k} {y = y} {place} short room kept =
    record {
      held = omega arith;
      small = λ i low high. omega (
        arith,
        code_of short kept (i - place) i (row_start k y + (i - place)) (omega arith) (omega arith) refl,
        one-most (negative (get_or lower (row_start k y + (i - place)) nan)),
        one-most (negative (get_or upper (row_start k y + (i - place)) nan)),
      );
    }

-- ---- two halves

pub half-fits : {place : ℕ} → Half place → place + 1024 ≤ 2048
half-fits (inl e) = omega arith
half-fits (inr e) = omega arith

pub other_half : {place : ℕ} → Half place → Half (1024 - place)
other_half (inl e) = inr (omega arith)
other_half (inr e) = inl (omega arith)

pub halves-apart : {place : ℕ} → Half place → (place + 1024 ≤ 1024 - place) ⊎ (1024 - place + 1024 ≤ place)
halves-apart (inl e) = inl (omega arith)
halves-apart (inr e) = inr (omega arith)

-- ---- four codes

-- by the negatives among the four lower corners, and among the four upper ones
mixed-counts : (l u : ℕ) → l ≤ 4 → u ≤ 4 → mixed_code (l + 8 * u) ≡ (leb 1 (l + u) && leb (l + u) 7)
mixed-counts l u hl hu = elim (less-or-not (l + u) 1) [ inl h ↦ none h | inr h ↦ elim (less-or-not (l + u) 8) [ inl h' ↦ some h h' | inr h' ↦ all h' ] ]
  where
    none : l + u < 1 → mixed_code (l + 8 * u) ≡ (leb 1 (l + u) && leb (l + u) 7)
    none h =
        ap (λ (t : Bool). not t && not (eqb (l + 8 * u) 36)) (eq-eqb (l + 8 * u) 0 (omega arith))
        ∙ sym (ap (λ (t : Bool). t && leb (l + u) 7) (lt-leb 1 (l + u) (omega arith)))

    some : 1 ≤ l + u → l + u < 8 → mixed_code (l + 8 * u) ≡ (leb 1 (l + u) && leb (l + u) 7)
    some h h' =
        ap₂ (λ (s t : Bool). not s && not t) (ne_eqb (l + 8 * u) 0 (λ e. omega arith)) (ne_eqb (l + 8 * u) 36 (λ e. omega arith))
        ∙ sym (ap₂ ◌&&◌ (le-leb 1 (l + u) h) (le-leb (l + u) 7 (omega arith)))

    all : 8 ≤ l + u → mixed_code (l + 8 * u) ≡ (leb 1 (l + u) && leb (l + u) 7)
    all h =
        ap₂ (λ (s t : Bool). not s && not t) (ne_eqb (l + 8 * u) 0 (λ e. omega arith)) (eq-eqb (l + 8 * u) 36 (omega arith))
        ∙ sym (ap₂ ◌&&◌ (le-leb 1 (l + u) (omega arith)) (lt-leb (l + u) 7 (omega arith)))

module _ {lower upper : List Float} {k : Block} {y near far : ℕ} {codes : List ℕ} (short : row_points k ≤ 1024) (n : Kept lower upper k y near codes)
    (f : Kept lower upper k (y + 1) far codes) where
  -- whether the j-th cell of the row is a surface cell
  pub mixed-cell : (j : ℕ) → j < row_length (box_of k) → mixed_code (four_codes codes near far j) ≡ surface_at lower upper (row_start k y) k.dims.x j
  mixed-cell j h =
      let start = row_start k y in
      let row = k.dims.x in
      let e = next_row k y in
      let low = side_between lower upper (start + j) row in
      let high = side_between lower upper (start + j + 1) row in
      let a = code_of short n j (near + j) (start + j) (omega arith) refl refl in
      let b = code_of short n (j + 1) (near + j + 1) (start + j + 1) (omega arith) (omega arith) (omega arith) in
      let c = code_of short f j (far + j) (start + j + row) (omega arith) refl (omega arith) in
      let d = code_of short f (j + 1) (far + j + 1) (start + j + 1 + row) (omega arith) (omega arith) (omega arith) in
      let l : ℕ = one (negative low.a) + one (negative low.b) + one (negative high.a) + one (negative high.b) in
      let u : ℕ = one (negative low.c) + one (negative low.d) + one (negative high.c) + one (negative high.d) in
      let most-l : l ≤ 4 = omega (arith, one-most (negative low.a), one-most (negative low.b), one-most (negative high.a), one-most (negative high.b)) in
      let most-u : u ≤ 4 = omega (arith, one-most (negative low.c), one-most (negative low.d), one-most (negative high.c), one-most (negative high.d)) in
      let sum : four_codes codes near far j ≡ l + 8 * u = omega arith in
      let all : l + u ≡ negatives (eight_of low high) = omega (arith, both-sides low high) in
      ap mixed_code sum ∙ mixed-counts l u most-l most-u ∙ ap (λ (m : ℕ). leb 1 m && leb m 7) all
