-- A layer more on the columns: the lowest one, and each of a grid's layers on those below it. Assumes nothing.
use Rattle.std.proofs.Common.{◌≡◌, ℕ, zero, suc, ◌+◌, ◌-◌, ◌*◌, ◌≤◌, List, length, get_or, sym, refl, ap, ◌∙◌, ap₂, le_trans, le_of_eq, le_refl, mul-le-mul_left, mul-one, mul-add, arith, w32, w64, Fits}
use lib.Ieee.{Float, nan}
use Rattle.rules.specs.Grid.{value}
use Rattle.rules.proofs.Indexes.{box-fits, small, right-length}
use Rattle.grid.specs.declared.Block.{Block}
use Rattle.grid.specs.Block.{point, box_of, field_of}
use Rattle.grid.specs.Inside.{Inside}
use Rattle.grid.proofs.Bounds.{few}
use Rattle.grid.proofs.Walks.{Span}
use Rattle.levels.specs.Column.{no_level, level_step, first_level, level_up_to}
use Rattle.levels.specs.Columns.{columns, in_column, level_of, changed}
use Rattle.levels.specs.Fits.{Roomy, Laid, column_step, lowest_step}
use Rattle.levels.proofs.Changed.{changed-still, changed-same, changed-twice}
use Rattle.levels.proofs.Steps.{lowest-is}

-- ---- the lowest layer: none so far, and then as if it stood on itself

pub lowest-layer : (k : Block) (upper : List Float) (b z : ℕ) (old : List Float) {n : ℕ} {out last : List Float} → n ≡ columns (box_of k)
    → out ≡ changed (λ _ _. no_level) 0 n old → last ≡ changed (column_step k upper upper b b z) 0 (columns (box_of k)) out
    → last ≡ changed (lowest_step k upper b z) 0 (columns (box_of k)) old
lowest-layer k upper b z old {n} e d el =
    let C = columns (box_of k) in
    let f = column_step k upper upper b b z in
    el
    ∙ (ap (λ (l : List Float). changed f 0 C l) (d ∙ ap (λ (m : ℕ). changed (λ _ _. no_level) 0 m old) e)
    ∙ (changed-twice (λ _ _. no_level) f 0 C old
    ∙ changed-same (λ j _. f j no_level) (lowest_step k upper b z) 0 C old (λ j h l. lowest-is z _)))

-- ---- the layers of a grid

-- X·Y
abbrev pub plane : Block → ℕ
plane k = k.dims.x * k.dims.y

-- so many points more on a column, whose level up to `low` is known
unfoldable pub risen : (ℕ → Float) → ℕ → ℕ → Float → Float
risen d low zero old = old
risen d low (suc n) old = level_step (suc (low + n)) (d (low + n)) (d (suc (low + n))) (risen d low n old)

risen-is : (d : ℕ → Float) (low n : ℕ) → risen d low n (first_level low (d low)) ≡ level_up_to d low n
unfolding risen level_up_to
risen-is d low zero = refl
risen-is d low (suc n) = ap (level_step (suc (low + n)) (d (low + n)) (d (suc (low + n)))) (risen-is d low n)

-- n layers more on the columns of a box
abbrev pub columns_to : List Float → Block → ℕ → ℕ → Float → Float
columns_to grid k n j old = risen (λ (z : ℕ). value (field_of grid k) (in_column (box_of k) j z)) k.low.z n old

pub none_more : (grid : List Float) (k : Block) (out : List Float) → out ≡ changed (columns_to grid k (k.low.z + 1 - (k.low.z + 1))) 0 (columns (box_of k)) out
unfolding risen
none_more grid k out =
    let none : k.low.z + 1 - (k.low.z + 1) ≡ 0 = omega arith in
    let C = columns (box_of k) in
    sym (ap (λ (n : ℕ). changed (columns_to grid k n) 0 C out) none ∙ changed-still C out)

module _ (grid : List Float) (k : Block) (z : ℕ) (above : k.low.z + 1 ≤ z) where
  abbrev n : ℕ
  n = z - (k.low.z + 1)

  top : suc (k.low.z + n) ≡ z
  top = omega arith

  -- the layer below begins X·Y places before
  before : (P : ℕ) → P * (k.low.z + n) ≡ P * z - P
  before P =
      let one : P * (k.low.z + n) + P ≡ P * z =
      sym (mul-add P (k.low.z + n) 1 ∙ ap (λ (m : ℕ). P * (k.low.z + n) + m) (mul-one P)) ∙ ap (λ (m : ℕ). P * m) (let e : k.low.z + n + 1 ≡ z = omega arith in e) in
      omega arith

  one-layer : (j : ℕ) (old : Float) → column_step k grid grid (plane k * z - plane k) (plane k * z) z j (columns_to grid k n j old) ≡ columns_to grid k (suc n) j old
  unfolding risen
  one-layer j old =
      let at = (in_column (box_of k) j 0).x + k.dims.x * (in_column (box_of k) j 0).y in
      let below = columns_to grid k n j old in
      sym (ap₂ (λ (m s : ℕ). level_step m (get_or grid (at + s) nan) (get_or grid (at + plane k * m) nan) below) top (before (plane k)))

  pub layer-of-grid : (old : List Float) {out last : List Float} → out ≡ changed (columns_to grid k n) 0 (columns (box_of k)) old
      → last ≡ changed (column_step k grid grid (plane k * z - plane k) (plane k * z) z) 0 (columns (box_of k)) out
      → last ≡ changed (columns_to grid k (z + 1 - (k.low.z + 1))) 0 (columns (box_of k)) old
  layer-of-grid old inv el =
      let C = columns (box_of k) in
      let f = column_step k grid grid (plane k * z - plane k) (plane k * z) z in
      let next : suc n ≡ z + 1 - (k.low.z + 1) = omega arith in
      el
      ∙ (ap (λ (l : List Float). changed f 0 C l) inv
      ∙ (changed-twice (columns_to grid k n) f 0 C old
      ∙ (changed-same (λ j o. f j (columns_to grid k n j o)) (columns_to grid k (suc n)) 0 C old (λ j h l. one-layer j (get_or old j nan))
      ∙ ap (λ (m : ℕ). changed (columns_to grid k m) 0 C old) next)))

-- all of them, on the lowest
pub layers-done : (grid : List Float) (k : Block) (old : List Float) {first out : List Float} {z : ℕ}
    → first ≡ changed (lowest_step k grid (plane k * k.low.z) k.low.z) 0 (columns (box_of k)) old
    → out ≡ changed (columns_to grid k (z - (k.low.z + 1))) 0 (columns (box_of k)) first
    → z ≡ k.high.z + 1 → out ≡ changed (λ j _. level_of (field_of grid k) (box_of k) j) 0 (columns (box_of k)) old
unfolding level_of
layers-done grid k old {z = z} e inv end =
    let all : z - (k.low.z + 1) ≡ k.high.z - k.low.z = omega arith in
    let C = columns (box_of k) in
    let N = k.high.z - k.low.z in
    let first = lowest_step k grid (plane k * k.low.z) k.low.z in
    inv
    ∙ (ap₂ (λ (n : ℕ) (l : List Float). changed (columns_to grid k n) 0 C l) all e
    ∙ (changed-twice first (columns_to grid k N) 0 C old
    ∙ changed-same (λ j o. columns_to grid k N j (first j o)) (λ j _. level_of (field_of grid k) (box_of k) j) 0 C old
    (λ j h l. risen-is (λ (z : ℕ). value (field_of grid k) (in_column (box_of k) j z)) k.low.z N)))

-- ---- what lies where

pub record GridPlaces (k : Block) (size : ℕ) : Type 0 where
  pub planes : Fits w64 (plane k)
  pub from : Fits w32 (k.low.z + 1)
  pub end : Fits w32 (k.high.z + 1)
  pub span : Span (k.low.z + 1) (k.high.z + 1)
  -- each of the box's layers lies in the grid
  pub within : (z : ℕ) → z ≤ k.high.z → (plane k * z + plane k ≤ size) × (plane k * z ≤ 1073741824)

pub grid-places : (grid : List Float) (k : Block) → Inside grid k → GridPlaces k (length grid)
grid-places grid k i =
    let f = box-fits (point k.dims) (box_of k) i.box in
    let s = small (point k.dims) i.dims in
    let P = plane k in
    let all : length grid ≡ P * k.dims.z = right-length (point k.dims) (length grid) i.size in
    let most : P * k.dims.z ≤ 1073741824 = few (point k.dims) i.dims in
    let held : (z : ℕ) → z ≤ k.high.z → P * z + P ≤ P * k.dims.z =
    (λ (z : ℕ) (h : z ≤ k.high.z).
    let up : z + 1 ≤ k.dims.z = omega arith in
    le_trans (le_of_eq (sym (mul-add P z 1 ∙ ap (λ (m : ℕ). P * z + m) (mul-one P)))) (mul-le-mul_left P up)) in
    let top = held k.high.z (le_refl k.high.z) in
    record {
      planes = plane-fits P (P * k.high.z) (P * k.dims.z) top most;
      from = omega arith;
      end = omega arith;
      span = omega arith;
      within = λ z h. (le_trans (held z h) (le_of_eq (sym all)), le_trans (part P (P * z) (P * k.dims.z) (held z h)) most);
    }
  where
    plane-fits : (P Q R : ℕ) → Q + P ≤ R → R ≤ 1073741824 → Fits w64 P
    plane-fits P Q R h l = omega arith

    part : (P Q R : ℕ) → Q + P ≤ R → Q ≤ R
    part P Q R h = omega arith

-- dimensions, box and room
pub roomy-in : (grid : List Float) (k : Block) → Inside grid k → {room : ℕ} → columns (box_of k) ≤ room → Roomy k room
roomy-in grid k i h = record { dims = i.dims; box = i.box; holds = h }

pub roomy-self : {k : Block} {room : ℕ} → Roomy k room → Roomy k (columns (box_of k))
roomy-self {k} r = record { dims = r.dims; box = r.box; holds = le_refl (columns (box_of k)) }

pub roomy-as : {k : Block} {room more : ℕ} → Roomy k room → more ≡ room → Roomy k more
roomy-as r e = record { dims = r.dims; box = r.box; holds = le_trans r.holds (le_of_eq (sym e)) }

-- a layer of a grid on the one below it
pub laid-at : {k : Block} {grid : List Float} → GridPlaces k (length grid) → (z : ℕ) → z ≤ k.high.z → Laid k grid grid (plane k * z) (plane k * z)
laid-at p z h = let (held, short) = p.within z h in record { below = held; here = held; few = (short, short) }

pub laid_on : {k : Block} {grid : List Float} → GridPlaces k (length grid) → (z : ℕ) → 1 ≤ z → z ≤ k.high.z → Laid k grid grid (plane k * z - plane k) (plane k * z)
laid_on {k} {grid} p z low h =
    let (held, short) = p.within z h in
    let P = plane k in
    let one : P ≤ P * z = le_trans (le_of_eq (sym (mul-one P))) (mul-le-mul_left P low) in
    let b : P * z - P + P ≤ length grid = omega arith in
    let few : P * z - P ≤ 1073741824 = omega arith in
    record { below = b; here = held; few = (few, short) }

pub starts-above : (P z : ℕ) → 1 ≤ z → P ≤ P * z
starts-above P z low = le_trans (le_of_eq (sym (mul-one P))) (mul-le-mul_left P low)

pub few-fits : {n : ℕ} → n ≤ 1073741824 → Fits w64 n
few-fits h = omega arith

pub above-one : (low z : ℕ) → low + 1 ≤ z → 1 ≤ z
above-one low z h = omega arith

pub next_fits : {n : ℕ} → Fits w32 (n + 1) → Fits w64 n
next_fits h = omega arith
