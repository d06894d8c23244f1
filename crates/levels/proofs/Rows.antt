-- Where the rows of a box stand in its layers and among its columns, and what a row, and a layer of rows, change. Assumes nothing.
use Rattle.std.proofs.Common.{take, drop, zero-add, length-take-le, ◌≡◌, ℕ, ◌+◌, ◌-◌, ◌*◌, ◌/◌, ◌%◌, ◌<◌, ◌≤◌, List, length, get_or, set, sym, ap, ◌∙◌, ap₂, zero-le, le_trans, le_of_eq, add-zero, mul-le-mul_right, mod-eq_of_lt, mul_comm, add-mul, mul-le-mul, mul-le-mul_left, one-mul, zero-mul, mul-one, mul-add, arith, w64, Fits}
use native.Mathlib.Nat.{mul-add-div_right, mul-add-mod_self_right, div-eq_of_lt}
use lib.Ieee.{Float, nan}
use Rattle.std.proofs.lemmas.List.{get_or-take, get_or-drop, length-drop}
use Rattle.rules.proofs.Indexes.{box-fits, small}
use Rattle.grid.specs.declared.Block.{Block}
use Rattle.grid.specs.Block.{point, box_of}
use Rattle.grid.specs.Layers.{in_layer}
use Rattle.grid.proofs.Bounds.{few}
use Rattle.grid.proofs.Walks.{Span}
use Rattle.levels.specs.Column.{level_step}
use Rattle.levels.specs.Columns.{across, columns, in_column, changed}
use Rattle.levels.specs.Fits.{Roomy, row_step, column_step}
use Rattle.levels.proofs.Changed.{changed-more, changed-on, changed-same}

-- ---- a place in a row

-- one column more
pub row_more : (lower upper : List Float) (a b z to j : ℕ) (old : List Float) {out last : List Float} {r : Float} → to + j < length old
    → out ≡ changed (row_step lower upper a b z to) to (to + j) old
    → r ≡ level_step z (get_or lower (a + j) nan) (get_or upper (b + j) nan) (get_or out (to + j) nan)
    → last ≡ set out (to + j) r → last ≡ changed (row_step lower upper a b z to) to (to + (j + 1)) old
row_more lower upper a b z to j old {out} {last} {r} h inv er el =
    el ∙ (ap (λ (x : Float). set out (to + j) x) (er ∙ back)
    ∙ (ap (λ (l : List Float). set l (to + j) (f (to + j) (get_or l (to + j) nan))) inv
    ∙ (changed-more f to (to + j) old low h
    ∙ ap (λ (m : ℕ). changed f to m old) next)))
  where
    f : ℕ → Float → Float
    f = row_step lower upper a b z to

    low : to ≤ to + j
    low = omega arith

    next : to + j + 1 ≡ to + (j + 1)
    next = omega arith

    same : j ≡ to + j - to
    same = omega arith

    back : level_step z (get_or lower (a + j) nan) (get_or upper (b + j) nan) (get_or out (to + j) nan) ≡ f (to + j) (get_or out (to + j) nan)
    back = ap (λ (m : ℕ). level_step z (get_or lower (a + m) nan) (get_or upper (b + m) nan) (get_or out (to + j) nan)) same

-- a row that is lent is a part of its layer
part-at : (l : List Float) (p n i : ℕ) → i < n → get_or (take n (drop p l)) (0 + i) nan ≡ get_or l (p + i) nan
part-at l p n i h = ap (λ (m : ℕ). get_or (take n (drop p l)) m nan) (zero-add i) ∙ get_or-take n (drop p l) i nan h ∙ get_or-drop p l i nan

pub row-lent : (lower upper : List Float) (a b n z to : ℕ) (old : List Float) {s t : List Float} → s ≡ take n (drop a lower) → t ≡ take n (drop b upper)
    → a + n ≤ length lower → changed (row_step s t 0 0 z to) to (to + length s) old ≡ changed (row_step lower upper a b z to) to (to + n) old
row-lent lower upper a b n z to old {s} {t} es et h =
    ap (λ (m : ℕ). changed (row_step s t 0 0 z to) to (to + m) old) long
    ∙ changed-same (row_step s t 0 0 z to) (row_step lower upper a b z to) to (to + n) old
    (λ j low high.
    let i : j - to < n = omega arith in
    ap₂ (λ (x y : Float). level_step z x y (get_or old j nan)) (ap (λ (l : List Float). get_or l (0 + (j - to)) nan) es ∙ part-at lower a n (j - to) i)
    (ap (λ (l : List Float). get_or l (0 + (j - to)) nan) et ∙ part-at upper b n (j - to) i))
  where
    long : length s ≡ n
    long = ap length es ∙ length-take-le n (drop a lower) (omega (arith, h, length-drop a lower))

-- ---- a row of the box

-- its first point in its layer, how many it has, and the first of its columns
abbrev pub row_at : Block → ℕ → ℕ
row_at k y = k.low.x + k.dims.x * y

abbrev pub row_to : Block → ℕ → ℕ
row_to k y = (y - k.low.y) * across (box_of k)

pub record RowPlace (k : Block) (y : ℕ) : Type 0 where
  pub product : Fits w64 (k.dims.x * y)
  pub at : Fits w64 (row_at k y)
  pub within : row_at k y + across (box_of k) ≤ k.dims.x * k.dims.y
  pub plane : k.dims.x * k.dims.y ≤ 1073741824
  pub to : Fits w64 (row_to k y)
  pub room : row_to k y + across (box_of k) ≤ columns (box_of k)
  pub next : row_to k y + across (box_of k) ≡ row_to k (y + 1)
  pub some : 0 < across (box_of k)
  pub short : across (box_of k) ≤ 1073741824

-- X·Y
pub plane-few : (k : Block) {room : ℕ} → Roomy k room → k.dims.x * k.dims.y ≤ 1073741824
plane-few k r =
    let f = box-fits (point k.dims) (box_of k) r.box in
    let deep : 1 ≤ k.dims.z = omega arith in
    le_trans (le_of_eq (sym (mul-one (k.dims.x * k.dims.y)))) (le_trans (mul-le-mul_left (k.dims.x * k.dims.y) deep) (few (point k.dims) r.dims))

pub columns-few : (k : Block) {room : ℕ} → Roomy k room → columns (box_of k) ≤ 1073741824
columns-few k r =
    let f = box-fits (point k.dims) (box_of k) r.box in
    let x : across (box_of k) ≤ k.dims.x = omega arith in
    let y : k.high.y + 1 - k.low.y ≤ k.dims.y = omega arith in
    le_trans (mul-le-mul y x) (le_trans (le_of_eq (mul_comm k.dims.y k.dims.x)) (plane-few k r))

-- the rows of the box, and its points in x
pub row-span : (k : Block) {room : ℕ} → Roomy k room → Span k.low.y (k.high.y + 1)
row-span k r =
    let f = box-fits (point k.dims) (box_of k) r.box in
    let s = small (point k.dims) r.dims in
    omega arith

pub point-span : (k : Block) {room : ℕ} → Roomy k room → Span k.low.x (k.high.x + 1)
point-span k r =
    let f = box-fits (point k.dims) (box_of k) r.box in
    let s = small (point k.dims) r.dims in
    omega arith

pub none_below : (k : Block) → row_to k k.low.y ≡ 0
none_below k = let e : k.low.y - k.low.y ≡ 0 = omega arith in ap (λ (m : ℕ). m * across (box_of k)) e ∙ zero-mul (across (box_of k))

-- arithmetic over bare numbers
inside-plane : (X y low high P : ℕ) → low ≤ high → high < X → X * y + X ≤ P → low + X * y + (high + 1 - low) ≤ P
inside-plane X y low high P h k l = omega arith

all-fits : (X y low n P C t : ℕ) → low + X * y + n ≤ P → P ≤ 1073741824 → t + n ≤ C → C ≤ 1073741824 → (Fits w64 (X * y)) × (Fits w64 (low + X * y)) × (Fits w64 t) × (n ≤ 1073741824)
all-fits X y low n P C t h k l m = (omega arith, omega arith, omega arith, omega arith)

one_more : (m n : ℕ) → m * n + n ≡ (m + 1) * n
one_more m n = sym (add-mul m 1 n ∙ ap (λ (x : ℕ). m * n + x) (one-mul n))

pub row-place : (k : Block) {room : ℕ} → Roomy k room → (y : ℕ) → k.low.y ≤ y → y ≤ k.high.y → RowPlace k y
row-place k r y low high =
    let f = box-fits (point k.dims) (box_of k) r.box in
    let X = k.dims.x in
    let Y = k.dims.y in
    let n = across (box_of k) in
    let p = plane-few k r in
    let below : y + 1 ≤ Y = omega arith in
    let rows : X * y + X ≤ X * Y = le_trans (le_of_eq (sym (mul-add X y 1 ∙ ap (λ (m : ℕ). X * y + m) (mul-one X)))) (mul-le-mul_left X below) in
    let within = inside-plane X y k.low.x k.high.x (X * Y) f.x.0 f.x.1 rows in
    let up : y - k.low.y + 1 ≡ y + 1 - k.low.y = omega arith in
    let next : row_to k y + n ≡ row_to k (y + 1) = one_more (y - k.low.y) n ∙ ap (λ (m : ℕ). m * n) up in
    let most : y + 1 - k.low.y ≤ k.high.y + 1 - k.low.y = omega arith in
    let room : row_to k y + n ≤ columns (box_of k) = le_trans (le_of_eq next) (mul-le-mul_right n most) in
    let (product, at, to, short) = all-fits X y k.low.x n (X * Y) (columns (box_of k)) (row_to k y) within p room (columns-few k r) in
    record {
      product = product;
      at = at;
      within = within;
      plane = p;
      to = to;
      room = room;
      next = next;
      some = omega arith;
      short = short;
    }

-- a place in a layer that begins at a in a list
place-held : (a r n P size : ℕ) → a + P ≤ size → r + n ≤ P → a + r + n ≤ size
place-held a r n P size h l = omega arith

pub row-held : {k : Block} {y : ℕ} → RowPlace k y → (a size : ℕ) → a + k.dims.x * k.dims.y ≤ size → a + row_at k y + across (box_of k) ≤ size
row-held {k} {y} p a size h = place-held a (row_at k y) (across (box_of k)) (k.dims.x * k.dims.y) size h p.within

-- ---- a row of columns more

-- the i-th point of a row, counted by its column
in_row : (n m i j : ℕ) → 0 < n → i < n → j ≡ m * n + i → (j % n ≡ i) × (j / n ≡ m)
in_row n m i j p h e = (
  ap (λ (x : ℕ). x % n) e ∙ (mul-add-mod_self_right m n i ∙ mod-eq_of_lt h),
  ap (λ (x : ℕ). x / n) e ∙ (mul-add-div_right p m i ∙ (ap (λ (x : ℕ). m + x) (div-eq_of_lt h) ∙ add-zero m)),
)

sum : (a low i r : ℕ) → a + (low + r) + i ≡ low + i + r + a
sum a low i r = omega arith

module _ (k : Block) {y : ℕ} (p : RowPlace k y) (low : k.low.y ≤ y) (lower upper : List Float) (a b z : ℕ) where
  abbrev n : ℕ
  n = across (box_of k)

  -- where a point of the row stands
  stands : (j : ℕ) → row_to k y ≤ j → j < row_to k y + n → (c : ℕ) → c + row_at k y + (j - row_to k y) ≡ in_layer (point k.dims) (in_column (box_of k) j z) + c
  stands j h l c =
      let i = j - row_to k y in
      let (x, r) = in_row n (y - k.low.y) i j p.some (omega arith) (omega arith) in
      let back : k.low.y + (y - k.low.y) ≡ y = omega arith in
      sum c k.low.x i (k.dims.x * y)
      ∙ ap₂ (λ (s t : ℕ). k.low.x + s + k.dims.x * t + c) (sym x) (sym (ap (λ (m : ℕ). k.low.y + m) r ∙ back))

  row_same : (j : ℕ) → row_to k y ≤ j → j < row_to k y + n → (old : Float)
      → row_step lower upper (a + row_at k y) (b + row_at k y) z (row_to k y) j old ≡ column_step k lower upper a b z j old
  row_same j h l old =
      ap₂ (λ (s t : ℕ). level_step z (get_or lower s nan) (get_or upper t nan) old) (stands j h l a) (stands j h l b)

  pub layer-more : (old : List Float) {out last : List Float} → out ≡ changed (column_step k lower upper a b z) 0 (row_to k y) old
      → last ≡ changed (row_step lower upper (a + row_at k y) (b + row_at k y) z (row_to k y)) (row_to k y) (row_to k y + n) out
      → last ≡ changed (column_step k lower upper a b z) 0 (row_to k (y + 1)) old
  layer-more old {out} inv el =
      el
      ∙ (changed-same (row_step lower upper (a + row_at k y) (b + row_at k y) z (row_to k y)) (column_step k lower upper a b z) (row_to k y) (row_to k y + n) out
      (λ j h l. row_same j h l (get_or out j nan))
      ∙ (ap (λ (l : List Float). changed (column_step k lower upper a b z) (row_to k y) (row_to k y + n) l) inv
      ∙ (changed-on (column_step k lower upper a b z) 0 (row_to k y) (row_to k y + n) old zero-le (omega arith)
      ∙ ap (λ (m : ℕ). changed (column_step k lower upper a b z) 0 m old) p.next)))
