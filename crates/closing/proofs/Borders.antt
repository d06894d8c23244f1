-- A border on one axis, one before and two behind, around blocks of s numbers; and the border on three axes is the closed grid. Assumes nothing.
use Prim.Native.Nat.{ℕ, ◌+◌, ◌-◌, ◌*◌, ◌/◌, ◌%◌, ◌<◌, ◌≤◌}
use native.Mathlib.Nat.{mul-add, mul_comm, mul_assoc, add-div_left, add-mod_left, mul-pos, mod-add-div, mul-add-div, mul-add-mod_self_left, mod-eq_of_lt, div-eq_of_lt, div-lt_iff_lt-mul, mod-lt, div-add-mod, zero-add}
use native.Mathlib.Omega.{arith}
use mathlib.Core.Bool.{Bool, true, false, ◌&&◌, cond}
use mathlib.Core.List.{List}
use mathlib.Core.Logic.{◌⊎◌, inl, inr}
use mathlib.Core.Path.{◌≡◌, refl, sym, ap, ap₂, ◌∙◌}
use borrow.Author.Tests.{le-leb, lt-leb}
use lib.Ieee.{Float, nan}
use lib.ListN.{get_or, take, drop}
use lib.Seq.{sets}
use Rattle.std.proofs.lemmas.List.{get_or-take, get_or-drop}
use Rattle.lists.proofs.Tests.{less-or-not}
use Rattle.rules.specs.Grid.{GridPoint, index, point_at, between}
use Rattle.rules.proofs.Indexes.{point-back}
use Rattle.closing.specs.Closed.{closed_dims, closed_value, closed_field, open_field, layer_field}
use Rattle.closing.specs.Runs.{spread, bordered, row_value, layer_value, grid_value}
use Rattle.closing.proofs.Sizes.{next-block}
use Rattle.closing.proofs.Spread.{spread_same, stored-join}

-- ---- one axis

module _ (n : ℕ) (wall : Float) (f : ℕ → Float) where
  pub border-low : (k : ℕ) → k < 1 → wall ≡ bordered n wall f k
  border-low k h = let e : k ≡ 0 = omega arith in rw e

  pub border-in : (k : ℕ) → k < n → f k ≡ bordered n wall f (1 + k)
  border-in k h =
      let e : 1 + k - 1 ≡ k = omega arith in
      rw (le-leb 1 (1 + k) (omega arith), le-leb (1 + k) n (omega arith)) (ap f (sym e))

  pub border-high : (k : ℕ) → n < k → wall ≡ bordered n wall f k
  border-high k h = rw (le-leb 1 k (omega arith), lt-leb k n h)

-- what stands within is read at its n places alone
pub border-same : (n : ℕ) (wall : Float) (f g : ℕ → Float) → ((x : ℕ) → x < n → f x ≡ g x) → (k : ℕ) → bordered n wall f k ≡ bordered n wall g k
border-same n wall f g e k = go (less-or-not k 1) (less-or-not n k)
  where
    go : (k < 1) ⊎ (1 ≤ k) → (n < k) ⊎ (k ≤ n) → bordered n wall f k ≡ bordered n wall g k
    go (inl low) b = sym (border-low n wall f k low) ∙ border-low n wall g k low
    go (inr _) (inl high) = sym (border-high n wall f k high) ∙ border-high n wall g k high
    go (inr a) (inr b) =
        let here : 1 + (k - 1) ≡ k = omega arith in
        let within : k - 1 < n = omega arith in
        ap (bordered n wall f) (sym here) ∙ sym (border-in n wall f (k - 1) within) ∙ e (k - 1) within
        ∙ border-in n wall g (k - 1) within ∙ ap (bordered n wall g) here

-- a row, and a layer, that are parts of a longer list
module _ (l : List Float) (wall : Float) (from : ℕ) where
  read-part : {k : ℕ} {part : List Float} → part ≡ take k (drop from l) → (i : ℕ) → i < k → get_or part i nan ≡ get_or l (from + i) nan
  read-part {k} e i h = ap (λ (a : List Float). get_or a i nan) e ∙ get_or-take k (drop from l) i nan h ∙ get_or-drop from l i nan

  pub row-part : (n : ℕ) → {row : List Float} → row ≡ take n (drop from l) → {m : ℕ} → m ≡ n
      → spread (row_value row wall m 0) (m + 3) ≡ spread (row_value l wall n from) (n + 3)
  row-part n {row} e f =
      ap (λ (k : ℕ). spread (row_value row wall k 0) (k + 3)) f
      ∙ spread_same (row_value row wall n 0) (row_value l wall n from) (n + 3)
      (λ j _. border-same n wall (λ x. get_or row (0 + x) nan) (λ x. get_or l (from + x) nan) (λ x h. ap (λ (i : ℕ). get_or row i nan) (zero-add x) ∙ read-part e x h) j)

  pub layer-part : (n m c : ℕ) → {layer : List Float} → layer ≡ take (n * m) (drop from l)
      → spread (layer_value layer wall n m 0) c ≡ spread (layer_value l wall n m from) c
  layer-part n m c {layer} e =
      spread_same (layer_value layer wall n m 0) (layer_value l wall n m from) c
      (λ j _. border-same m wall (λ y. row_value layer wall n (0 + n * y) (j % (n + 3))) (λ y. row_value l wall n (from + n * y) (j % (n + 3)))
      (λ y h. border-same n wall (λ x. get_or layer (0 + n * y + x) nan) (λ x. get_or l (from + n * y + x) nan) (λ x k. here y x h k) (j % (n + 3))) (j / (n + 3)))
    where
      here : (y x : ℕ) → y < m → x < n → get_or layer (0 + n * y + x) nan ≡ get_or l (from + n * y + x) nan
      here y x h k =
          let a : 0 + n * y + x ≡ n * y + x = omega arith in
          let b : from + (n * y + x) ≡ from + n * y + x = omega arith in
          ap (λ (i : ℕ). get_or layer i nan) a ∙ read-part e (n * y + x) (omega (arith, next-block n y m h)) ∙ ap (λ (i : ℕ). get_or l i nan) b

-- ---- one before, n and two behind, of s numbers each

module _ (l : List Float) (at s n : ℕ) (wall : Float) (h : ℕ → ℕ → Float) (pos : 0 < s) where
  abbrev F : ℕ → Float
  F i = bordered n wall (λ k. h k (i % s)) (i / s)

  before : (j : ℕ) → j < s → wall ≡ bordered n wall (λ k. h k (j % s)) (j / s)
  before j k = let e : j / s ≡ 0 = div-eq_of_lt k in border-low n wall (λ k. h k (j % s)) (j / s) (omega arith)

  block-of : (j : ℕ) → j < s * n → j / s < n
  block-of j k = let b : j < n * s = omega (arith, mul_comm s n) in (div-lt_iff_lt-mul pos).1 b

  inside : (j : ℕ) → j < s * n → h (j / s) (j % s) ≡ bordered n wall (λ k. h k ((s + j) % s)) ((s + j) / s)
  inside j k =
      let e : (s + j) / s ≡ 1 + j / s = add-div_left j pos ∙ omega arith in
      border-in n wall (λ k. h k (j % s)) (j / s) (block-of j k)
      ∙ ap₂ (λ (r q : ℕ). bordered n wall (λ k. h k r) q) (sym (add-mod_left s j)) (sym e)

  behind : (j : ℕ) → wall ≡ bordered n wall (λ k. h k ((s + (s * n + j)) % s)) ((s + (s * n + j)) / s)
  behind j =
      let e : (s + (s * n + j)) / s ≡ n + j / s + 1 = add-div_left (s * n + j) pos ∙ ap (λ (q : ℕ). q + 1) (mul-add-div pos n j) in
      border-high n wall (λ k. h k ((s + (s * n + j)) % s)) ((s + (s * n + j)) / s) (omega arith)

  pub border-stored : {one two three : List Float} {p q : ℕ} → one ≡ sets l at (spread (λ _. wall) s) → p ≡ at + s
      → two ≡ sets one p (spread (λ i. h (i / s) (i % s)) (s * n)) → q ≡ at + s + s * n → three ≡ sets two q (spread (λ _. wall) (2 * s))
      → three ≡ sets l at (spread (λ i. bordered n wall (λ k. h k (i % s)) (i / s)) (s * (n + 3)))
  border-stored e p f q g =
      let all : s * (n + 3) ≡ s + s * n + 2 * s = mul-add s n 3 ∙ omega (arith, mul_comm s 3) in
      let three-runs : (j : ℕ) → j < 2 * s → wall ≡ F (s + s * n + j) = λ j k. behind j ∙ (let c : s + (s * n + j) ≡ s + s * n + j = omega arith in ap F c) in
      stored-join l at F (λ _. wall) F (s + s * n) (2 * s)
      (stored-join l at (λ _. wall) (λ i. h (i / s) (i % s)) F s (s * n) e f p refl before inside)
      g (q ∙ omega arith) all (λ j k. refl) three-runs

-- ---- a row: blocks of one

module _ (l : List Float) (at n : ℕ) (wall : Float) (f : ℕ → Float) where
  pub row-stored : {one two three : List Float} {p q : ℕ} → one ≡ sets l at (spread (λ _. wall) 1) → p ≡ at + 1
      → two ≡ sets one p (spread f n) → q ≡ at + 1 + n → three ≡ sets two q (spread (λ _. wall) 2)
      → three ≡ sets l at (spread (bordered n wall f) (n + 3))
  row-stored e p g q h =
      stored-join l at (bordered n wall f) (λ _. wall) (bordered n wall f) (1 + n) 2
      (stored-join l at (λ _. wall) f (bordered n wall f) 1 n e g p refl (border-low n wall f) (border-in n wall f))
      h (q ∙ omega arith) (omega arith) (λ j k. refl) (λ j k. border-high n wall f (1 + n + j) (omega arith))

-- ---- three axes

-- the lower digits of an index
lower-digits : (a b i : ℕ) → 0 < a → 0 < b → (i % (a * b) / a ≡ i / a % b) × (i % (a * b) % a ≡ i % a)
lower-digits a b i pa pb =
    let q = i / (a * b) in
    let r = i % (a * b) in
    let e : a * (b * q) + r ≡ i = ap (λ (k : ℕ). k + r) (sym (mul_assoc a b q)) ∙ div-add-mod i (a * b) in
    let small : r < b * a = rw (mul_comm b a) (mod-lt i (mul-pos pa pb)) in
    let digit : r / a < b = (div-lt_iff_lt-mul pa).1 small in (
      sym (ap (λ (k : ℕ). k / a % b) (sym e) ∙ ap (λ (k : ℕ). k % b) (mul-add-div pa (b * q) r) ∙ mul-add-mod_self_left b q (r / a) ∙ mod-eq_of_lt digit),
      sym (ap (λ (k : ℕ). k % a) (sym e) ∙ mul-add-mod_self_left a (b * q) r),
    )

-- tests inside one another, and joined
nested : (x y z : Bool) (v wall : Float) → cond z (cond y (cond x v wall) wall) wall ≡ cond (x && (y && z)) v wall
nested true true true v wall = refl
nested true true false v wall = refl
nested true false true v wall = refl
nested true false false v wall = refl
nested false true true v wall = refl
nested false true false v wall = refl
nested false false true v wall = refl
nested false false false v wall = refl

module _ (grid : List Float) (wall : Float) (d : GridPoint) where
  abbrev row : ℕ
  row = d.x + 3

  abbrev rows : ℕ
  rows = d.y + 3

  pub grid-closed : (i : ℕ) → grid_value grid wall d.x d.y d.z i ≡ (closed_field (open_field d grid) wall).dist i
  unfolding closed_value
  grid-closed i =
      let low = lower-digits row rows i (omega arith) (omega arith) in
      let x = i % row in
      let y = i / row % rows in
      let z = i / (row * rows) in
      ap₂ (λ (u v : ℕ). bordered d.z wall (λ z'. bordered d.y wall (λ y'. bordered d.x wall (λ x'. get_or grid (d.x * d.y * z' + d.x * y' + x') nan) u) v) z)
      low.1 low.0
      ∙ nested (between 1 d.x x) (between 1 d.y y) (between 1 d.z z) (get_or grid (d.x * d.y * (z - 1) + d.x * (y - 1) + (x - 1)) nan) wall
      ∙ ap (λ (k : ℕ). cond (between 1 d.x x && (between 1 d.y y && between 1 d.z z)) (get_or grid k nan) wall)
      (place (x - 1) (d.x * (y - 1)) (d.x * d.y * (z - 1)))
    where
      place : (a b c : ℕ) → c + b + a ≡ a + b + c
      place a b c = omega arith

  -- the place i of the layer z
  in-layer : (z i : ℕ) → i < row * rows → point_at (closed_dims d) (row * rows * z + i) ≡ record { x = i % row; y = i / row; z = z }
  in-layer z i h =
      let b : i < rows * row = omega (arith, mul_comm row rows) in
      let p : GridPoint = record { x = i % row; y = i / row; z = z } in
      let e : row * rows * z + i ≡ index (closed_dims d) p = omega (arith, mod-add-div i row) in
      ap (point_at (closed_dims d)) e ∙ point-back (closed_dims d) p (mod-lt i (omega arith)) ((div-lt_iff_lt-mul (omega arith)).1 b)

  pub layer-closed : (z i : ℕ) → between 1 d.z z ≡ true → i < row * rows
      → layer_value grid wall d.x d.y 0 i ≡ (closed_field (layer_field d (z - 1) grid) wall).dist (row * rows * z + i)
  unfolding closed_value
  layer-closed z i open' h =
      let x = i % row in
      let y = i / row in
      nested (between 1 d.x x) (between 1 d.y y) true (get_or grid (0 + d.x * (y - 1) + (x - 1)) nan) wall
      ∙ ap₂ (λ (t : Bool) (k : ℕ). cond (between 1 d.x x && (between 1 d.y y && t)) (get_or grid k nan) wall) (sym open')
      (place (x - 1) (d.x * (y - 1)) (d.x * d.y * (z - 1)))
      ∙ ap (closed_value (layer_field d (z - 1) grid) wall) (sym (in-layer z i h))
    where
      place : (a b c : ℕ) → 0 + b + a ≡ a + b + c - c
      place a b c = omega arith

  pub layer-wall : (z i : ℕ) → between 1 d.z z ≡ false → i < row * rows
      → wall ≡ (closed_field (layer_field d (z - 1) grid) wall).dist (row * rows * z + i)
  unfolding closed_value
  layer-wall z i shut h =
      let x = i % row in
      let y = i / row in
      let v = get_or grid ((x - 1) + d.x * (y - 1) + d.x * d.y * (z - 1) - d.x * d.y * (z - 1)) nan in
      nested (between 1 d.x x) (between 1 d.y y) false v wall
      ∙ ap (λ (t : Bool). cond (between 1 d.x x && (between 1 d.y y && t)) v wall) (sym shut)
      ∙ ap (closed_value (layer_field d (z - 1) grid) wall) (sym (in-layer z i h))
