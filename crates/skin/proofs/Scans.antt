-- The scan for stray points: the rows and layers that make up the points of the box, and a row of which the ends alone need be read. Assumes nothing.
use Prim.Native.Nat.{ℕ, ◌+◌, ◌-◌, ◌<◌, ◌≤◌}
use native.Mathlib.Omega.{arith}
use mathlib.Core.Bool.{Bool, true, false, ◌&&◌, ◌||◌, not}
use mathlib.Core.List.{List, [], ◌∷◌, ◌++◌, map}
use mathlib.Core.Path.{◌≡◌, refl, sym, ap, ap₂, ◌∙◌}
use lib.Dec.{T, leb, leb→le}
use lib.Ieee.Bits.{is_true}
use lib.Ieee.Fits.{and_l, and_r}
use Rattle.lists.specs.Lists.{some, up_to}
use Rattle.rules.specs.Grid.{Box, Field, value}
use Rattle.rules.specs.Cell.{negative}
use Rattle.rules.specs.Faces.{layer_points, points, point_layers}
use Rattle.lists.proofs.Tests.{is-test}
use Rattle.lists.proofs.Lists.{all-each}
use Rattle.lists.proofs.Runs.{up_to-split, up_to-each}
use Rattle.lists.proofs.Some.{some-append, some-joined, some-map, some_same}
use Rattle.skin.specs.Enclosed.{inner_side, inner, stray, enclosed}
use Rattle.skin.specs.Scan.{stray_at, stray_part, stray_row, stray_layer, stray_box}
use Rattle.skin.proofs.Premise.{says-side}

-- ---- rows and layers

module _ (g : Field) (b : Box) where
  pub layer-is : (z : ℕ) → some (stray g b) (layer_points b z) ≡ stray_layer g b b z z
  unfolding layer_points stray_layer stray_row
  layer-is z =
      some-joined (stray g b) (λ (y : ℕ). map (λ (x : ℕ). record { x = x; y = y; z = z }) (up_to b.low.x (b.high.x + 1))) (up_to b.low.y (b.high.y + 1))
      ∙ some_same (all-each (λ y. some-map (stray g b) (λ (x : ℕ). record { x = x; y = y; z = z }) (up_to b.low.x (b.high.x + 1))) (up_to b.low.y (b.high.y + 1)))

  pub box-is : not (stray_box g b) ≡ enclosed g b
  unfolding enclosed points stray_box
  box-is = ap not (sym (some-joined (stray g b) (layer_points b) (point_layers b) ∙ some_same (all-each layer-is (point_layers b))))

-- ---- a row whose y and z lie inside: its inner points are not stray, whatever their distances

none_of : {A : Type 0} (l : List A) → some (λ (x : A). false) l ≡ false
unfolding some
none_of [] = refl
none_of (x ∷ xs) = none_of xs

and_no : (t : Bool) → (t && false) ≡ false
and_no true = refl
and_no false = refl

module _ (g : Field) (f b : Box) (place z y : ℕ) (same : (f.low.x ≡ b.low.x) × (f.high.x ≡ b.high.x)) where
  abbrev at : ℕ → Bool
  at x = stray_at g b (record { x = x; y = y; z = place }) (record { x = x; y = y; z = z })

  pub row-whole : {r : Bool} → r ≡ stray_part g b place z y f.low.x (f.high.x + 1) → r ≡ stray_row g f b place z y
  unfolding stray_part stray_row
  row-whole e = e

  module _ (middle : (inner_side b.low.y b.high.y y && (inner_side b.low.z b.high.z z && leb 3 (f.high.x - f.low.x))) ≡ true) where
    sides : T (inner_side b.low.y b.high.y y) × (T (inner_side b.low.z b.high.z z) × (3 ≤ f.high.x - f.low.x))
    sides =
        let iy = inner_side b.low.y b.high.y y in
        let iz = inner_side b.low.z b.high.z z in
        let w = leb 3 (f.high.x - f.low.x) in
        let t = is-test (iy && (iz && w)) middle in
        (and_l iy (iz && w) t, (and_l iz w (and_r iy (iz && w) t), leb→le 3 (f.high.x - f.low.x) (and_r iz w (and_r iy (iz && w) t))))

    not-stray : (x : ℕ) → f.low.x + 1 ≤ x → x < f.high.x - 1 → at x ≡ false
    unfolding inner
    not-stray x l h =
        let s = sides in
        let ix : T (inner_side b.low.x b.high.x x) = says-side b.low.x b.high.x x (omega arith, omega arith) in
        rw (is_true (inner_side b.low.x b.high.x x) ix, is_true (inner_side b.low.y b.high.y y) s.0, is_true (inner_side b.low.z b.high.z z) s.1.0)
        (and_no (negative (value g (record { x = x; y = y; z = place }))))

    -- so the first and the last two are all that need be read
    pub row_ends : {first rest r : Bool} → first ≡ stray_part g b place z y f.low.x (f.low.x + 1) → rest ≡ stray_part g b place z y (f.high.x - 1) (f.high.x + 1)
        → r ≡ (first || rest) → r ≡ stray_row g f b place z y
    unfolding stray_part stray_row
    row_ends e d r =
        let s = sides in
        let a = f.low.x in
        let c = f.high.x in
        let one = up_to-split a (a + 1) (c + 1) (omega arith) (omega arith) in
        let two = up_to-split (a + 1) (c - 1) (c + 1) (omega arith) (omega arith) in
        let middle-none : some at (up_to (a + 1) (c - 1)) ≡ false = some_same (up_to-each (a + 1) (c - 1) not-stray) ∙ none_of (up_to (a + 1) (c - 1)) in
        r ∙ ap₂ ◌||◌ e d
        ∙ sym (ap (some at) (one ∙ ap (λ (l : List ℕ). up_to a (a + 1) ++ l) two)
        ∙ some-append at (up_to a (a + 1)) (up_to (a + 1) (c - 1) ++ up_to (c - 1) (c + 1))
        ∙ ap (λ (t : Bool). some at (up_to a (a + 1)) || t)
        (some-append at (up_to (a + 1) (c - 1)) (up_to (c - 1) (c + 1)) ∙ ap (λ (t : Bool). t || some at (up_to (c - 1) (c + 1))) middle-none))
