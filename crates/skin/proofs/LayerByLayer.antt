-- One layer of a grid, tested by itself: as a grid one layer high its rows are those of the layer; and of every layer of the box the answer is yes exactly if that of the
-- grid is. Assumes nothing.
use Prim.Native.Nat.{ℕ, ◌+◌, ◌-◌, ◌*◌, ◌≤◌, ◌<◌}
use native.Mathlib.Nat.{mul-zero, mul-one, mul-add, mul-le-mul_left, le_trans, le_of_eq}
use native.Mathlib.Omega.{arith}
use mathlib.Core.Bool.{Bool, true, false, not, ◌||◌, ◌&&◌}
use mathlib.Core.List.{List}
use mathlib.Core.Path.{◌≡◌, refl, sym, ap, subst, ◌∙◌}
use borrow.Author.Tests.{le-ltb, eq-eqb, ne_eqb}
use lib.Dec.{T, T_not, not_T, eqb, eqb→eq, ltb, leb, le→leb}
use lib.Ieee.{Float, nan}
use lib.Ieee.Bits.{is_true}
use lib.Ieee.Fits.{and_i, and_l, and_r}
use lib.ListN.{length, get_or, take, drop, length-drop}
use lib.Seq.{get_or-take, get_or-drop, length-take-le}
use Rattle.lists.specs.Lists.{some, many, up_to}
use Rattle.lists.proofs.Lists.{all-each}
use Rattle.lists.proofs.Some.{some_same, some-has, some-member}
use Rattle.lists.proofs.Tests.{failed, is_false, is-test, one_of, one-positive, nor-left, nor-right, nor-both}
use Rattle.rules.specs.Grid.{GridPoint, Box, Field, same_point, index, between, in_box}
use Rattle.rules.specs.Faces.{layer_points}
use Rattle.rules.specs.Cell.{negative}
use Rattle.rules.specs.Call.{bad_dimension, bad_dimensions, bad_side, bad_box, bad_length}
use Rattle.rules.proofs.Counting.{same_point-sound, same_point-itself, is_layer_point, layer_points-once}
use Rattle.rules.proofs.Indexes.{BoxFits, box-fits, within, right-length}
use Rattle.rules.proofs.Inside.{none_in, in-none}
use Rattle.grid.specs.declared.Extent.{Extent}
use Rattle.grid.specs.declared.Block.{Block}
use Rattle.grid.specs.Block.{point, box_of, field_of}
use Rattle.grid.specs.Inside.{Inside}
use Rattle.grid.specs.Layers.{in_layer}
use Rattle.grid.proofs.Bounds.{few, fits}
use Rattle.grid.proofs.Layers.{in-plane}
use Rattle.skin.specs.Enclosed.{inner, stray, enclosed}
use Rattle.skin.specs.Scan.{Tested, stray_at, stray_row, stray_layer, answers, judged, layer_enclosed, outside, judged_layer, layer_grid, grid_of, box_from, examined, examined_layer}
use Rattle.skin.proofs.Judged.{block_of}
use Rattle.skin.proofs.Scans.{layer-is}

-- ---- a layer as a grid of its own

abbrev pub flat : Extent → Extent → Extent → Block
flat dims low high =
    record {
      dims = record { x = dims.x; y = dims.y; z = 1 };
      low = record { x = low.x; y = low.y; z = 0 };
      high = record { x = high.x; y = high.y; z = 0 };
      max_plane = record { x = false; y = false; z = false };
    }

module _ (dims low high : Extent) (layer : List Float) (d : bad_dimensions (point dims) ≡ false) (b : bad_box (point dims) (box_from low high) ≡ false) where
  pub plane-few : dims.x * dims.y ≤ 1073741824
  plane-few =
      let f : BoxFits (point dims) (box_from low high) = box-fits (point dims) (box_from low high) (failed refl b) in
      let deep : 1 ≤ dims.z = omega arith in
      le_trans (le_of_eq (sym (mul-one (dims.x * dims.y)))) (le_trans (mul-le-mul_left (dims.x * dims.y) deep) (few (point dims) (failed refl d)))

  flat-dims : T (not (bad_dimensions (point (flat dims low high).dims)))
  unfolding bad_dimensions
  flat-dims =
      let t : T (not (bad_dimensions (point dims))) = failed refl d in
      let all = nor-left (bad_dimension dims.x || (bad_dimension dims.y || bad_dimension dims.z)) (ltb 1073741824 (dims.x * dims.y * dims.z)) t in
      let rest = nor-right (bad_dimension dims.x) (bad_dimension dims.y || bad_dimension dims.z) all in
      let small : dims.x * dims.y * 1 ≤ 1073741824 = le_trans (le_of_eq (mul-one (dims.x * dims.y))) plane-few in
      nor-both (bad_dimension dims.x || (bad_dimension dims.y || bad_dimension 1)) (ltb 1073741824 (dims.x * dims.y * 1))
      (nor-both (bad_dimension dims.x) (bad_dimension dims.y || bad_dimension 1) (nor-left (bad_dimension dims.x) (bad_dimension dims.y || bad_dimension dims.z) all)
      (nor-both (bad_dimension dims.y) (bad_dimension 1) (nor-left (bad_dimension dims.y) (bad_dimension dims.z) rest) tt))
      (failed refl (le-ltb 1073741824 (dims.x * dims.y * 1) small))

  flat-box : T (not (bad_box (point (flat dims low high).dims) (box_of (flat dims low high))))
  unfolding bad_box
  flat-box =
      let t : T (not (bad_box (point dims) (box_from low high))) = failed refl b in
      let bx : Bool = bad_side dims.x low.x high.x in
      let by : Bool = bad_side dims.y low.y high.y in
      let bz : Bool = bad_side dims.z low.z high.z in
      nor-both bx (by || bad_side 1 0 0) (nor-left bx (by || bz) t) (nor-both by (bad_side 1 0 0) (nor-left by bz (nor-right bx (by || bz) t)) tt)

  pub flat-inside : length layer ≡ dims.x * dims.y → Inside layer (flat dims low high)
  unfolding bad_length
  flat-inside e =
      record { dims = flat-dims; box = flat-box; size = rw (eq-eqb (length layer) (dims.x * dims.y * 1) (e ∙ sym (mul-one (dims.x * dims.y)))) tt }

-- ---- its stray points are those of the layer z

pub flat-strays : (layer : List Float) (dims low high : Extent) (z : ℕ)
    → not (stray_layer (field_of layer (flat dims low high)) (box_of (flat dims low high)) (box_from low high) 0 z) ≡ layer_enclosed (layer_grid layer dims z) (box_from low high) z
unfolding stray_layer stray_row layer_enclosed
flat-strays layer dims low high z =
    ap not (some_same (all-each (λ y. some_same (all-each (point-same y) (up_to low.x (high.x + 1)))) (up_to low.y (high.y + 1)))
    ∙ sym (layer-is (layer_grid layer dims z) (box_from low high) z))
  where
    point-same : (y x : ℕ) → stray_at (field_of layer (flat dims low high)) (box_from low high) (record { x = x; y = y; z = 0 }) (record { x = x; y = y; z = z })
        ≡ stray_at (layer_grid layer dims z) (box_from low high) (record { x = x; y = y; z = z }) (record { x = x; y = y; z = z })
    point-same y x =
        let none : dims.x * dims.y * 0 ≡ 0 = mul-zero (dims.x * dims.y) in
        let at : x + dims.x * y + dims.x * dims.y * 0 ≡ x + dims.x * y + dims.x * dims.y * z - dims.x * dims.y * z = omega arith in
        ap (λ (n : ℕ). negative (get_or layer n nan) && not (inner (box_from low high) (record { x = x; y = y; z = z }))) at

-- ---- the answer by the tests that led to it

module _ (g : Field) (b : Box) (size z : ℕ) where
  pub layer-1 : bad_dimensions g.dims ≡ true → answers 1 false ≡ judged_layer g b size z
  unfolding judged_layer
  layer-1 d = rw d

  module _ (d : bad_dimensions g.dims ≡ false) where
    pub layer-2 : bad_box g.dims b ≡ true → answers 2 false ≡ judged_layer g b size z
    unfolding judged_layer
    layer-2 e = rw (d, e)

    module _ (e : bad_box g.dims b ≡ false) where
      pub layer-outside : outside b z ≡ true → answers 77 false ≡ judged_layer g b size z
      unfolding judged_layer
      layer-outside o = rw (d, e, o)

      module _ (within' : outside b z ≡ false) where
        pub layer-3 : (size ≡ g.dims.x * g.dims.y → ⊥) → answers 3 false ≡ judged_layer g b size z
        unfolding judged_layer
        layer-3 n = rw (d, e, within', ne_eqb size (g.dims.x * g.dims.y) n)

        pub layer-0 : size ≡ g.dims.x * g.dims.y → (found : Bool) → not found ≡ layer_enclosed g b z → answers 0 (not found) ≡ judged_layer g b size z
        unfolding judged_layer
        layer-0 s found q = rw (d, e, within', eq-eqb size (g.dims.x * g.dims.y) s, q)

not-outside : (b : Box) (z : ℕ) → b.low.z ≤ z → z ≤ b.high.z → outside b z ≡ false
not-outside b z l h = rw (le-ltb z b.low.z l, le-ltb b.high.z z h)

-- ---- of every layer of the box

twice : (t : Bool) → not (not t) ≡ t
twice true = refl
twice false = refl

-- the X·Y distances of the layer z of a grid
abbrev pub layer_of : List Float → Extent → ℕ → List Float
layer_of sdf dims z = take (dims.x * dims.y) (drop (dims.x * dims.y * z) sdf)

module _ (sdf : List Float) (dims low high : Extent) (i : Inside sdf (block_of dims low high)) where
  abbrev k : Block
  k = block_of dims low high

  -- a point of the box reads the same distance in its own layer
  point-same : (z : ℕ) → low.z ≤ z → z ≤ high.z → (p : GridPoint) → T (in_box (box_from low high) p) → p.z ≡ z
      → stray (layer_grid (layer_of sdf dims z) dims z) (box_from low high) p ≡ stray (grid_of sdf dims) (box_from low high) p
  point-same z l h p t e =
      let w = within (box_from low high) p t in
      let f = fits sdf k i in
      let d = point dims in
      let here : dims.x * dims.y * p.z ≡ dims.x * dims.y * z = ap (λ (n : ℕ). dims.x * dims.y * n) e in
      let small : in_layer d p < dims.x * dims.y = in-plane d p (omega arith) (omega arith) in
      let at : index d p - dims.x * dims.y * z ≡ in_layer d p = omega arith in
      let back : dims.x * dims.y * z + in_layer d p ≡ index d p = omega arith in
      ap (λ (x : Float). negative x && not (inner (box_from low high) p))
      (ap (λ (n : ℕ). get_or (layer_of sdf dims z) n nan) at
      ∙ get_or-take (dims.x * dims.y) (drop (dims.x * dims.y * z) sdf) (in_layer d p) nan small
      ∙ get_or-drop (dims.x * dims.y * z) sdf (in_layer d p) nan
      ∙ ap (λ (n : ℕ). get_or sdf n nan) back)

  -- and no point of a layer is stray, in its own layer, exactly where none is in the grid
  layer-none : (g : Field) (z : ℕ) → low.z ≤ z → z ≤ high.z → T (layer_enclosed g (box_from low high) z) → (p : GridPoint) → T (in_box (box_from low high) p) → p.z ≡ z
      → T (stray g (box_from low high) p) → ⊥
  unfolding layer_enclosed
  layer-none g z l h t p in-it e st =
      let b = box_from low high in
      let bx = between low.x high.x p.x in
      let by = between low.y high.y p.y in
      let bz = between low.z high.z p.z in
      let here = is-test (eqb p.z z) (eq-eqb p.z z e) in
      let there : T (is_layer_point b z p) =
      and_i bx (by && eqb p.z z) (and_l bx (by && bz) in-it) (and_i by (eqb p.z z) (and_l by bz (and_r bx (by && bz) in-it)) here) in
      T_not (some (stray g b) (layer_points b z)) t
      (some-has same_point same_point-sound same_point-itself (stray g b) p st (layer_points b z) (omega (arith, layer_points-once b z p, one_of (is_layer_point b z p) there)))

  none-layer : (g : Field) (z : ℕ) → low.z ≤ z → z ≤ high.z → ((p : GridPoint) → T (in_box (box_from low high) p) → p.z ≡ z → T (stray g (box_from low high) p) → ⊥)
      → T (layer_enclosed g (box_from low high) z)
  unfolding layer_enclosed
  none-layer g z l h no' = not_T (some (stray g b) (layer_points b z)) (λ t. go (some-member same_point same_point-sound same_point-itself (stray g b) (layer_points b z) t))
    where
      b : Box
      b = box_from low high

      go : (p : GridPoint) × (0 < many (same_point p) (layer_points b z)) × T (stray g b p) → ⊥
      go w =
          let p = w.0 in
          let bx = between low.x high.x p.x in
          let by = between low.y high.y p.y in
          let t : T (is_layer_point b z p) = one-positive (is_layer_point b z p) (omega (arith, w.1, layer_points-once b z p)) in
          let rest = and_r bx (by && eqb p.z z) t in
          let at : p.z ≡ z = eqb→eq p.z z (and_r by (eqb p.z z) rest) in
          let bz : T (between low.z high.z p.z) =
          and_i (leb low.z p.z) (leb p.z high.z) (le→leb low.z p.z (omega arith)) (le→leb p.z high.z (omega arith)) in
          no' p
          (and_i bx (by && between low.z high.z p.z) (and_l bx (by && eqb p.z z) t) (and_i by (between low.z high.z p.z) (and_l by (eqb p.z z) rest) bz))
          at w.2

  -- every layer of the grid says yes by itself: then the grid does
  pub layers-then-grid : ((z : ℕ) → low.z ≤ z → z ≤ high.z → T (layer_enclosed (layer_grid (layer_of sdf dims z) dims z) (box_from low high) z))
      → T (enclosed (grid_of sdf dims) (box_from low high))
  unfolding enclosed
  layers-then-grid each =
      let b = box_from low high in
      in-none b (stray (grid_of sdf dims) b)
      (λ p t st.
      let w = within b p t in
      layer-none (layer_grid (layer_of sdf dims p.z) dims p.z) p.z (omega arith) (omega arith) (each p.z (omega arith) (omega arith)) p t refl
      (subst T (sym (point-same p.z (omega arith) (omega arith) p t refl)) st))

  -- and the other way
  pub grid-then-layers : T (enclosed (grid_of sdf dims) (box_from low high)) → (z : ℕ) → low.z ≤ z → z ≤ high.z
      → T (layer_enclosed (layer_grid (layer_of sdf dims z) dims z) (box_from low high) z)
  unfolding enclosed
  grid-then-layers t z l h =
      let b = box_from low high in
      none-layer (layer_grid (layer_of sdf dims z) dims z) z l h (λ p in-it e st. none_in b (stray (grid_of sdf dims) b) t p in-it (subst T (point-same z l h p in-it e) st))

  -- ---- the same of the answers

  layer-length : (z : ℕ) → z ≤ high.z → length (layer_of sdf dims z) ≡ dims.x * dims.y
  layer-length z h =
      let f = fits sdf k i in
      let plane = dims.x * dims.y in
      let all : length sdf ≡ plane * dims.z = right-length (point dims) (length sdf) i.size in
      let some_of : plane * (z + 1) ≤ plane * dims.z = mul-le-mul_left plane (omega arith) in
      let one : plane * (z + 1) ≡ plane * z + plane = mul-add plane z 1 ∙ ap (λ (n : ℕ). plane * z + n) (mul-one plane) in
      length-take-le plane (drop (plane * z) sdf) (omega (arith, length-drop (plane * z) sdf))

  -- a layer of the grid is answered 0, with its own yes or no
  layer-answered : (z : ℕ) → low.z ≤ z → z ≤ high.z
      → answers 0 (layer_enclosed (layer_grid (layer_of sdf dims z) dims z) (box_from low high) z) ≡ examined_layer (layer_of sdf dims z) dims low high z
  layer-answered z l h =
      let g = layer_grid (layer_of sdf dims z) dims z in
      let b = box_from low high in
      let e = layer_enclosed g b z in
      ap (answers 0) (sym (twice e))
      ∙ layer-0 g b (length (layer_of sdf dims z)) z (is_false (bad_dimensions (point dims)) (T_not (bad_dimensions (point dims)) i.dims))
      (is_false (bad_box (point dims) b) (T_not (bad_box (point dims) b) i.box)) (not-outside b z l h) (layer-length z h) (not e) (twice e)

  -- "yes" of every layer exactly if it is the grid's answer
  pub every-yes : ((z : ℕ) → low.z ≤ z → z ≤ high.z → examined_layer (layer_of sdf dims z) dims low high z ≡ answers 0 true) → examined sdf dims low high ≡ answers 0 true
  unfolding judged
  every-yes each =
      let g = grid_of sdf dims in
      let b = box_from low high in
      let t : T (enclosed g b) = layers-then-grid (λ z l h. is-test _ (ap (λ (r : Tested). r.enclosed) (layer-answered z l h ∙ each z l h))) in
      rw (
        is_false (bad_dimensions (point dims)) (T_not (bad_dimensions (point dims)) i.dims),
        is_false (bad_box (point dims) b) (T_not (bad_box (point dims) b) i.box),
        is_false (bad_length (point dims) (length sdf)) (T_not (bad_length (point dims) (length sdf)) i.size),
        is_true (enclosed g b) t,
      )

  pub yes-every : T (enclosed (grid_of sdf dims) (box_from low high)) → (z : ℕ) → low.z ≤ z → z ≤ high.z → examined_layer (layer_of sdf dims z) dims low high z ≡ answers 0 true
  yes-every t z l h =
      sym (layer-answered z l h) ∙ ap (answers 0) (is_true (layer_enclosed (layer_grid (layer_of sdf dims z) dims z) (box_from low high) z) (grid-then-layers t z l h))
