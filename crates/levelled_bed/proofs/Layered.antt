-- The layers of a grid that are offered one after the other, from min z to max z, leave the levels of the whole call: where that is accepted each of them is, and
-- each leaves the levels of the columns so far. Assumes nothing.
use Prim.Native.Nat.{ℕ, zero, suc, ◌+◌, ◌-◌, ◌*◌, ◌≤◌, ◌<◌}
use native.Mathlib.Nat.{le_trans, le_of_eq, add_comm, add-zero, mul-zero, mul-add, mul-one, mul-le-mul_left}
use native.Mathlib.Omega.{arith}
use mathlib.Core.Bool.{Bool, true, false, not, ◌||◌, cond}
use mathlib.Core.List.{List, []}
use mathlib.Core.Path.{◌≡◌, refl, sym, ap, subst, ◌∙◌}
use borrow.Author.Tests.{eq-eqb, ne_eqb, le-ltb}
use lib.Dec.{T, eqb, ltb}
use lib.ListN.{length, get_or, drop, length-drop}
use lib.Seq.{get_or-take, get_or-drop, length-take-le}
use lib.Ieee.{Float, nan}
use Rattle.lists.specs.Lists.{some, run, up_to}
use Rattle.lists.proofs.Either.{or-none}
use Rattle.lists.proofs.Tests.{failed}
use Rattle.rules.specs.Grid.{GridPoint, Box, index, value, in_box}
use Rattle.rules.specs.Faces.{layer_points}
use Rattle.rules.specs.Call.{bad_layer, bad_distance, beyond}
use Rattle.rules.proofs.Indexes.{BoxFits, within, in-box, box-fits, box-within, right-length}
use Rattle.rules.proofs.Accepted.{distances-ok, ok-distances}
use Rattle.grid.specs.Layers.{in_layer}
use Rattle.levels.specs.Column.{first_level, level_step, level_up_to}
use Rattle.levels.specs.Columns.{across, columns, in_column, level_of, layer_level, changed}
use Rattle.levels.specs.Call.{grid_of, outside, bad_layers, bad_points, bad_distances, levels_answer, levels_after, layer_answer, layer_after}
use Rattle.levels.proofs.Changed.{changed-length, changed-same, changed-twice}
use Rattle.levels.proofs.Answering.{Accepted, layer-0}
use Rattle.levelled_bed.specs.Layers.{layer_at, below_nth, after_layers}
use Rattle.levelled_bed.proofs.Told.{column, column-in, when-levelled}

-- ---- arithmetic over bare numbers

in-plane : (x X y Y : ℕ) → x < X → y < Y → x + X * y < X * Y
in-plane x X y Y h l =
    let up : X * (y + 1) ≤ X * Y = mul-le-mul_left X l' in
    let row : X * (y + 1) ≡ X * y + X = mul-add X y 1 ∙ ap (λ (m : ℕ). X * y + m) (mul-one X) in
    last x X (X * y) (X * Y) h (le_trans (le_of_eq (sym row)) up)
  where
    l' : y + 1 ≤ Y
    l' = omega arith

    last : (x X p q : ℕ) → x < X → p + X ≤ q → x + p < q
    last x X p q h k = omega arith

in-grid : (P z Z : ℕ) → z < Z → P * z + P ≤ P * Z
in-grid P z Z h =
    let up : z + 1 ≤ Z = omega arith in
    le_trans (le_of_eq (sym (mul-add P z 1 ∙ ap (λ (m : ℕ). P * z + m) (mul-one P)))) (mul-le-mul_left P up)

-- ---- a layer of a grid

-- the box's points in a layer, read as those of a grid's first layer
abbrev pub flat_box : Box → Box
flat_box b = record { low = record { x = b.low.x; y = b.low.y; z = 0 }; high = record { x = b.high.x; y = b.high.y; z = 0 } }

module _ (grid : List Float) (d : GridPoint) where
  pub read_at : (x y z : ℕ) → x < d.x → y < d.y → get_or (layer_at grid d z) (x + d.x * y) nan ≡ get_or grid (x + d.x * y + d.x * d.y * z) nan
  read_at x y z h l =
      let P = d.x * d.y in
      let at = x + d.x * y in
      get_or-take P (drop (P * z) grid) at nan (in-plane x d.x y d.y h l)
      ∙ (get_or-drop (P * z) grid at nan ∙ ap (λ (m : ℕ). get_or grid m nan) (add_comm (P * z) at))

  layer-length : (z : ℕ) → d.x * d.y * z + d.x * d.y ≤ length grid → length (layer_at grid d z) ≡ d.x * d.y
  layer-length z h =
      let P = d.x * d.y in
      length-take-le P (drop (P * z) grid) (left (P * z) P (length grid) (length (drop (P * z) grid)) (length-drop (P * z) grid) h)
    where
      left : (a p n m : ℕ) → m ≡ n - a → a + p ≤ n → p ≤ m
      left a p n m e h = omega arith

-- ---- the layers of an accepted call

module _ (grid : List Float) (d : GridPoint) (b : Box) {room : ℕ} (a : Accepted grid d b room) where
  fits-box : BoxFits d b
  fits-box = box-fits d b (failed refl a.faultless.box)

  -- no distance of a layer is bad
  module _ (z : ℕ) (zs : (b.low.z ≤ z) × (z ≤ b.high.z)) where
    fine-at : (p : GridPoint) → T (in_box (flat_box b) p) → T (not (beyond (value (grid_of (layer_at grid d z) d) p)))
    fine-at p t =
        let w = within (flat_box b) p t in
        let q : GridPoint = record { x = p.x; y = p.y; z = z } in
        let there : T (in_box b q) = in-box b q (record { x = w.x; y = w.y; z = zs }) in
        let (hx, hy, hz) = box-within d b q (failed refl a.faultless.box) there in
        let floor : p.z ≡ 0 = omega (arith, w.z) in
        let flat : index d p ≡ p.x + d.x * p.y =
        ap (λ (m : ℕ). p.x + d.x * p.y + d.x * d.y * m) floor ∙ (ap (λ (m : ℕ). p.x + d.x * p.y + m) (mul-zero (d.x * d.y)) ∙ add-zero (p.x + d.x * p.y)) in
        subst (λ (x : Float). T (not (beyond x)))
        (sym (ap (λ (m : ℕ). get_or (layer_at grid d z) m nan) flat ∙ read_at grid d p.x p.y z hx hy))
        (distances-ok (grid_of grid d) b (failed refl a.distances) q there)

    fine-layer : bad_points d b (layer_at grid d z) ≡ false
    unfolding bad_distance bad_layer layer_points up_to run some
    fine-layer = first (bad_layer (grid_of (layer_at grid d z) d) b 0) (ok-distances (grid_of (layer_at grid d z) d) (flat_box b) fine-at)
      where
        first : (t : Bool) → T (not (t || false)) → t ≡ false
        first true h = absurd h
        first false h = refl

    long : length (layer_at grid d z) ≡ d.x * d.y
    long =
        let f = fits-box in
        let top : z < d.z = omega (arith, f.z) in
        layer-length grid d z
        (le_trans (in-grid (d.x * d.y) z d.z top) (le_of_eq (sym (right-length d (length grid) (failed refl a.faultless.size)))))

    inside : outside b z ≡ false
    inside = or-none (ltb z b.low.z) (ltb b.high.z z) (le-ltb z b.low.z zs.0) (le-ltb b.high.z z zs.1)

    -- what is read of it is the column's distance
    column-read : (j : ℕ) → j < columns b → (m : ℕ) → get_or (layer_at grid d z) (in_layer d (in_column b j m)) nan ≡ column grid d b j z
    column-read j h m =
        let f = fits-box in
        let some-across : 0 < across b = omega (arith, f.x) in
        let there = column-in b j some-across h z zs.0 zs.1 f.x.0 f.y.0 in
        let (hx, hy, hz) = box-within d b (in_column b j z) (failed refl a.faultless.box) there in
        read_at grid d (in_column b j z).x (in_column b j z).y z hx hy

  -- ---- the lowest, and one on another

  module _ (lower upper : List Float) (z : ℕ) (zs : (b.low.z ≤ z) × (z ≤ b.high.z)) (good : bad_layers d b lower upper z ≡ false)
      (fine : bad_distances d b lower upper z ≡ false) where
    accepted-layer : layer_answer lower upper d b z room ≡ 0
    accepted-layer = sym (layer-0 lower upper d b z room a.faultless.dims a.faultless.box (inside z zs) good fine a.room-holds)

  lengths-fine : (lower upper : List Float) (z want : ℕ) → length upper ≡ d.x * d.y → want ≡ cond (eqb z b.low.z) 0 (d.x * d.y) → length lower ≡ want
      → bad_layers d b lower upper z ≡ false
  lengths-fine lower upper z want e w f =
      or-none (not (eqb (length upper) (d.x * d.y))) (not (eqb (length lower) (cond (eqb z b.low.z) 0 (d.x * d.y))))
      (ap not (eq-eqb (length upper) (d.x * d.y) e)) (ap not (eq-eqb (length lower) (cond (eqb z b.low.z) 0 (d.x * d.y)) (f ∙ w)))

  nth_in : (n : ℕ) → n ≤ b.high.z - b.low.z → (b.low.z ≤ b.low.z + n) × (b.low.z + n ≤ b.high.z)
  nth_in n h = let f = fits-box in (omega arith, omega (arith, f.z))

  -- each is accepted
  pub layer-accepted : (n : ℕ) → n ≤ b.high.z - b.low.z → layer_answer (below_nth grid d b n) (layer_at grid d (b.low.z + n)) d b (b.low.z + n) room ≡ 0
  layer-accepted zero h =
      let z = b.low.z + 0 in
      let zs = nth_in 0 h in
      let low : eqb z b.low.z ≡ true = eq-eqb z b.low.z (add-zero b.low.z) in
      accepted-layer [] (layer_at grid d z) z zs
      (lengths-fine [] (layer_at grid d z) z 0 (long z zs) (sym (ap (λ (t : Bool). cond t 0 (d.x * d.y)) low)) refl)
      (or-none (bad_points d b (layer_at grid d z)) (cond (eqb z b.low.z) false (bad_points d b [])) (fine-layer z zs)
      (ap (λ (t : Bool). cond t false (bad_points d b [])) low))
  layer-accepted (suc n) h =
      let z = b.low.z + suc n in
      let zs = nth_in (suc n) h in
      let under : n ≤ b.high.z - b.low.z = omega arith in
      let ls = nth_in n under in
      let lower = layer_at grid d (b.low.z + n) in
      let other : eqb z b.low.z ≡ false = ne_eqb z b.low.z (λ e. absurd (omega (arith, e))) in
      accepted-layer lower (layer_at grid d z) z zs
      (lengths-fine lower (layer_at grid d z) z (d.x * d.y) (long z zs) (sym (ap (λ (t : Bool). cond t 0 (d.x * d.y)) other)) (long (b.low.z + n) ls))
      (or-none (bad_points d b (layer_at grid d z)) (cond (eqb z b.low.z) false (bad_points d b lower)) (fine-layer z zs)
      (ap (λ (t : Bool). cond t false (bad_points d b lower)) other ∙ fine-layer (b.low.z + n) ls))

  -- and leaves the levels of the columns so far
  abbrev pub levels_to : ℕ → ℕ → Float → Float
  levels_to n j _ = level_up_to (column grid d b j) b.low.z n

  when-taken : (lower upper : List Float) (z : ℕ) (old : List Float) → length old ≡ room → layer_answer lower upper d b z room ≡ 0
      → layer_after lower upper d b z old ≡ changed (layer_level d b lower upper z) 0 (columns b) old
  unfolding layer_after
  when-taken lower upper z old e h = rw (eq-eqb (layer_answer lower upper d b z (length old)) 0 (ap (layer_answer lower upper d b z) e ∙ h))

  first-layer : (n : ℕ) → n ≡ 0 → n ≤ b.high.z - b.low.z → (j : ℕ) → j < columns b → (old : Float)
      → layer_level d b [] (layer_at grid d (b.low.z + n)) (b.low.z + n) j old ≡ levels_to 0 j old
  unfolding layer_level level_up_to
  first-layer n e h j l old =
      let z = b.low.z + n in
      let zs = nth_in n h in
      let low : z ≡ b.low.z = omega arith in
      rw (eq-eqb z b.low.z low, column-read z zs j l z) (ap (λ (m : ℕ). first_level m (column grid d b j m)) low)

  next-layer : (n : ℕ) → suc n ≤ b.high.z - b.low.z → (j : ℕ) → j < columns b → (old : Float)
      → layer_level d b (layer_at grid d (b.low.z + n)) (layer_at grid d (b.low.z + suc n)) (b.low.z + suc n) j (levels_to n j old) ≡ levels_to (suc n) j old
  unfolding layer_level level_up_to
  next-layer n h j l old =
      let z = b.low.z + suc n in
      let under : n ≤ b.high.z - b.low.z = omega arith in
      let up : z ≡ suc (b.low.z + n) = omega arith in
      rw (ne_eqb z b.low.z (λ e. absurd (omega (arith, e))), column-read (b.low.z + n) (nth_in n under) j l z, column-read z (nth_in (suc n) h) j l z)
      (ap (λ (m : ℕ). level_step m (column grid d b j (b.low.z + n)) (column grid d b j m) (levels_to n j old)) up)

  pub after-layers : (n : ℕ) → n ≤ b.high.z - b.low.z → (old : List Float) → length old ≡ room
      → after_layers grid d b (suc n) old ≡ changed (levels_to n) 0 (columns b) old
  unfolding after_layers
  after-layers zero h old e =
      when-taken [] (layer_at grid d (b.low.z + 0)) (b.low.z + 0) old e (layer-accepted 0 h)
      ∙ changed-same (layer_level d b [] (layer_at grid d (b.low.z + 0)) (b.low.z + 0)) (levels_to 0) 0 (columns b) old
      (λ j k l. first-layer 0 refl h j l (get_or old j nan))
  after-layers (suc n) h old e =
      let under : n ≤ b.high.z - b.low.z = omega arith in
      let lower = layer_at grid d (b.low.z + n) in
      let upper = layer_at grid d (b.low.z + suc n) in
      let z = b.low.z + suc n in
      let so_far = after-layers n under old e in
      let f = layer_level d b lower upper z in
      ap (layer_after lower upper d b z) so_far
      ∙ (when-taken lower upper z (changed (levels_to n) 0 (columns b) old) (changed-length (levels_to n) 0 (columns b) old ∙ e) (layer-accepted (suc n) h)
      ∙ (changed-twice (levels_to n) f 0 (columns b) old
      ∙ changed-same (λ j o. f j (levels_to n j o)) (levels_to (suc n)) 0 (columns b) old (λ j k l. next-layer n h j l (get_or old j nan))))

-- ---- all of them leave the whole call's list

pub layers-are-whole : (grid : List Float) (d : GridPoint) (b : Box) (old : List Float) → levels_answer grid d b (length old) ≡ 0 → Accepted grid d b (length old)
    → after_layers grid d b (suc (b.high.z - b.low.z)) old ≡ levels_after grid d b old
unfolding level_of
layers-are-whole grid d b old e a =
    after-layers grid d b a (b.high.z - b.low.z) (le_of_eq refl) old refl ∙ sym (when-levelled grid d b old e)
