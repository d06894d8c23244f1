-- The answers from what the tests found, one after the other, and what the answer 0 says of each of them. Assumes nothing.
use Rattle.std.proofs.Common.{◌≡◌, ℕ, ◌+◌, ◌*◌, ◌<◌, ◌≤◌, Bool, true, false, cond, not, ◌||◌, T, eqb, ltb, List, length, sym, refl, ap, ◌∙◌, zero-le, le_trans, le_of_eq, add-zero, mul-le-mul_left, mul-one, arith, ltb-false, le-ltb, lt-ltb, eq-eqb, ne_eqb, eqb-true}
use borrow.Author.Tests.{not-false}
use lib.Ieee.{Float}
use Rattle.lists.proofs.Tests.{failed, nor-left, nor-right, nor-both}
use Rattle.lists.proofs.Either.{or_left, or_right}
use Rattle.rules.specs.Grid.{GridPoint, Box}
use Rattle.rules.specs.Faces.{layer_points}
use Rattle.rules.specs.Call.{bad_dimension, bad_dimensions, bad_side, bad_box, bad_length, bad_layer, bad_distance}
use Rattle.rules.proofs.Indexes.{box-fits}
use Rattle.grid.specs.declared.Extent.{Extent}
use Rattle.grid.specs.declared.Block.{Block}
use Rattle.grid.specs.Block.{point, box_of, field_of}
use Rattle.grid.specs.Faults.{first_fault}
use Rattle.grid.specs.Layers.{in_layer}
use Rattle.grid.specs.Inside.{Inside}
use Rattle.grid.proofs.Bounds.{few}
use Rattle.grid.proofs.Faults.{fault-some, Faultless, first-answers}
use Rattle.levels.specs.Columns.{columns, in_column, level_of, layer_level, changed}
use Rattle.levels.specs.Answers.{number_of}
use Rattle.levels.specs.declared.answers.Refusal.{Refusal}
use Rattle.levels.specs.declared.answers.Refusal.TheVariants.{Grid, Distance, Outside, Room}
use Rattle.levels.specs.Call.{grid_of, bad_room, levels_answer, levels_after, outside, bad_layers, bad_points, bad_distances, layer_answer, layer_after}
use Rattle.levels.specs.Fits.{Laid, column_step, lowest_step, Plane, Taken}
use Rattle.levels.proofs.Changed.{changed-same}

-- the box with no max plane, as the code has it
abbrev pub block_of : Extent → Extent → Extent → Block
block_of dims low high = record { dims = dims; low = low; high = high; max_plane = record { x = false; y = false; z = false } }

-- ---- the whole grid

-- the conditions in their order
abbrev numbered : Bool → Bool → Bool → Bool → Bool → ℕ
numbered p q r s t = cond p 1 (cond q 2 (cond r 3 (cond s 5 (cond t 78 0))))

-- what the answer 0 says
pub record Accepted (sdf : List Float) (d : GridPoint) (b : Box) (room : ℕ) : Type 0 where
  pub faultless : Faultless d b (length sdf)
  pub distances : bad_distance (grid_of sdf d) b ≡ false
  pub room-holds : columns b ≤ room

module _ (sdf : List Float) (d : GridPoint) (b : Box) (room : ℕ) where
  abbrev after-faults : ℕ
  after-faults = cond (bad_distance (grid_of sdf d) b) 5 (cond (bad_room b room) 78 0)

  pub levels-fault : (first_fault d b (length sdf) ≡ 0 → ⊥) → first_fault d b (length sdf) ≡ levels_answer sdf d b room
  unfolding levels_answer
  levels-fault n = first-answers d b (length sdf) (λ (m : ℕ). m) after-faults n

  pub levels-5 : Faultless d b (length sdf) → bad_distance (grid_of sdf d) b ≡ true → 5 ≡ levels_answer sdf d b room
  unfolding levels_answer
  levels-5 f t = rw (f.dims, f.box, f.size, t)

  pub levels-78 : Faultless d b (length sdf) → bad_distance (grid_of sdf d) b ≡ false → room < columns b → 78 ≡ levels_answer sdf d b room
  unfolding levels_answer
  levels-78 f t h = rw (f.dims, f.box, f.size, t, lt-ltb room (columns b) h)

  pub levels-0 : Faultless d b (length sdf) → bad_distance (grid_of sdf d) b ≡ false → columns b ≤ room → 0 ≡ levels_answer sdf d b room
  unfolding levels_answer
  levels-0 f t h = rw (f.dims, f.box, f.size, t, le-ltb room (columns b) h)

  pub levels-accepted : levels_answer sdf d b room ≡ 0 → Accepted sdf d b room
  unfolding levels_answer
  levels-accepted = go (bad_dimensions d) (bad_box d b) (bad_length d (length sdf)) (bad_distance (grid_of sdf d) b) (bad_room b room) refl refl refl refl refl
    where
      go : (p q r s t : Bool) → bad_dimensions d ≡ p → bad_box d b ≡ q → bad_length d (length sdf) ≡ r → bad_distance (grid_of sdf d) b ≡ s → bad_room b room ≡ t
          → numbered p q r s t ≡ 0 → Accepted sdf d b room
      go true q r s t e1 e2 e3 e4 e5 e = absurd (omega arith)
      go false true r s t e1 e2 e3 e4 e5 e = absurd (omega arith)
      go false false true s t e1 e2 e3 e4 e5 e = absurd (omega arith)
      go false false false true t e1 e2 e3 e4 e5 e = absurd (omega arith)
      go false false false false true e1 e2 e3 e4 e5 e = absurd (omega arith)
      go false false false false false e1 e2 e3 e4 e5 e =
          record { faultless = record { dims = e1; box = e2; size = e3 }; distances = e4; room-holds = ltb-false room (columns b) e5 }

-- the list afterwards
module _ (sdf : List Float) (d : GridPoint) (b : Box) (old : List Float) where
  pub levels-refused : {r : ℕ} → r ≡ levels_answer sdf d b (length old) → (r ≡ 0 → ⊥) → old ≡ levels_after sdf d b old
  unfolding levels_after
  levels-refused e n = rw (ne_eqb (levels_answer sdf d b (length old)) 0 (λ z. n (e ∙ z)))

  pub levels-done : {out : List Float} → levels_answer sdf d b (length old) ≡ 0 → out ≡ changed (λ j _. level_of (grid_of sdf d) b j) 0 (columns b) old → out ≡ levels_after sdf d b old
  unfolding levels_after
  levels-done e h = rw (eq-eqb (levels_answer sdf d b (length old)) 0 e) h

-- ---- a layer as a grid of its own

abbrev pub flat : Block → Block
flat k =
    record {
      dims = record { x = k.dims.x; y = k.dims.y; z = 1 };
      low = record { x = k.low.x; y = k.low.y; z = 0 };
      high = record { x = k.high.x; y = k.high.y; z = 0 };
      max_plane = k.max_plane;
    }

-- X·Y
pub product-few : (k : Block) → T (not (bad_dimensions (point k.dims))) → T (not (bad_box (point k.dims) (box_of k))) → k.dims.x * k.dims.y ≤ 1073741824
product-few k dims box =
    let f = box-fits (point k.dims) (box_of k) box in
    let deep : 1 ≤ k.dims.z = omega arith in
    le_trans (le_of_eq (sym (mul-one (k.dims.x * k.dims.y)))) (le_trans (mul-le-mul_left (k.dims.x * k.dims.y) deep) (few (point k.dims) dims))

module _ (k : Block) (layer : List Float) (o : Plane k layer) where
  flat-dims : T (not (bad_dimensions (point (flat k).dims)))
  unfolding bad_dimensions
  flat-dims =
      let d = k.dims in
      let all = nor-left (bad_dimension d.x || (bad_dimension d.y || bad_dimension d.z)) (ltb 1073741824 (d.x * d.y * d.z)) o.dims in
      let rest = nor-right (bad_dimension d.x) (bad_dimension d.y || bad_dimension d.z) all in
      let small : d.x * d.y * 1 ≤ 1073741824 = le_trans (le_of_eq (mul-one (d.x * d.y))) (product-few k o.dims o.box) in
      nor-both (bad_dimension d.x || (bad_dimension d.y || bad_dimension 1)) (ltb 1073741824 (d.x * d.y * 1))
      (nor-both (bad_dimension d.x) (bad_dimension d.y || bad_dimension 1) (nor-left (bad_dimension d.x) (bad_dimension d.y || bad_dimension d.z) all)
      (nor-both (bad_dimension d.y) (bad_dimension 1) (nor-left (bad_dimension d.y) (bad_dimension d.z) rest) tt))
      (failed refl (le-ltb 1073741824 (d.x * d.y * 1) small))

  flat-box : T (not (bad_box (point (flat k).dims) (box_of (flat k))))
  unfolding bad_box
  flat-box =
      let bx : Bool = bad_side k.dims.x k.low.x k.high.x in
      let by : Bool = bad_side k.dims.y k.low.y k.high.y in
      let bz : Bool = bad_side k.dims.z k.low.z k.high.z in
      nor-both bx (by || bad_side 1 0 0) (nor-left bx (by || bz) o.box) (nor-both by (bad_side 1 0 0) (nor-left by bz (nor-right bx (by || bz) o.box)) tt)

  pub flat-inside : Inside layer (flat k)
  unfolding bad_length
  flat-inside = record { dims = flat-dims; box = flat-box; size = rw (eq-eqb (length layer) (k.dims.x * k.dims.y * 1) (o.long ∙ sym (mul-one (k.dims.x * k.dims.y)))) tt }

-- its points in the box are those of its first layer
pub flat-points : (k : Block) (layer : List Float) → bad_layer (field_of layer (flat k)) (box_of (flat k)) 0 ≡ bad_points (point k.dims) (box_of k) layer
unfolding bad_layer layer_points
flat-points k layer = refl

-- ---- tests of a layer

module _ (b : Box) (z : ℕ) where
  pub outside_low : z < b.low.z → true ≡ outside b z
  outside_low h = rw (lt-ltb z b.low.z h)

  pub outside_high : b.low.z ≤ z → ltb b.high.z z ≡ outside b z
  outside_high h = rw (le-ltb z b.low.z h)

module _ (plane lower upper : ℕ) (lowest : Bool) where
  abbrev BadLengths : Bool
  BadLengths = not (eqb upper plane) || not (eqb lower (cond lowest 0 plane))

  pub lengths-upper : (upper ≡ plane → ⊥) → true ≡ BadLengths
  lengths-upper n = rw (ne_eqb upper plane n)

  pub lengths-lowest : upper ≡ plane → lowest ≡ true → not (eqb lower 0) ≡ BadLengths
  lengths-lowest e t = rw (eq-eqb upper plane e, t)

  pub lengths-other : upper ≡ plane → lowest ≡ false → not (eqb lower plane) ≡ BadLengths
  lengths-other e t = rw (eq-eqb upper plane e, t)

module _ {r a : Bool} (b lowest : Bool) where
  pub distances-upper : r ≡ a → r ≡ true → true ≡ (a || cond lowest false b)
  distances-upper e t = rw (← e, t)

  pub distances-lowest : r ≡ a → r ≡ false → lowest ≡ true → false ≡ (a || cond lowest false b)
  distances-lowest e t l = rw (← e, t, l)

  pub distances-other : r ≡ a → r ≡ false → lowest ≡ false → {s : Bool} → s ≡ b → s ≡ (a || cond lowest false b)
  distances-other e t l d = rw (← e, t, l, ← d)

-- ---- a layer's answer

abbrev layer_numbered : Bool → Bool → Bool → Bool → Bool → Bool → ℕ
layer_numbered p q r s t u = cond p 1 (cond q 2 (cond r 77 (cond s 3 (cond t 5 (cond u 78 0)))))

pub record Offered (lower upper : List Float) (d : GridPoint) (b : Box) (z room : ℕ) : Type 0 where
  pub dims : bad_dimensions d ≡ false
  pub box : bad_box d b ≡ false
  pub inside : outside b z ≡ false
  pub lengths : bad_layers d b lower upper z ≡ false
  pub distances : bad_distances d b lower upper z ≡ false
  pub room-holds : columns b ≤ room

module _ (lower upper : List Float) (d : GridPoint) (b : Box) (z room : ℕ) where
  pub layer-1 : bad_dimensions d ≡ true → 1 ≡ layer_answer lower upper d b z room
  unfolding layer_answer
  layer-1 p = rw p

  module _ (dims : bad_dimensions d ≡ false) where
    pub layer-2 : bad_box d b ≡ true → 2 ≡ layer_answer lower upper d b z room
    unfolding layer_answer
    layer-2 p = rw (dims, p)

    module _ (box : bad_box d b ≡ false) where
      pub layer-77 : outside b z ≡ true → 77 ≡ layer_answer lower upper d b z room
      unfolding layer_answer
      layer-77 p = rw (dims, box, p)

      module _ (inside : outside b z ≡ false) where
        pub layer-3 : bad_layers d b lower upper z ≡ true → 3 ≡ layer_answer lower upper d b z room
        unfolding layer_answer
        layer-3 p = rw (dims, box, inside, p)

        module _ (lengths : bad_layers d b lower upper z ≡ false) where
          pub layer-5 : bad_distances d b lower upper z ≡ true → 5 ≡ layer_answer lower upper d b z room
          unfolding layer_answer
          layer-5 p = rw (dims, box, inside, lengths, p)

          module _ (distances : bad_distances d b lower upper z ≡ false) where
            pub layer-78 : room < columns b → 78 ≡ layer_answer lower upper d b z room
            unfolding layer_answer
            layer-78 h = rw (dims, box, inside, lengths, distances, lt-ltb room (columns b) h)

            pub layer-0 : columns b ≤ room → 0 ≡ layer_answer lower upper d b z room
            unfolding layer_answer
            layer-0 h = rw (dims, box, inside, lengths, distances, le-ltb room (columns b) h)

  pub layer-offered : layer_answer lower upper d b z room ≡ 0 → Offered lower upper d b z room
  unfolding layer_answer
  layer-offered =
      go (bad_dimensions d) (bad_box d b) (outside b z) (bad_layers d b lower upper z) (bad_distances d b lower upper z) (bad_room b room) refl refl refl refl refl refl
    where
      go : (p q r s t u : Bool) → bad_dimensions d ≡ p → bad_box d b ≡ q → outside b z ≡ r → bad_layers d b lower upper z ≡ s → bad_distances d b lower upper z ≡ t
          → bad_room b room ≡ u → layer_numbered p q r s t u ≡ 0 → Offered lower upper d b z room
      go true q r s t u e1 e2 e3 e4 e5 e6 e = absurd (omega arith)
      go false true r s t u e1 e2 e3 e4 e5 e6 e = absurd (omega arith)
      go false false true s t u e1 e2 e3 e4 e5 e6 e = absurd (omega arith)
      go false false false true t u e1 e2 e3 e4 e5 e6 e = absurd (omega arith)
      go false false false false true u e1 e2 e3 e4 e5 e6 e = absurd (omega arith)
      go false false false false false true e1 e2 e3 e4 e5 e6 e = absurd (omega arith)
      go false false false false false false e1 e2 e3 e4 e5 e6 e =
          record { dims = e1; box = e2; inside = e3; lengths = e4; distances = e5; room-holds = ltb-false room (columns b) e6 }

-- the lengths as the code found them
pub lengths-told : (d : GridPoint) (b : Box) (lower upper : List Float) (z : ℕ) {m n : ℕ} {r : Bool} → m ≡ length lower → n ≡ length upper
    → r ≡ (not (eqb n (d.x * d.y)) || not (eqb m (cond (eqb z b.low.z) 0 (d.x * d.y)))) → bad_layers d b lower upper z ≡ r
lengths-told d b lower upper z p q e = sym (e ∙ rw (p, q))

-- what the lengths are
module _ (d : GridPoint) (b : Box) (lower upper : List Float) (z : ℕ) (good : bad_layers d b lower upper z ≡ false) where
  pub upper_long : length upper ≡ d.x * d.y
  upper_long = eqb-true (length upper) (d.x * d.y) (not-false (eqb (length upper) (d.x * d.y)) (or_left (not (eqb (length upper) (d.x * d.y)))
      (not (eqb (length lower) (cond (eqb z b.low.z) 0 (d.x * d.y)))) good))

  lower-as : length lower ≡ cond (eqb z b.low.z) 0 (d.x * d.y)
  lower-as =
      let n = cond (eqb z b.low.z) 0 (d.x * d.y) in
      eqb-true (length lower) n (not-false (eqb (length lower) n) (or_right (not (eqb (length upper) (d.x * d.y))) (not (eqb (length lower) n)) good))

  pub lower_long : eqb z b.low.z ≡ false → length lower ≡ d.x * d.y
  lower_long e = lower-as ∙ ap (λ (t : Bool). cond t 0 (d.x * d.y)) e

pub layer-taken : (k : Block) (lower upper : List Float) (z : ℕ) {room : ℕ} → Offered lower upper (point k.dims) (box_of k) z room → Taken k lower upper z room
layer-taken k lower upper z o =
    record {
      roomy = record { dims = failed refl o.dims; box = failed refl o.box; holds = o.room-holds };
      long = upper_long (point k.dims) (box_of k) lower upper z o.lengths;
      below = lower_long (point k.dims) (box_of k) lower upper z o.lengths;
    }

-- the list afterwards
module _ (lower upper : List Float) (d : GridPoint) (b : Box) (z : ℕ) (old : List Float) where
  pub layer-refused : {r : ℕ} → r ≡ layer_answer lower upper d b z (length old) → (r ≡ 0 → ⊥) → old ≡ layer_after lower upper d b z old
  unfolding layer_after
  layer-refused e n = rw (ne_eqb (layer_answer lower upper d b z (length old)) 0 (λ h. n (e ∙ h)))

  pub layer-done : {out : List Float} → layer_answer lower upper d b z (length old) ≡ 0 → out ≡ changed (layer_level d b lower upper z) 0 (columns b) old → out ≡ layer_after lower upper d b z old
  unfolding layer_after
  layer-done e h = rw (eq-eqb (layer_answer lower upper d b z (length old)) 0 e) h

-- ---- a layer that is taken

module _ (k : Block) (lower upper : List Float) (z : ℕ) (old : List Float) where
  pub lowest-taken : {last : List Float} → z ≡ k.low.z → last ≡ changed (lowest_step k upper 0 z) 0 (columns (box_of k)) old
      → last ≡ changed (layer_level (point k.dims) (box_of k) lower upper z) 0 (columns (box_of k)) old
  unfolding layer_level
  lowest-taken e el =
      el ∙ changed-same (lowest_step k upper 0 z) (layer_level (point k.dims) (box_of k) lower upper z) 0 (columns (box_of k)) old
      (λ j h l. rw (eq-eqb z k.low.z e, add-zero (in_layer (point k.dims) (in_column (box_of k) j z))))

  pub risen-taken : {last : List Float} → (z ≡ k.low.z → ⊥) → last ≡ changed (column_step k lower upper 0 0 z) 0 (columns (box_of k)) old
      → last ≡ changed (layer_level (point k.dims) (box_of k) lower upper z) 0 (columns (box_of k)) old
  unfolding layer_level
  risen-taken n el =
      el ∙ changed-same (column_step k lower upper 0 0 z) (layer_level (point k.dims) (box_of k) lower upper z) 0 (columns (box_of k)) old
      (λ j h l. rw (ne_eqb z k.low.z n, add-zero (in_layer (point k.dims) (in_column (box_of k) j z))))

-- a layer that is lent as a list of its own
pub laid-first : (k : Block) (upper : List Float) → length upper ≡ k.dims.x * k.dims.y → Laid k upper upper 0 0
laid-first k upper e =
    let h : 0 + k.dims.x * k.dims.y ≤ length upper = omega arith in
    record { below = h; here = h; few = (zero-le, zero-le) }

pub laid_both : (k : Block) (lower upper : List Float) → length lower ≡ k.dims.x * k.dims.y → length upper ≡ k.dims.x * k.dims.y → Laid k lower upper 0 0
laid_both k lower upper d e =
    let g : 0 + k.dims.x * k.dims.y ≤ length lower = omega arith in
    let h : 0 + k.dims.x * k.dims.y ≤ length upper = omega arith in
    record { below = g; here = h; few = (zero-le, zero-le) }

-- a refusal's number is not that of none
pub refused-some : (r : Refusal) → number_of r ≡ 0 → ⊥
refused-some (Grid f) e = fault-some f refl e
refused-some Distance e = omega arith
refused-some Outside e = omega arith
refused-some Room e = omega arith
