-- The answers from what the tests found, one after the other. A layer is tried by the levels' own answer to it with no room for a level: the box has a column, so
-- that 78, the last of its answers, says that no condition before it holds. Assumes nothing.
use Prim.Native.Nat.{ℕ, ◌+◌, ◌-◌, ◌≤◌, ◌<◌}
use native.Mathlib.Nat.{mul-pos}
use native.Mathlib.Omega.{arith}
use mathlib.Core.Bool.{Bool, true, false, not, ◌||◌, cond}
use mathlib.Core.List.{List}
use mathlib.Core.Path.{◌≡◌, refl, sym, ap, ap₂, subst, ◌∙◌}
use borrow.Author.Tests.{lt-ltb, ltb-false, eq-eqb, ne_eqb}
use lib.Dec.{T, ltb}
use lib.ListN.{length}
use lib.Ieee.{Float}
use Rattle.lists.proofs.Tests.{failed}
use Rattle.lists.proofs.Either.{or_left, or_right}
use Rattle.rules.specs.Grid.{GridPoint, Box}
use Rattle.rules.specs.Call.{bad_dimensions, bad_box, bad_distance}
use Rattle.rules.proofs.Indexes.{box-fits}
use Rattle.grid.specs.declared.Block.{Block}
use Rattle.grid.specs.Block.{point, box_of, flags_of, field_of}
use Rattle.grid.specs.Faults.{first_fault}
use Rattle.grid.specs.Layers.{two_layers, InLayers}
use Rattle.grid.proofs.Faults.{Faultless, first-answers}
use Rattle.grid.proofs.Layers.{in-plane}
use Rattle.levels.specs.Columns.{across, columns}
use Rattle.levels.specs.Call.{outside, bad_layers, bad_distances, bad_room, layer_answer as levels_answer}
use Rattle.levels.proofs.Answering.{upper_long, lower_long}
use Rattle.std.specs.Prelude.{Result, Ok, Err, is_ok}
use Rattle.grid.specs.declared.checks.Fault.{Fault}
use Rattle.grid.specs.declared.checks.Fault.TheVariants.{Dimensions, Box as BoxFault, Length}
use Rattle.grid.specs.Faults.{number_of as fault_number}
use Rattle.levels.specs.declared.answers.Refusal.{Refusal as LevelsRefusal}
use Rattle.levels.specs.declared.answers.Refusal.TheVariants.{Grid as LevelsGrid, Distance as LevelsDistance, Outside as LevelsOutside, Room}
use Rattle.levels.specs.Answers.{answer_of as levels_of}
use Rattle.tally.specs.declared.refusal.Refusal.{Refusal}
use Rattle.tally.specs.Answers.{number_of, answer_of, unless_room}
use Rattle.tally.specs.declared.Counts.{Counts}
use Rattle.tally.specs.Call.{nothing, told, plus, counts_of, tally_answer, tallied, too_many, bad_counts, layer_counts, taken, layer_answer, layer_told}

-- ---- the whole grid

module _ (sdf : List Float) (k : Block) where
  pub tallied-fault : (first_fault (point k.dims) (box_of k) (length sdf) ≡ 0 → ⊥) → told (first_fault (point k.dims) (box_of k) (length sdf)) nothing ≡ tallied sdf k
  unfolding tallied tally_answer
  tallied-fault n =
      let e : first_fault (point k.dims) (box_of k) (length sdf) ≡ tally_answer sdf k =
      first-answers (point k.dims) (box_of k) (length sdf) (λ (m : ℕ). m) (cond (bad_distance (field_of sdf k) (box_of k)) 5 0) n in
      ap₂ told e (sym (ap (λ (t : Bool). cond t (counts_of (field_of sdf k) (box_of k) (flags_of k)) nothing) (ne_eqb (tally_answer sdf k) 0 (λ z. n (e ∙ z)))))

  module _ (f : Faultless (point k.dims) (box_of k) (length sdf)) where
    pub tallied-5 : bad_distance (field_of sdf k) (box_of k) ≡ true → told 5 nothing ≡ tallied sdf k
    unfolding tallied tally_answer
    tallied-5 t = rw (f.dims, f.box, f.size, t)

    pub tallied-0 : bad_distance (field_of sdf k) (box_of k) ≡ false → told 0 (counts_of (field_of sdf k) (box_of k) (flags_of k)) ≡ tallied sdf k
    unfolding tallied tally_answer
    tallied-0 t = rw (f.dims, f.box, f.size, t)

-- ---- a layer

-- no condition of the layers holds
pub record Good (lower upper : List Float) (k : Block) (z : ℕ) : Type 0 where
  pub dims : bad_dimensions (point k.dims) ≡ false
  pub box : bad_box (point k.dims) (box_of k) ≡ false
  pub inside : outside (box_of k) z ≡ false
  pub lengths : bad_layers (point k.dims) (box_of k) lower upper z ≡ false
  pub distances : bad_distances (point k.dims) (box_of k) lower upper z ≡ false

-- the conditions in their order: the levels', and these
abbrev levels_numbered : Bool → Bool → Bool → Bool → Bool → Bool → ℕ
levels_numbered p q r s t u = cond p 1 (cond q 2 (cond r 77 (cond s 3 (cond t 5 (cond u 78 0)))))

abbrev numbered : Bool → Bool → Bool → Bool → Bool → Bool → ℕ
numbered p q r s t u = cond p 1 (cond q 2 (cond r 91 (cond s 3 (cond t 5 (cond u 92 0)))))

-- a box has a column
some-column : (d : GridPoint) (b : Box) → bad_box d b ≡ false → bad_room b 0 ≡ true
some-column d b e =
    let f = box-fits d b (failed refl e) in
    let y : 0 < b.high.y + 1 - b.low.y = omega (arith, f.y) in
    let x : 0 < across b = omega (arith, f.x) in
    lt-ltb 0 (columns b) (mul-pos y x)

module _ (lower upper : List Float) (k : Block) (z : ℕ) {found : ℕ} (e : found ≡ levels_answer lower upper (point k.dims) (box_of k) z 0) where
  abbrev d : GridPoint
  d = point k.dims

  abbrev b : Box
  b = box_of k

  pub found-good : found ≡ 78 → Good lower upper k z
  unfolding levels_answer
  found-good h = go (bad_dimensions d) (bad_box d b) (outside b z) (bad_layers d b lower upper z) (bad_distances d b lower upper z) (bad_room b 0) refl refl refl refl refl (sym e ∙ h)
    where
      go : (p q r s t u : Bool) → bad_dimensions d ≡ p → bad_box d b ≡ q → outside b z ≡ r → bad_layers d b lower upper z ≡ s → bad_distances d b lower upper z ≡ t
          → levels_numbered p q r s t u ≡ 78 → Good lower upper k z
      go true q r s t u e1 e2 e3 e4 e5 n = absurd (omega arith)
      go false true r s t u e1 e2 e3 e4 e5 n = absurd (omega arith)
      go false false true s t u e1 e2 e3 e4 e5 n = absurd (omega arith)
      go false false false true t u e1 e2 e3 e4 e5 n = absurd (omega arith)
      go false false false false true u e1 e2 e3 e4 e5 n = absurd (omega arith)
      go false false false false false u e1 e2 e3 e4 e5 n = record { dims = e1; box = e2; inside = e3; lengths = e4; distances = e5 }

  module _ (sofar : Counts) where
    pub found-outside : found ≡ 77 → 91 ≡ layer_answer lower upper k z sofar
    unfolding levels_answer layer_answer
    found-outside h = go (bad_dimensions d) (bad_box d b) (outside b z) (bad_layers d b lower upper z) (bad_distances d b lower upper z) (bad_room b 0) (sym e ∙ h)
      where
        go : (p q r s t u : Bool) → levels_numbered p q r s t u ≡ 77 → 91 ≡ numbered p q r s t (bad_counts k z sofar)
        go true q r s t u n = absurd (omega arith)
        go false true r s t u n = absurd (omega arith)
        go false false true s t u n = refl
        go false false false true t u n = absurd (omega arith)
        go false false false false true u n = absurd (omega arith)
        go false false false false false true n = absurd (omega arith)
        go false false false false false false n = absurd (omega arith)

    pub found-other : (found ≡ 77 → ⊥) → (found ≡ 78 → ⊥) → (found ≡ layer_answer lower upper k z sofar) × (0 < found)
    unfolding levels_answer layer_answer
    found-other n m =
        let w =
        go (bad_dimensions d) (bad_box d b) (outside b z) (bad_layers d b lower upper z) (bad_distances d b lower upper z) (bad_room b 0) (some-column d b) refl
        (λ h. n (e ∙ h)) (λ h. m (e ∙ h)) in
        (e ∙ w.0, subst (λ (j : ℕ). 0 < j) (sym e) w.1)
      where
        go : (p q r s t u : Bool) → (bad_box d b ≡ false → u ≡ true) → bad_box d b ≡ q → (levels_numbered p q r s t u ≡ 77 → ⊥) → (levels_numbered p q r s t u ≡ 78 → ⊥)
            → (levels_numbered p q r s t u ≡ numbered p q r s t (bad_counts k z sofar)) × (0 < levels_numbered p q r s t u)
        go true q r s t u some h n' m' = (refl, omega arith)
        go false true r s t u some h n' m' = (refl, omega arith)
        go false false true s t u some h n' m' = absurd (n' refl)
        go false false false true t u some h n' m' = (refl, omega arith)
        go false false false false true u some h n' m' = (refl, omega arith)
        go false false false false false true some h n' m' = absurd (m' refl)
        go false false false false false false some h n' m' = absurd (never (some h))
          where
            never : false ≡ true → ⊥
            never h' = subst (λ (t : Bool). T (not t)) h' tt

-- the same of the levels' answer as the code has it, and of what it means here
refused-good : {r : Refusal} {u : Unit {0}} → ◌≡◌ {A = Result (Unit {0}) Refusal} (Err r) (Ok u) → ⊥
refused-good h = subst (λ (x : Result (Unit {0}) Refusal). T (not (is_ok x))) h tt

good-refused : {r : Refusal} {u : Unit {0}} → ◌≡◌ {A = Result (Unit {0}) Refusal} (Ok u) (Err r) → ⊥
good-refused h = subst (λ (x : Result (Unit {0}) Refusal). T (is_ok x)) h tt

low-fault : (f : Fault) → fault_number f ≤ 3
low-fault Dimensions = omega arith
low-fault BoxFault = omega arith
low-fault Length = omega arith

module _ (lower upper : List Float) (k : Block) (z : ℕ) where
  abbrev Found : Result (Unit {0}) LevelsRefusal → Type 0
  Found r = levels_of r ≡ levels_answer lower upper (point k.dims) (box_of k) z 0

  -- no layers are good with room for no level
  some-answer : {n : ℕ} → n ≡ 0 → n ≡ levels_answer lower upper (point k.dims) (box_of k) z 0 → ⊥
  some-answer {n} o e = let w = found-other lower upper k z e nothing (λ h. omega arith) (λ h. omega arith) in let p : 0 < n = w.1 in omega arith

  pub unless-good : (r : Result (Unit {0}) LevelsRefusal) → Found r → {u : Unit {0}} → unless_room r ≡ Ok u → Good lower upper k z
  unless-good (Ok v) e h = absurd (some-answer refl e)
  unless-good (Err Room) e h = found-good lower upper k z e refl
  unless-good (Err (LevelsGrid f)) e h = absurd (refused-good h)
  unless-good (Err LevelsDistance) e h = absurd (refused-good h)
  unless-good (Err LevelsOutside) e h = absurd (refused-good h)

  pub unless-other : (r : Result (Unit {0}) LevelsRefusal) → Found r → {s : Refusal} → unless_room r ≡ Err s → (sofar : Counts)
      → (number_of s ≡ layer_answer lower upper k z sofar) × (0 < number_of s)
  unless-other (Ok v) e h sofar = absurd (good-refused h)
  unless-other (Err Room) e h sofar = absurd (good-refused h)
  unless-other (Err (LevelsGrid f)) e h sofar =
      let l = low-fault f in
      let w = found-other lower upper k z e sofar (λ m. omega arith) (λ m. omega arith) in
      rw (← ap answer_of h) w
  unless-other (Err LevelsDistance) e h sofar =
      let w = found-other lower upper k z e sofar (λ m. omega arith) (λ m. omega arith) in
      rw (← ap answer_of h) w
  unless-other (Err LevelsOutside) e h sofar =
      let n : 91 ≡ layer_answer lower upper k z sofar = found-outside lower upper k z e sofar refl in
      rw (← ap answer_of h) (n, omega arith)

module _ {lower upper : List Float} {k : Block} {z : ℕ} (g : Good lower upper k z) (sofar : Counts) where
  pub good-first : z ≡ k.low.z → 0 ≡ layer_answer lower upper k z sofar
  unfolding layer_answer
  good-first e = rw (g.dims, g.box, g.inside, g.lengths, g.distances, eq-eqb z k.low.z e)

  pub good-92 : (z ≡ k.low.z → ⊥) → too_many sofar ≡ true → 92 ≡ layer_answer lower upper k z sofar
  unfolding layer_answer
  good-92 n t = rw (g.dims, g.box, g.inside, g.lengths, g.distances, ne_eqb z k.low.z n, t)

  pub good-0 : (z ≡ k.low.z → ⊥) → too_many sofar ≡ false → 0 ≡ layer_answer lower upper k z sofar
  unfolding layer_answer
  good-0 n t = rw (g.dims, g.box, g.inside, g.lengths, g.distances, ne_eqb z k.low.z n, t)

-- what is told with the answer: the counts so far, and the new ones
module _ (lower upper : List Float) (k : Block) (z : ℕ) (sofar : Counts) where
  pub layer-refused : {n : ℕ} → n ≡ layer_answer lower upper k z sofar → 0 < n → told n sofar ≡ layer_told lower upper k z sofar
  unfolding layer_told
  layer-refused {n} e some =
      ap₂ told e (sym (ap (λ (t : Bool). cond t (taken lower upper k z sofar) sofar) (ne_eqb (layer_answer lower upper k z sofar) 0 (λ h. none n some (e ∙ h)))))
    where
      none : (n : ℕ) → 0 < n → n ≡ 0 → ⊥
      none n some h = omega (arith, some, h)

  pub layer-done : {c : Counts} → 0 ≡ layer_answer lower upper k z sofar → c ≡ taken lower upper k z sofar → told 0 c ≡ layer_told lower upper k z sofar
  unfolding layer_told
  layer-done e h =
      ap₂ told e (h ∙ sym (ap (λ (t : Bool). cond t (taken lower upper k z sofar) sofar) (eq-eqb (layer_answer lower upper k z sofar) 0 (sym e))))

  pub taken-first : z ≡ k.low.z → nothing ≡ taken lower upper k z sofar
  taken-first e = rw (eq-eqb z k.low.z e)

  pub taken_next : (z ≡ k.low.z → ⊥) → plus sofar (layer_counts (two_layers lower upper k (z - 1)) (box_of k) (flags_of k) (z - 1)) ≡ taken lower upper k z sofar
  taken_next n = rw (ne_eqb z k.low.z n)

-- the counts so far are small
module _ (c : Counts) (e : too_many c ≡ false) where
  abbrev most : ℕ
  most = 1152921504606846976

  pub small-whole : c.whole ≤ 1152921504606846976
  small-whole = ltb-false most c.whole (or_left (ltb most c.whole) (ltb most c.vertices || ltb most c.indices) e)

  rest-false : (ltb most c.vertices || ltb most c.indices) ≡ false
  rest-false = or_right (ltb most c.whole) (ltb most c.vertices || ltb most c.indices) e

  pub small-vertices : c.vertices ≤ 1152921504606846976
  small-vertices = ltb-false most c.vertices (or_left (ltb most c.vertices) (ltb most c.indices) rest-false)

  pub small-indices : c.indices ≤ 1152921504606846976
  small-indices = ltb-false most c.indices (or_right (ltb most c.vertices) (ltb most c.indices) rest-false)

-- a layer above the lowest has cells below it, and the two layers hold them
module _ {lower upper : List Float} {k : Block} {z : ℕ} (g : Good lower upper k z) (n : z ≡ k.low.z → ⊥) where
  above : (low high : ℕ) → low ≤ z → z ≤ high → (z ≡ low → ⊥) → (1 ≤ z) × ((low ≤ z - 1) × (z - 1 < high))
  above low high l h m = (omega (arith, m), (omega (arith, m), omega (arith, m)))

  heights : (1 ≤ z) × ((k.low.z ≤ z - 1) × (z - 1 < k.high.z))
  heights =
      above k.low.z k.high.z (ltb-false z k.low.z (or_left (ltb z k.low.z) (ltb k.high.z z) g.inside))
      (ltb-false k.high.z z (or_right (ltb z k.low.z) (ltb k.high.z z) g.inside)) n

  pub one_below : 1 ≤ z
  one_below = heights.0

  pub cells-below : InLayers lower upper k (z - 1)
  cells-below =
      let f = box-fits (point k.dims) (box_of k) (failed refl g.box) in
      let last = in-plane (point k.dims) (point k.high) f.x.1 f.y.1 in
      let l = lower_long (point k.dims) (box_of k) lower upper z g.lengths (ne_eqb z k.low.z n) in
      let u = upper_long (point k.dims) (box_of k) lower upper z g.lengths in
      record {
        dims = failed refl g.dims;
        box = failed refl g.box;
        here = heights.1;
        lower_holds = rw l last;
        upper_holds = rw u last;
      }
