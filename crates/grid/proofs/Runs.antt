-- Condition 5 of a run of distances, of a row, a layer and a box: each is the one below it over a list that grows at its end.
-- Assumes nothing.
use Prim.Native.Nat.{ℕ, zero, suc, ◌+◌, ◌-◌, ◌≤◌, ◌<◌}
use native.Mathlib.Nat.{le_refl}
use native.Mathlib.Numerals.{add-one}
use native.Mathlib.Omega.{arith}
use mathlib.Core.Bool.{Bool, false, not, ◌||◌, or-false}
use mathlib.Core.List.{List, [], ◌∷◌, ◌++◌, map}
use mathlib.Core.Path.{◌≡◌, refl, sym, ap, ap₂, ◌∙◌}
use lib.Dec.{T, eqb, eqb→eq, eqb_refl, T_not}
use lib.ListN.{get_or, length, take, drop}
use lib.Seq.{take-suc}
use Rattle.std.proofs.lemmas.List.{take_more, get_or-drop, length-drop}
use lib.Ieee.{Float, nan}
use Rattle.lists.specs.Lists.{run, up_to, some, below, many}
use Rattle.rules.specs.Grid.{GridPoint, Box, Field, index, value}
use Rattle.rules.specs.Faces.{layer_points, point_layers}
use Rattle.rules.specs.Call.{beyond, bad_layer, bad_distance}
use Rattle.lists.proofs.Lists.{all-each}
use Rattle.lists.proofs.Some.{some-append, some-joined, some-map, some_same, some-has}
use Rattle.lists.proofs.Runs.{up_to-last, up_to-none, up_to-once}
use Rattle.lists.proofs.Tests.{is_false, one_of, below_in}
use Rattle.grid.specs.declared.Block.{Block}
use Rattle.grid.specs.Block.{point, box_of, field_of}
use Rattle.grid.specs.Inside.{bad_run}

some_one : {A : Type 0} (f : A → Bool) (x : A) → some f (x ∷ []) ≡ f x
unfolding some
some_one f x = or-false (f x)

-- one element more at the end
some-last : {A : Type 0} (f : A → Bool) (s : List A) (x : A) → some f (s ++ (x ∷ [])) ≡ some f s || f x
some-last f s x = some-append f s (x ∷ []) ∙ ap (λ (b : Bool). some f s || b) (some_one f x)

-- ---- a run

-- one of the first distances of a list, and one more asked
pub asked-none : (l : List Float) → false ≡ some beyond (take 0 l)
unfolding some
asked-none l = refl

pub asked-more : (l : List Float) (j : ℕ) {bad more now' : Bool} → j < length l → bad ≡ some beyond (take j l) → more ≡ beyond (get_or l j nan) → now' ≡ (bad || more)
    → now' ≡ some beyond (take (j + 1) l)
asked-more l j h e d n =
    n ∙ ap₂ ◌||◌ e d ∙ sym (some-last beyond (take j l) (get_or l j nan)) ∙ ap (some beyond) (sym (take_more l j nan h))

-- the run that stands at a place of a list is the part that is lent from there
pub part-run : (l : List Float) (at n : ℕ) → at + n ≤ length l → some beyond (take n (drop at l)) ≡ bad_run l at n
unfolding some run
part-run l at zero h = refl
part-run l at (suc n) h =
    ap (some beyond) (take-suc (drop at l) n nan (omega (arith, length-drop at l)))
    ∙ some-last beyond (take n (drop at l)) (get_or (drop at l) n nan)
    ∙ ap₂ ◌||◌ (part-run l at n (omega arith)) (ap beyond (get_or-drop at l n nan))
    ∙ sym (some-last (λ (i : ℕ). beyond (get_or l (at + i) nan)) (run n) n)

-- ---- what a list from `from` on grows by, and its beginning

pub none_yet : (f : ℕ → Bool) (from : ℕ) → false ≡ some f (up_to from from)
unfolding some
none_yet f from = rw (up_to-none from from (le_refl from))

pub one_more : (f : ℕ → Bool) {from at : ℕ} {bad more now' : Bool} → from ≤ at → bad ≡ some f (up_to from at) → more ≡ f at → now' ≡ (bad || more) → now' ≡ some f
    (up_to from (at + 1))
one_more f {from} {at} h e d n = rw (n, e, d, add-one, up_to-last from at h) (sym (some-last f (up_to from at) at))

-- ---- a row, a layer and the box

row-index : (d : GridPoint) (low y z j : ℕ) → index d (record { x = low; y = y; z = z }) + j ≡ index d (record { x = low + j; y = y; z = z })
row-index d low y z j = omega arith

abbrev pub bad_row : List Float → Block → ℕ → ℕ → Bool
bad_row l k z y = bad_run l (index (point k.dims) (record { x = k.low.x; y = y; z = z })) (k.high.x + 1 - k.low.x)

row_is : (l : List Float) (k : Block) (z y : ℕ) → bad_row l k z y ≡ some (λ (p : GridPoint). beyond (value (field_of l k) p))
    (map (λ (x : ℕ). record { x = x; y = y; z = z }) (up_to k.low.x (k.high.x + 1)))
unfolding up_to
row_is l k z y =
    let here = point k.dims in
    some_same (all-each (λ (j : ℕ). ap (λ (i : ℕ). beyond (get_or l i nan)) (row-index here k.low.x y z j)) (run (k.high.x + 1 - k.low.x)))
    ∙ sym (some-map (λ (x : ℕ). beyond (get_or l (index here (record { x = x; y = y; z = z })) nan)) (λ (j : ℕ). k.low.x + j) (run (k.high.x + 1 - k.low.x)))
    ∙ sym (some-map (λ (p : GridPoint). beyond (value (field_of l k) p)) (λ (x : ℕ). record { x = x; y = y; z = z })
    (map (λ (j : ℕ). k.low.x + j) (run (k.high.x + 1 - k.low.x))))

pub layer-is : (l : List Float) (k : Block) (z : ℕ) → some (bad_row l k z) (up_to k.low.y (k.high.y + 1)) ≡ bad_layer (field_of l k) (box_of k) z
unfolding bad_layer layer_points
layer-is l k z =
    some_same (all-each (row_is l k z) (up_to k.low.y (k.high.y + 1)))
    ∙ sym (some-joined (λ (p : GridPoint). beyond (value (field_of l k) p)) (λ (y : ℕ). map (λ (x : ℕ). record { x = x; y = y; z = z }) (up_to k.low.x (k.high.x + 1)))
    (up_to k.low.y (k.high.y + 1)))

pub box-is : (l : List Float) (k : Block) → some (bad_layer (field_of l k) (box_of k)) (up_to k.low.z (k.high.z + 1)) ≡ bad_distance (field_of l k) (box_of k)
unfolding bad_distance
box-is l k = refl

-- a layer of a box of which no distance is beyond the cap
pub layer-good : (g : Field) (b : Box) → T (not (bad_distance g b)) → {z : ℕ} → (b.low.z ≤ z) × (z ≤ b.high.z) → false ≡ bad_layer g b z
unfolding bad_distance
layer-good g b ok {z} zs =
    let here = below_in b.low.z (b.high.z + 1) z zs.0 (omega arith) in
    let held : 0 < many (eqb z) (point_layers b) = omega (arith, up_to-once z b.low.z (b.high.z + 1), one_of (below b.low.z (b.high.z + 1) z) here) in
    sym (is_false (bad_layer g b z) (λ t. T_not (some (bad_layer g b) (point_layers b)) ok (some-has eqb eqb→eq eqb_refl (bad_layer g b) z t (point_layers b) held)))
