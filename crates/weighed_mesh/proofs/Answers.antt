-- Document 02, request 14, over the answers of the call itself: each law of the volume, for any calls with these arguments. Assumes nothing.
use Prim.Native.Nat.{ℕ, ◌+◌, ◌*◌, ◌/◌, ◌%◌, ◌^◌, ◌≤◌, ◌<◌}
use native.Mathlib.Omega.{arith}
use mathlib.Core.Bool.{Bool, true, false, not, ◌||◌, true≢false}
use mathlib.Core.List.{List, [], ◌∷◌, ◌++◌}
use mathlib.Core.Path.{◌≡◌, refl, sym, ap, ap₂, subst, ◌∙◌}
use borrow.Author.Tests.{leb-false}
use lib.Dec.{T}
use lib.IntN.{neg_ℤ, nat_abs, ◌+ℤ◌}
use lib.ListN.{length, get_or}
use lib.Ieee.{Float, nan}
use Rattle.lists.specs.Lists.{some}
use Rattle.lists.proofs.Lists.{All, none, more, all_then}
use Rattle.lists.proofs.Permutation.{Perm}
use Rattle.skin.specs.Links.{links}
use Rattle.volume.specs.declared.Corner.{Corner}
use Rattle.volume.specs.Steps.{outside, steps}
use Rattle.volume.specs.Volume.{Near, corner_at, determinant, sum_over}
use Rattle.volume.specs.Answers.{Weighed, not_threes, no_vertex, some_outside, weighed, weighing}
use Rattle.volume.specs.Triangles.{turned_round, Rolled, triangles}
use Rattle.volume.proofs.Answering.{in-threes, few-enough}
use Rattle.volume.proofs.Bounds.{sum-most, determinant-most}
use Rattle.volume.proofs.Coordinate.{steps-near}
use Rattle.lists.proofs.Searching.{none-at}
use Rattle.volume.proofs.Weighing.{Accepted, accepted, weighs, round-weighs, rolled-weighs, order-weighs, joined-weighs}
use Rattle.weighed_mesh.specs.Told.{Told}
use Rattle.weighed_mesh.proofs.Sides.{Even}
use Rattle.weighed_mesh.proofs.Moved.{Shift, Moves, moved_sum}

-- an answer by the arguments alone
says_of : (t : Told) {p : List Float} {i : List ℕ} → t.positions ≡ p → t.indices ≡ i → t.says ≡ weighing p i
says_of t e f = t.told ∙ ap₂ weighing e f

-- "Turning every triangle round negates it."
pub told-round : (t u : Told) → u.positions ≡ t.positions → u.indices ≡ turned_round t.indices → u.says ≡ weighed t.says.answer (neg_ℤ t.says.volume)
told-round t u p i =
    says_of u p i ∙ round-weighs t.positions t.indices ∙ ap (λ (w : Weighed). weighed w.answer (neg_ℤ w.volume)) (sym t.told)

-- a turn of some triangles' corners in place
pub told-rolled : (t u : Told) → u.positions ≡ t.positions → Rolled t.indices u.indices → u.says ≡ t.says
told-rolled t u p r = says_of u p refl ∙ rolled-weighs t.positions r ∙ sym t.told

-- the triangles in another order
pub told-order : (t u : Told) → u.positions ≡ t.positions → length t.indices % 3 ≡ 0 → length u.indices % 3 ≡ 0 → Perm (triangles t.indices) (triangles u.indices) →
    u.says ≡ t.says
told-order t u p h k q = says_of u p refl ∙ order-weighs t.positions t.indices u.indices h k q ∙ sym t.told

-- "For two triangle lists over the same positions, the answer for one after the other is the sum of the two, where the joined list is within
-- the count."
pub told-joined : (t u v : Told) → u.positions ≡ t.positions → v.positions ≡ t.positions → v.indices ≡ t.indices ++ u.indices → t.says.answer ≡ 0 → u.says.answer ≡ 0
    → length v.indices / 3 ≤ 16384 → v.says ≡ weighed 0 (t.says.volume +ℤ u.says.volume)
told-joined t u v p q i g h few =
    let s : u.says ≡ weighing t.positions u.indices = says_of u p refl in
    says_of v q i
    ∙ joined-weighs t.positions t.indices u.indices (ap (λ (w : Weighed). w.answer) (sym t.told) ∙ g) (ap (λ (w : Weighed). w.answer) (sym s) ∙ h)
    (subst (λ (l : List ℕ). length l / 3 ≤ 16384) i few)
    ∙ ap₂ (λ (y z : Weighed). weighed 0 (y.volume +ℤ z.volume)) (sym t.told) (sym s)

-- ---- moved

or-both : (s t : Bool) → (s || t) ≡ false → (s ≡ false) × (t ≡ false)
or-both true t e = absurd (true≢false e)
or-both false t e = (refl, e)

none-all : {A : Type 0} (f : A → Bool) (l : List A) → some f l ≡ false → All (λ (x : A). f x ≡ false) l
unfolding some
none-all f [] e = none
none-all f (x ∷ l) e = more (or-both (f x) (some f l) e).0 (none-all f l (or-both (f x) (some f l) e).1)

-- "adding the same whole steps to every rounded coordinate, inside the permitted range, leaves the volume unchanged": for any list of triangles in
-- which each directed side occurs as often as its reverse, and any second list of positions from 0 to 128 whose steps are those of the first
-- and one whole number more for each axis
pub told_moved : (s : Shift) (t u : Told) → t.says.answer ≡ 0 → Even (links t.indices) → u.indices ≡ t.indices → length u.positions ≡ length t.positions
    → some_outside u.positions ≡ false → ((v : ℕ) → v < length t.positions / 3 → Moves s (corner_at t.positions v) (corner_at u.positions v)) → u.says ≡ t.says
told_moved s t u done even i long inside moves =
    says_of u refl i
    ∙ weighs u.positions t.indices
    (record {
      threes = ap (λ (n : ℕ). not_threes n || not_threes (length t.indices)) long ∙ a.threes;
      few = a.few;
      inside = inside;
      vertices = ap (λ (n : ℕ). some (no_vertex (n / 3)) t.indices) long ∙ a.vertices;
    })
    ∙ ap (weighed 0) (moved_sum s (corner_at t.positions) (corner_at u.positions) t.indices even all)
    ∙ sym (weighs t.positions t.indices a)
    ∙ sym t.told
  where
    a : Accepted t.positions t.indices
    a = accepted t.positions t.indices (ap (λ (w : Weighed). w.answer) (sym t.told) ∙ done)

    all : All (λ (v : ℕ). Moves s (corner_at t.positions v) (corner_at u.positions v)) t.indices
    all =
        all_then (λ (v : ℕ) (e : no_vertex (length t.positions / 3) v ≡ false). moves v (leb-false (length t.positions / 3) v e))
        (none-all (no_vertex (length t.positions / 3)) t.indices a.vertices)

-- ---- how large

near-at : (p : List Float) → some_outside p ≡ false → (v : ℕ) → v < length p / 3 → Near (corner_at p v)
near-at p e v h = record { x = near (3 * v) (omega arith); y = near (3 * v + 1) (omega arith); z = near (3 * v + 2) (omega arith) }
  where
    near : (i : ℕ) → i < length p → steps (get_or p i nan) ≤ 2 ^ 15
    near i k = steps-near (get_or p i nan) (subst (λ (t : Bool). T (not t)) (sym (none-at outside nan p e i k)) tt)

sum_bound : (at : ℕ → Corner) {l : List ℕ} → All (λ (i : ℕ). Near (at i)) l → 3 * nat_abs (sum_over at l) ≤ length l * 2 ^ 46
unfolding sum_over
sum_bound at none = omega arith
sum_bound at (more p none) = omega arith
sum_bound at (more p (more q none)) = omega arith
sum_bound at (more {x = i} p (more {x = j} q (more {x = k} {xs = is} r rest))) =
    omega (arith, sum-most (determinant (at i) (at j) (at k)) (sum_over at is), determinant-most (at i) (at j) (at k) p q r, sum_bound at rest)

-- a volume is at most 2^60 in magnitude
pub told-most : (t : Told) → t.says.answer ≡ 0 → nat_abs t.says.volume ≤ 2 ^ 60
told-most t done =
    subst (λ (w : Weighed). nat_abs w.volume ≤ 2 ^ 60) (sym (t.told ∙ weighs t.positions t.indices a))
    (omega (arith, sum_bound (corner_at t.positions) all, few-enough t.indices a.few, in-threes t.positions t.indices a.threes))
  where
    a : Accepted t.positions t.indices
    a = accepted t.positions t.indices (ap (λ (w : Weighed). w.answer) (sym t.told) ∙ done)

    all : All (λ (v : ℕ). Near (corner_at t.positions v)) t.indices
    all =
        all_then (λ (v : ℕ) (e : no_vertex (length t.positions / 3) v ≡ false). near-at t.positions a.inside v (leb-false (length t.positions / 3) v e))
        (none-all (no_vertex (length t.positions / 3)) t.indices a.vertices)
