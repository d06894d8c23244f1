-- How many cells of a closed grid have all their corners in the tank: X - 1 on an axis of X points. Assumes nothing.
use Prim.Native.Nat.{ℕ, zero, suc, ◌+◌, ◌-◌, ◌*◌, ◌≤◌}
use native.Mathlib.Omega.{arith}
use mathlib.Core.Bool.{Bool, true, false, ◌&&◌}
use mathlib.Core.List.{List, [], ◌∷◌}
use mathlib.Core.Path.{◌≡◌, refl, ap, ◌∙◌}
use lib.Dec.{T, leb, le→leb}
use lib.Ieee.Fits.{and_i, and_l, and_r}
use Rattle.lists.specs.Lists.{one, up_to}
use Rattle.lists.proofs.Lists.{all-each, total, total-same, total-scaled}
use Rattle.lists.proofs.Runs.{up_to-none, up_to-last}
use Rattle.lists.proofs.Tests.{one_of, one-not, same_test}
use Rattle.rules.specs.Grid.{GridPoint, axis_x, axis_y, axis_z, between}
use Rattle.rules.specs.Faces.{points}
use Rattle.closing.specs.Closed.{closed_dims}
use Rattle.closed_bed.specs.Standing.{whole_box}
use Rattle.closed_bed.proofs.Enclosing.{open-side}
use Rattle.bounded_mesh.specs.Round.{Placing}
use Rattle.bounded_mesh.proofs.Sums.{total-append, by_rows}
use Rattle.bounded_mesh.proofs.Weights.{all_corners}
use Rattle.full_tank.specs.Tank.{cells_between}
use Rattle.full_tank.proofs.Tank.{Tank}
use Rattle.full_tank.proofs.Areas.{Whole, whole-corners, corners-whole}

-- ---- on one axis

pub within : (m k : ℕ) → 1 ≤ k → k ≤ m → T (between 1 m k)
within m k l h = and_i (leb 1 k) (leb k m) (le→leb 1 k l) (le→leb k m h)

abbrev found : ℕ → ℕ → ℕ
found m h = total (λ (k : ℕ). one (between 1 m k)) (up_to 0 h)

-- one more number
next : (m h : ℕ) → found m (suc h) ≡ found m h + one (between 1 m h)
unfolding total
next m h =
    ap (total (λ (k : ℕ). one (between 1 m k))) (up_to-last 0 h (omega arith))
    ∙ total-append (λ (k : ℕ). one (between 1 m k)) (up_to 0 h) (h ∷ [])
    ∙ (let e : one (between 1 m h) + 0 ≡ one (between 1 m h) = omega arith in ap (λ (n : ℕ). found m h + n) e)

start : (m : ℕ) → found m 0 ≡ 0
unfolding total
start m = ap (total (λ (k : ℕ). one (between 1 m k))) (up_to-none 0 0 (omega arith))

-- up to the last, and past it
so_far : (m h : ℕ) → h ≤ m + 1 → found m h ≡ h - 1
so_far m zero l = start m
so_far m (suc zero) l = let o = one-not (between 1 m 0) (λ t. omega (arith, (open-side m 0 t).0)) in omega (arith, next m 0, start m, o)
so_far m (suc (suc h)) l = let o = one_of (between 1 m (suc h)) (within m (suc h) (omega arith) (omega arith)) in omega (arith, next m (suc h), so_far m (suc h) (omega arith), o)

past : (m j : ℕ) → found m (m + 1 + j) ≡ m
past m zero = let e : m + 1 + 0 ≡ m + 1 = omega arith in ap (found m) e ∙ so_far m (m + 1) (omega arith) ∙ (let f : m + 1 - 1 ≡ m = omega arith in f)
past m (suc j) =
    let e : m + 1 + suc j ≡ suc (m + 1 + j) = omega arith in
    let o = one-not (between 1 m (m + 1 + j)) (λ t. omega (arith, (open-side m (m + 1 + j) t).1)) in
    ap (found m) e ∙ next m (m + 1 + j) ∙ (let f : found m (m + 1 + j) + one (between 1 m (m + 1 + j)) ≡ m = omega (arith, past m j, o) in f)

-- a closed axis of n open points has n + 3 of its own
on-axis : (n : ℕ) → found (n - 1) (n + 3 - 1 + 1) ≡ n - 1
on-axis n = let e : n + 3 - 1 + 1 ≡ n - 1 + 1 + (n + 2 - (n - 1)) = omega arith in ap (found (n - 1)) e ∙ past (n - 1) (n + 2 - (n - 1))

-- ---- on three

one-and : (s t : Bool) → one (s && t) ≡ one s * one t
one-and true true = refl
one-and true false = refl
one-and false true = refl
one-and false false = refl

three-ones : (x y z : Bool) → one (x && (y && z)) ≡ one z * one y * one x
three-ones x y z = let e = one-and x (y && z) in let f = one-and y z in rw (e, f) (omega arith)

out-of-y : (z y n : ℕ) → z * y * n ≡ z * n * y
out-of-y z y n = omega arith

out-of-z : (z n m : ℕ) → z * n * m ≡ n * m * z
out-of-z z n m = omega arith

module _ (f g h : ℕ → ℕ) (xs ys zs : List ℕ) where
  by_three : total (λ (z : ℕ). total (λ (y : ℕ). total (λ (x : ℕ). h z * g y * f x) xs) ys) zs ≡ total f xs * total g ys * total h zs
  by_three =
      total-same (all-each (λ (z : ℕ).
      total-same (all-each (λ (y : ℕ). total-scaled (h z * g y) f xs ∙ out-of-y (h z) (g y) (total f xs)) ys)
      ∙ total-scaled (h z * total f xs) g ys
      ∙ out-of-z (h z) (total f xs) (total g ys)) zs)
      ∙ total-scaled (total f xs * total g ys) h zs

module _ {d : GridPoint} {n : GridPoint → Bool} {v : Placing} (k : Tank d n v) where
  abbrev inside : GridPoint → Bool
  inside p = between 1 (d.x - 1) p.x && (between 1 (d.y - 1) p.y && between 1 (d.z - 1) p.z)

  side : (m j : ℕ) → T (between 1 (m - 1) j) → (1 ≤ j) × (j + 1 ≤ m)
  side m j t = let h = open-side (m - 1) j t in (h.0, omega (arith, h.0, h.1))

  in-side : (m j : ℕ) → (1 ≤ j) × (j + 1 ≤ m) → T (between 1 (m - 1) j)
  in-side m j h = within (m - 1) j h.0 (omega (arith, h.1))

  all-inside : (p : GridPoint) → all_corners n p ≡ inside p
  all-inside p = same_test (all_corners n p) (inside p) to from
    where
      to : T (all_corners n p) → T (inside p)
      to t =
          let w = corners-whole k p t in
          and_i (between 1 (d.x - 1) p.x) (between 1 (d.y - 1) p.y && between 1 (d.z - 1) p.z) (in-side d.x p.x (w axis_x))
          (and_i (between 1 (d.y - 1) p.y) (between 1 (d.z - 1) p.z) (in-side d.y p.y (w axis_y)) (in-side d.z p.z (w axis_z)))

      whole_of : T (inside p) → Whole d p
      whole_of t axis_x = side d.x p.x (and_l (between 1 (d.x - 1) p.x) (between 1 (d.y - 1) p.y && between 1 (d.z - 1) p.z) t)
      whole_of t axis_y =
          side d.y p.y (and_l (between 1 (d.y - 1) p.y) (between 1 (d.z - 1) p.z) (and_r (between 1 (d.x - 1) p.x) (between 1 (d.y - 1) p.y && between 1 (d.z - 1) p.z) t))
      whole_of t axis_z =
          side d.z p.z (and_r (between 1 (d.y - 1) p.y) (between 1 (d.z - 1) p.z) (and_r (between 1 (d.x - 1) p.x) (between 1 (d.y - 1) p.y && between 1 (d.z - 1) p.z) t))

      from : T (inside p) → T (all_corners n p)
      from t = whole-corners k p (whole_of t)

  abbrev on : ℕ → ℕ → ℕ
  on m j = one (between 1 (m - 1) j)

  pub cells-between : total (λ (p : GridPoint). one (all_corners n p)) (points (whole_box (closed_dims d))) ≡ cells_between d
  cells-between =
      total-same (all-each (λ (p : GridPoint). ap one (all-inside p) ∙ three-ones (between 1 (d.x - 1) p.x) (between 1 (d.y - 1) p.y) (between 1 (d.z - 1) p.z))
      (points (whole_box (closed_dims d))))
      ∙ by_rows (whole_box (closed_dims d)) (λ (p : GridPoint). on d.z p.z * on d.y p.y * on d.x p.x)
      ∙ by_three (on d.x) (on d.y) (on d.z) (up_to 0 (d.x + 3 - 1 + 1)) (up_to 0 (d.y + 3 - 1 + 1)) (up_to 0 (d.z + 3 - 1 + 1))
      ∙ (λ i. on-axis d.x i * on-axis d.y i * on-axis d.z i)
