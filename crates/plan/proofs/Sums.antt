-- Sizes in two words: the number that they stand for is the number of points, no word passes 2^48 for one box, and two sums are equal, carried once,
-- exactly if their numbers are. Assumes nothing.
use Prim.Native.Nat.{ℕ, ◌+◌, ◌-◌, ◌*◌, ◌/◌, ◌%◌, ◌^◌, ◌≤◌}
use native.Mathlib.Nat.{mul-le-mul, add-mul, mul_assoc, mul_comm, div-add-mod'}
use native.Mathlib.Omega.{arith}
use mathlib.Core.Bool.{Bool, true, false, not, ◌||◌, cond}
use mathlib.Core.Path.{◌≡◌, sym, ap, ◌∙◌}
use lib.Dec.{T, ltb, eqb, eqb→eq, nltb→le}
use lib.Ieee.Fits.{and_i, and_l, and_r, eq→eqb}
use Rattle.lists.proofs.Tests.{nor-left, nor-right}
use Rattle.plan.specs.declared.Block.{Block}
use Rattle.plan.specs.Triples.{Region}
use Rattle.plan.specs.Triples.{Owned}
use Rattle.plan.specs.declared.size.Sum.{Sum}
use Rattle.plan.specs.Plan.{bad_side, bad_piece, bad_block}
use Rattle.plan.specs.Region.{box_of, owned_of}
use Rattle.plan.specs.Size.{side_of, Small, SmallAll, size_of, sizes_of, Most, MostAll, same_sum, value}
use Rattle.plan.proofs.Covering.{volume}

-- the two parts of a product, each times the third side, stand for the product of three
parted : (p z : ℕ) → p / 16777216 * z * 16777216 + p % 16777216 * z ≡ p * z
parted p z =
    ap (λ n. n + p % 16777216 * z) (mul_assoc (p / 16777216) z 16777216 ∙ ap (λ n. p / 16777216 * n) (mul_comm z 16777216) ∙ sym (mul_assoc (p / 16777216) 16777216 z))
    ∙ sym (add-mul (p / 16777216 * 16777216) (p % 16777216) z)
    ∙ ap (λ n. n * z) (div-add-mod' p 16777216)

pub size-value : (r : Region) → value (size_of r) ≡ volume (box_of r)
unfolding size_of
size-value r = parted (side_of r.x * side_of r.y) (side_of r.z)

-- ---- no word is large

pub plane-most : (a b : ℕ) → a ≤ 16777216 → b ≤ 16777216 → a * b ≤ 281474976710656
plane-most a b h k = mul-le-mul h k

pub high-most : (p z : ℕ) → p ≤ 281474976710656 → z ≤ 16777216 → p / 16777216 * z ≤ 281474976710656
high-most p z h k = plane-most (p / 16777216) z (omega arith) k

pub low-most : (p z : ℕ) → z ≤ 16777216 → p % 16777216 * z ≤ 281474976710656
low-most p z k = plane-most (p % 16777216) z (omega arith) k

pub size-most : (r : Region) → Small r → Most (2 ^ 48) (size_of r)
unfolding size_of
size-most r s = (
  high-most (side_of r.x * side_of r.y) (side_of r.z) (plane-most (side_of r.x) (side_of r.y) s.0 s.1) s.2,
  low-most (side_of r.x * side_of r.y) (side_of r.z) s.2,
)

-- a block that 42 does not refuse has no side above 2^24
cap : (low high : ℕ) → T (not (bad_side low high)) → high ≤ 16777216
cap low high t = nltb→le 16777216 high (nor-right (ltb 16777216 low) (ltb 16777216 high) (nor-right (ltb high low) (ltb 16777216 low || ltb 16777216 high) t))

along-small : (f : Bool) (low high : ℕ) → high ≤ 16777216 → cond f high (high - 1) - low ≤ 16777216
along-small true low high h = omega arith
along-small false low high h = omega arith

across-small : (low high : ℕ) → high ≤ 16777216 → high - (low + 1) ≤ 16777216
across-small low high h = omega arith

pub good-small : (b : Block) → T (not (bad_block b)) → SmallAll (owned_of b)
unfolding bad_piece owned_of
good-small b t =
    let X = bad_side b.min_x b.max_x in
    let Y = bad_side b.min_y b.max_y in
    let Z = bad_side b.min_z b.max_z in
    let x : b.max_x ≤ 16777216 = cap b.min_x b.max_x (nor-left X (Y || Z) t) in
    let y : b.max_y ≤ 16777216 = cap b.min_y b.max_y (nor-left Y Z (nor-right X (Y || Z) t)) in
    let z : b.max_z ≤ 16777216 = cap b.min_z b.max_z (nor-right Y Z (nor-right X (Y || Z) t)) in (
      (along-small b.max_plane_x b.min_x b.max_x x, across-small b.min_y b.max_y y, across-small b.min_z b.max_z z),
      (across-small b.min_x b.max_x x, along-small b.max_plane_y b.min_y b.max_y y, across-small b.min_z b.max_z z),
      (across-small b.min_x b.max_x x, across-small b.min_y b.max_y y, along-small b.max_plane_z b.min_z b.max_z z),
    )

pub sizes-most : (o : Owned) → SmallAll o → MostAll (2 ^ 48) (sizes_of o)
sizes-most o s = (size-most o.x s.0, size-most o.y s.1, size-most o.z s.2)

-- ---- equal sums

pub same-value : (a b : Sum) → T (same_sum a b) → value a ≡ value b
unfolding same_sum
same-value a b t =
    let L = eqb (a.low % 16777216) (b.low % 16777216) in
    let H = eqb (a.high + a.low / 16777216) (b.high + b.low / 16777216) in
    let l : a.low % 16777216 ≡ b.low % 16777216 = eqb→eq _ _ (and_l L H t) in
    let h : a.high + a.low / 16777216 ≡ b.high + b.low / 16777216 = eqb→eq _ _ (and_r L H t) in
    omega arith

pub value_same : (a b : Sum) → value a ≡ value b → T (same_sum a b)
unfolding same_sum
value_same a b e =
    and_i (eqb (a.low % 16777216) (b.low % 16777216)) (eqb (a.high + a.low / 16777216) (b.high + b.low / 16777216)) (eq→eqb l) (eq→eqb h)
  where
    l : a.low % 16777216 ≡ b.low % 16777216
    l = omega arith

    h : a.high + a.low / 16777216 ≡ b.high + b.low / 16777216
    h = omega arith
