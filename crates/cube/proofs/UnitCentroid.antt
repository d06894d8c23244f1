-- Document 01, "Under the caps .. each s component lies in [0, 1]": for any finite corner values of a surface cell each component of the centroid is from +0.0 up to 1,
-- and never -0.0. A point of a crossed edge is a mix of two corners; k points sum up to k at most, and k over k is 1. Assumes nothing.
use Rattle.std.proofs.Common.{◌≡◌, ℕ, zero, suc, ◌+◌, ◌/◌, ◌%◌, ◌^◌, ◌<◌, ◌≤◌, T, List, [], ◌∷◌, length, sym, ◌∙◌, subst, zero-le, add-zero, zero-add, arith, lit≤}
use lib.Ieee.{Float, binary32, le}
use Rattle.rounding.specs.Values.{plain, UpTo, Share, Held}
use Rattle.rounding.proofs.Sign.{plain-finite}
use Rattle.rounding.proofs.Bounds.{holds-whole}
use Rattle.rounding.proofs.Operations.{add-up, div-up, up-to-share}
use Rattle.rounding.proofs.Mixing.{mix-up}
use Rattle.rules.specs.Cell.{
  Vector,
  CubeEdge,
  zero32,
  one32,
  bit,
  zero_vector,
  plus,
  corner,
  surface,
  crosses,
  crossings,
  cube_edges,
  fraction,
  point_between,
  crossing_point,
  crossing_points,
  summed,
  centroid,
}
use Rattle.lists.proofs.Lists.{All, none, more, all_then, all_map, all_keep, many-most}
use Rattle.rules.proofs.Crossings.{crossings-points, three-to-twelve}
use Rattle.cube.proofs.Corners.{Each, Finite, Cell}
use Rattle.cube.proofs.Fraction.{Ends, cube-ends, share-of-edge, fraction-held, share-in-unit}

-- ---- a point

bit_up : (n : ℕ) → UpTo 1 (bit n)
bit_up zero = (tt, lit≤ tt)
bit_up (suc n) = (tt, lit≤ tt)

point-up : (f : Float) (a b : ℕ) → Held binary32 f → Share f → Each (UpTo 1) (point_between f a b)
unfolding point_between
point-up f a b h s = (
  mix-up binary32 f (bit (a % 2)) (bit (b % 2)) h s (bit_up (a % 2)) (bit_up (b % 2)),
  mix-up binary32 f (bit (a / 2 % 2)) (bit (b / 2 % 2)) h s (bit_up (a / 2 % 2)) (bit_up (b / 2 % 2)),
  mix-up binary32 f (bit (a / 4)) (bit (b / 4)) h s (bit_up (a / 4)) (bit_up (b / 4)),
)

pub crossing-point-up : (d : List Float) (e : CubeEdge) → Cell d → Ends e → T (crosses d e) → Each (UpTo 1) (crossing_point d e)
unfolding crossing_point
crossing-point-up d e c n t =
    let s = share-of-edge d e c n t in
    point-up (fraction (corner d e.a) (corner d e.b)) e.a e.b (fraction-held (corner d e.a) (corner d e.b) s) s

points-up : (d : List Float) → Cell d → All (Each (UpTo 1)) (crossing_points d)
unfolding crossing_points
points-up d c = all_map (crossing_point d) (all_keep (crosses d) (all_then (λ e n. crossing-point-up d e c n) cube-ends))

-- ---- their sum

plus-up : (k : ℕ) (v w : Vector) → k + 1 ≤ 2 ^ 24 → Each (UpTo k) v → Each (UpTo 1) w → Each (UpTo (k + 1)) (plus v w)
plus-up k v w h p q =
    let n = holds-whole binary32 (k + 1) h in
    (add-up binary32 k 1 v.x w.x n p.0 q.0, add-up binary32 k 1 v.y w.y n p.1 q.1, add-up binary32 k 1 v.z w.z n p.2 q.2)

pub summed-up : (k : ℕ) (v : Vector) (ps : List Vector) → k + length ps ≤ 2 ^ 24 → Each (UpTo k) v → All (Each (UpTo 1)) ps → Each (UpTo (k + length ps)) (summed v ps)
unfolding summed
summed-up k v [] h p none = rw add-zero p
summed-up k v (w ∷ ps) h p (more q r) =
    let e : k + 1 + length ps ≡ k + suc (length ps) = omega arith in
    subst (λ (n : ℕ). Each (UpTo n) (summed (plus v w) ps)) e
    (summed-up (k + 1) (plus v w) ps (omega arith) (plus-up k v w (omega arith) p q) r)

-- ---- the centroid

-- no more crossings than edges
crossings-most : (d : List Float) → crossings d ≤ 12
unfolding crossings
crossings-most d = many-most (crosses d) cube_edges

sum-up : (d : List Float) → Cell d → Each (UpTo (crossings d)) (summed zero_vector (crossing_points d))
sum-up d c =
    let n = sym (crossings-points d) in
    let b : 0 + length (crossing_points d) ≤ 2 ^ 24 = omega (arith, n, crossings-most d) in
    subst (λ (k : ℕ). Each (UpTo k) (summed zero_vector (crossing_points d))) (zero-add (length (crossing_points d)) ∙ n)
    (summed-up 0 zero_vector (crossing_points d) b ((tt, zero-le), (tt, zero-le), (tt, zero-le)) (points-up d c))

pub centroid-up : (d : List Float) → Cell d → T (surface d) → Each (UpTo 1) (centroid d)
unfolding centroid
centroid-up d c s =
    let k = crossings d in
    let K : 0 < k = omega (arith, three-to-twelve d c.0 s) in
    let h : k ≤ 2 ^ 24 = omega (arith, crossings-most d) in
    let v = summed zero_vector (crossing_points d) in
    let u = sum-up d c in
    (div-up binary32 k v.x K h u.0, div-up binary32 k v.y K h u.1, div-up binary32 k v.z K h u.2)

-- ---- the same by the order of floats

-- finite, from 0 to 1, and the sign is clear
abbrev pub InUnit : Float → Type 0
InUnit v = Finite v × T (plain v) × T (le zero32 v) × T (le v one32)

up-to-one : (v : Float) → UpTo 1 v → InUnit v
up-to-one v u =
    let r = share-in-unit v (up-to-share v u) in
    (plain-finite v u.0, u.0, r.0, r.1)

pub centroid-in-unit : (d : List Float) → Cell d → T (surface d) → Each InUnit (centroid d)
centroid-in-unit d c s =
    let u = centroid-up d c s in
    (up-to-one (centroid d).x u.0, up-to-one (centroid d).y u.1, up-to-one (centroid d).z u.2)
