-- A cell whose four corners on one side of an axis are wall: where the wall is the lower side, the centroid is 1 on that axis, and where it is the upper one,
-- at most 2 ^ -25. So the position is that of the side that is no wall. Assumes nothing.
use Prim.Native.Nat.{ℕ, suc, ◌+◌, ◌*◌, ◌/◌, ◌%◌, ◌^◌, ◌≤◌, ◌<◌, zero-le}
use native.Mathlib.Nat.{le_trans, le_of_eq, le_antisymm, add-zero, zero-add, zero-mul, one-mul, mul-one, mul_comm, mul_right_comm, mul-pos, mul-le-mul_right, le_of_mul-le-mul_right, not-suc-le-zero}
use native.Mathlib.Omega.{arith}
use mathlib.Core.Bool.{Bool, true, false}
use mathlib.Core.List.{List, [], ◌∷◌}
use mathlib.Core.Logic.{◌⊎◌, inl, inr}
use mathlib.Core.Path.{◌≡◌, refl, sym, ap, subst, ◌∙◌}
use lib.Count.{count_trailing_zeros}
use lib.Dec.{T, lit≤, lit<, ltb→lt, lt→ltb}
use lib.Pow.{pow_pos}
use lib.ListN.{length}
use lib.Ieee.{Float, nan, inf, fin, binary32, unlike, up, down, round, size, span, climb, units, odd, neg, sum, add, sub, mul, lt, of_int}
use lib.Ieee.Scale.{finite}
use lib.Ieee.Bits.{is_true}
use lib.Ieee.Exact.{HasValue}
use lib.Ieee.Positive.{num, den, den_pos, first_pos}
use Rattle.lists.proofs.Tests.{is-test}
use Rattle.lists.proofs.Lists.{All, none, more, all_then, all_map, all_keep, many-most}
use Rattle.rules.specs.Grid.{GridPoint, Axis, axis_x, axis_y, axis_z, along}
use Rattle.rules.specs.Cell.{Vector, CubeEdge, cube_edges, zero32, one32, float, bit, zero_vector, plus, divided, corner, negative, surface, crosses, crossings, fraction, point_between, crossing_point, crossing_points, summed, centroid, position, ◌⊕◌, ◌⊗◌, ◌⊖◌, ◌⊘◌}
use Rattle.rules.proofs.Crossings.{crossings-points, three-to-twelve}
use Rattle.rounding.specs.Values.{weak, below_zero, UpTo, Share, Held}
use Rattle.rounding.proofs.Sign.{weak-finite}
use Rattle.rounding.proofs.Bounds.{at_most, holds-steps, holds-whole}
use Rattle.rounding.proofs.Operations.{add_is, mul-up, mul-within}
use Rattle.rounding.proofs.Mixing.{mul-part, nothing-weak, rest_up}
use Rattle.cube.proofs.Corners.{Cell}
use Rattle.cube.proofs.Fraction.{Ends, cube-ends, share-of-edge, fraction-held}
use Rattle.closing.specs.Wall.{wall_at}
use Rattle.closed_bed.specs.Standing.{Deep, component}
use Rattle.closed_bed.proofs.Tiny.{Tiny, tiny-add, tiny-div, tiny-shift}
use Rattle.closed_bed.proofs.Ones.{one_kept, ones-add, ones_over}
use Rattle.closed_bed.proofs.Fractions.{from-wall, to-wall}

-- ---- one axis of a vector, and of a corner

-- the corner's side: 0 the lower, 1 the upper
abbrev pub side_of : Axis → ℕ → ℕ
side_of axis_x i = i % 2
side_of axis_y i = i / 2 % 2
side_of axis_z i = i / 4

between_is : (a : Axis) (f : Float) (p q : ℕ) → component a (point_between f p q) ≡ (one32 ⊖ f) ⊗ bit (side_of a p) ⊕ f ⊗ bit (side_of a q)
unfolding point_between
between_is axis_x f p q = refl
between_is axis_y f p q = refl
between_is axis_z f p q = refl

plus-is : (a : Axis) (v w : Vector) → component a (plus v w) ≡ component a v ⊕ component a w
plus-is axis_x v w = refl
plus-is axis_y v w = refl
plus-is axis_z v w = refl

divided-is : (a : Axis) (v : Vector) (k : Float) → component a (divided v k) ≡ component a v ⊘ k
divided-is axis_x v k = refl
divided-is axis_y v k = refl
divided-is axis_z v k = refl

position-is : (a : Axis) (c : GridPoint) (s : Vector) → component a (position c s) ≡ float (along a c) ⊕ component a s
unfolding position
position-is axis_x c s = refl
position-is axis_y c s = refl
position-is axis_z c s = refl

-- ---- an edge lies in the lower side, in the upper one, or goes from the one to the other

data Runs (a : Axis) (e : CubeEdge) : Type 0 where
  low : side_of a e.a ≡ 0 → side_of a e.b ≡ 0 → Runs a e
  high : side_of a e.a ≡ 1 → side_of a e.b ≡ 1 → Runs a e
  across : side_of a e.a ≡ 0 → side_of a e.b ≡ 1 → Runs a e

runs : (a : Axis) → All (Runs a) cube_edges
runs axis_x =
    more (across refl refl) (more (low refl refl) (more (low refl refl) (more (high refl refl) (more (high refl refl) (more (across refl refl)
    (more (low refl refl) (more (high refl refl) (more (across refl refl) (more (low refl refl) (more (high refl refl) (more (across refl refl) none)))))))))))
runs axis_y =
    more (low refl refl) (more (across refl refl) (more (low refl refl) (more (across refl refl) (more (low refl refl) (more (high refl refl)
    (more (high refl refl) (more (high refl refl) (more (low refl refl) (more (across refl refl) (more (across refl refl) (more (high refl refl) none)))))))))))
runs axis_z =
    more (low refl refl) (more (low refl refl) (more (across refl refl) (more (low refl refl) (more (across refl refl) (more (low refl refl)
    (more (across refl refl) (more (across refl refl) (more (high refl refl) (more (high refl refl) (more (high refl refl) (more (high refl refl) none)))))))))))

-- ---- points on a side

-- the end that is 1, at the fraction 1
unit-end : (one32 ⊖ one32) ⊗ zero32 ⊕ one32 ⊗ one32 ≡ one32
unfolding add sub mul neg sum round size span climb units odd count_trailing_zeros
unit-end = refl

one_on : float 0 ⊕ one32 ≡ float 1
unfolding of_int add sum round size span climb units odd count_trailing_zeros
one_on = refl

-- P / dp is nothing, and Q / dq at most 1 / B
with_nothing : (P dp Q dq B : ℕ) → P ≡ 0 → Q * B ≤ 1 * dq → (P * dq + Q * dp) * B ≤ 1 * (dp * dq)
with_nothing P dp Q dq B z h =
    let left : (P * dq + Q * dp) * B ≡ Q * B * dp = rw z (ap (λ (n : ℕ). (n + Q * dp) * B) (zero-mul dq) ∙ ap (λ (n : ℕ). n * B) (zero-add (Q * dp)) ∙ mul_right_comm Q dp B) in
    let right : 1 * dq * dp ≡ 1 * (dp * dq) = ap (λ (n : ℕ). n * dp) (one-mul dq) ∙ mul_comm dq dp ∙ sym (one-mul (dp * dq)) in
    le_trans (le_of_eq left) (le_trans (mul-le-mul_right dp h) (le_of_eq right))

mixed : (f q : Float) → Share f → T (weak q) → num q * 2 ^ 25 ≤ 1 * den q → Tiny 1 ((one32 ⊖ f) ⊗ zero32 ⊕ q)
mixed f q s w h =
    let p = (one32 ⊖ f) ⊗ zero32 in
    let z : UpTo 0 p = mul-up binary32 1 0 (one32 ⊖ f) zero32 (holds-whole binary32 0 (lit≤ tt)) (rest_up binary32 f s) (tt, lit≤ tt) in
    let none' : num p ≡ 0 = le_antisymm (le_trans z.1 (le_of_eq (zero-mul (den p)))) zero-le in
    rw (add_is binary32 p q z.0 w)
    (at_most binary32 1 (2 ^ 25) (num p * den q + num q * den p) (den p * den q) (holds-steps binary32 1 25 (lit< tt) (lit≤ tt)) (pow_pos 25) (mul-pos (den_pos p) (den_pos q))
    (with_nothing (num p) (den p) (num q) (den q) (2 ^ 25) none' h))

-- both ends at 0
nothing-mixed : (f : Float) → Share f → Tiny 1 ((one32 ⊖ f) ⊗ zero32 ⊕ f ⊗ zero32)
nothing-mixed f s =
    let q = f ⊗ zero32 in
    let r = nothing-weak q (mul-within binary32 1 0 f zero32 (holds-whole binary32 0 (lit≤ tt)) (weak-finite f s.0, le_trans s.1 (le_of_eq (sym (one-mul (den f))))) (tt, lit≤ tt)) in
    mixed f q s r.0 (le_trans (le_of_eq (ap (λ (n : ℕ). n * 2 ^ 25) r.1)) zero-le)

-- the end that is 1, at a fraction that is tiny
tiny-mixed : (f : Float) → Share f → Held binary32 f → Tiny 1 f → Tiny 1 ((one32 ⊖ f) ⊗ zero32 ⊕ f ⊗ one32)
tiny-mixed f s k t =
    let q = f ⊗ one32 in
    let r = mul-part binary32 f one32 k s.0 (tt, lit≤ tt) in
    mixed f q s r.0 (less (num q) (den q) (num f) (den f) (2 ^ 25) (den_pos f) r.1 t.1)
  where
    less : (Q dq F df B : ℕ) → 0 < df → Q * df ≤ F * dq → F * B ≤ 1 * df → Q * B ≤ 1 * dq
    less Q dq F df B d0 g h =
        let x : Q * df * B ≤ F * dq * B = mul-le-mul_right B g in
        let y : F * B * dq ≤ 1 * df * dq = mul-le-mul_right dq h in
        let r : 1 * df * dq ≡ 1 * dq * df = ap (λ (n : ℕ). n * dq) (one-mul df) ∙ mul_comm df dq ∙ ap (λ (n : ℕ). n * df) (sym (one-mul dq)) in
        le_of_mul-le-mul_right (le_trans (le_of_eq (mul_right_comm Q B df)) (le_trans x (le_trans (le_of_eq (mul_right_comm F dq B)) (le_trans y (le_of_eq r))))) d0

-- ---- their sums

summed-ones : (a : Axis) (k : ℕ) (v : Vector) (ps : List Vector) → k + length ps ≤ 2 ^ 24 → HasValue (component a v) false k 1 → All (λ w. component a w ≡ one32) ps
    → HasValue (component a (summed v ps)) false (k + length ps) 1
unfolding summed
summed-ones a k v [] h p none = rw add-zero p
summed-ones a k v (w ∷ ps) h p (more q r) =
    let e : k + 1 + length ps ≡ k + suc (length ps) = omega arith in
    subst (λ (n : ℕ). HasValue (component a (summed (plus v w) ps)) false n 1) e
    (summed-ones a (k + 1) (plus v w) ps (omega arith)
    (subst (λ (x : Float). HasValue x false (k + 1) 1) (sym (plus-is a v w ∙ ap (λ (x : Float). component a v ⊕ x) q)) (ones-add k (component a v) (omega arith) p)) r)

summed-tiny : (a : Axis) (k : ℕ) (v : Vector) (ps : List Vector) → k + length ps < 2 ^ 24 → Tiny k (component a v) → All (λ w. Tiny 1 (component a w)) ps
    → Tiny (k + length ps) (component a (summed v ps))
unfolding summed
summed-tiny a k v [] h p none = rw add-zero p
summed-tiny a k v (w ∷ ps) h p (more q r) =
    let e : k + 1 + length ps ≡ k + suc (length ps) = omega arith in
    subst (λ (n : ℕ). Tiny n (component a (summed (plus v w) ps))) e
    (summed-tiny a (k + 1) (plus v w) ps (omega arith) (subst (Tiny (k + 1)) (sym (plus-is a v w)) (tiny-add k (component a v) (component a w) (omega arith) p q)) r)

zero-value : (a : Axis) → HasValue (component a zero_vector) false 0 1
zero-value axis_x = (refl, refl)
zero-value axis_y = (refl, refl)
zero-value axis_z = (refl, refl)

zero-tiny : (a : Axis) → Tiny 0 (component a zero_vector)
zero-tiny axis_x = (tt, lit≤ tt)
zero-tiny axis_y = (tt, lit≤ tt)
zero-tiny axis_z = (tt, lit≤ tt)

crossings-most : (d : List Float) → crossings d ≤ 12
unfolding crossings
crossings-most d = many-most (crosses d) cube_edges

both-all : {A : Type 0} {P Q : A → Type 0} {l : List A} → All P l → All Q l → All (λ x. P x × Q x) l
both-all none none = none
both-all (more p ps) (more q qs) = more (p, q) (both-all ps qs)

-- below zero, as a test
pub negative-below : (x : Float) → T (finite x) → T (negative x) → T (below_zero x)
unfolding lt
negative-below nan h n = absurd h
negative-below (inf s) h n = absurd h
negative-below (fin true m e) h n =
    let z : m * up e * 1 + 0 * down e ≡ m * up e = ap (λ (z : ℕ). m * up e * 1 + z) (zero-mul (down e)) ∙ add-zero (m * up e * 1) ∙ mul-one (m * up e) in
    lt→ltb 0 m (first_pos m (up e) (subst (λ (z : ℕ). 0 < z) z (ltb→lt 0 (m * up e * 1 + 0 * down e) n)))
negative-below (fin false m e) h n = absurd (not-suc-le-zero (subst (λ (z : ℕ). m * up e * 1 < z) (zero-mul (down e)) (ltb→lt (m * up e * 1) (0 * down e) n)))

-- ---- the cell: one side is wall, and what is negative is not too deep

module _ (k : ℕ) (few : k < 249) (held : Held binary32 (wall_at k)) (above : negative (wall_at k) ≡ false) (d : List Float) (cell : Cell d)
    (deep : (i : ℕ) → i < 8 → T (negative (corner d i)) → Deep (wall_at k) (corner d i)) where
  abbrev wall : Float
  wall = wall_at k

  -- an edge that crosses has a negative end, and the other is not
  crossing-ends : (e : CubeEdge) → T (crosses d e)
      → (T (negative (corner d e.a)) × (negative (corner d e.b) ≡ false)) ⊎ ((negative (corner d e.a) ≡ false) × T (negative (corner d e.b)))
  crossing-ends e t = go (negative (corner d e.a)) (negative (corner d e.b)) refl refl t
    where
      go : (x y : Bool) → negative (corner d e.a) ≡ x → negative (corner d e.b) ≡ y → T (unlike x y)
          → (T (negative (corner d e.a)) × (negative (corner d e.b) ≡ false)) ⊎ ((negative (corner d e.a) ≡ false) × T (negative (corner d e.b)))
      go true true p q t = absurd t
      go true false p q t = inl (is-test _ p, q)
      go false true p q t = inr (p, is-test _ q)
      go false false p q t = absurd t

  not-wall : (i : ℕ) → corner d i ≡ wall → T (negative (corner d i)) → ⊥
  not-wall i e t = clash (sym (is_true (negative (corner d i)) t) ∙ ap negative e ∙ above)
    where
      clash : true ≡ false → ⊥
      clash h = let z : ◌≡◌ {A = ℕ} 0 1 = cc in omega arith

  below : (i : ℕ) → i < 8 → T (negative (corner d i)) → T (below_zero (corner d i))
  below i h t = negative-below (corner d i) (cell.1 i h).1 t

  -- ---- the lower side is wall

  module _ (a : Axis) (shut : (i : ℕ) → i < 8 → side_of a i ≡ 0 → corner d i ≡ wall) where
    low-point : (e : CubeEdge) → Ends e → Runs a e → T (crosses d e) → component a (crossing_point d e) ≡ one32
    unfolding crossing_point
    low-point e n (low p q) t =
        elim (crossing-ends e t) [
          | inl w ↦ absurd (not-wall e.a (shut e.a n.0 p) w.0)
          | inr w ↦ absurd (not-wall e.b (shut e.b n.1 q) w.1)
        ]
    low-point e n (high p q) t =
        let f = fraction (corner d e.a) (corner d e.b) in
        let s = share-of-edge d e cell n t in
        between_is a f e.a e.b
        ∙ (λ j. (one32 ⊖ f) ⊗ bit (p j) ⊕ f ⊗ bit (q j))
        ∙ one_kept f (fraction-held (corner d e.a) (corner d e.b) s) s
    low-point e n (across p q) t =
        let f = fraction (corner d e.a) (corner d e.b) in
        elim (crossing-ends e t) [
          | inl w ↦ absurd (not-wall e.a (shut e.a n.0 p) w.0)
          | inr w ↦
              let one' : f ≡ one32 =
              ap (λ (x : Float). fraction x (corner d e.b)) (shut e.a n.0 p)
              ∙ from-wall k few held (corner d e.b) (below e.b n.1 w.1) (deep e.b n.1 w.1) in
              between_is a f e.a e.b ∙ (λ j. (one32 ⊖ one' j) ⊗ bit (p j) ⊕ one' j ⊗ bit (q j)) ∙ unit-end
        ]

    low-points : All (λ v. component a v ≡ one32) (crossing_points d)
    unfolding crossing_points
    low-points = all_map (crossing_point d) (all_keep (crosses d) (all_then (λ e h. low-point e h.0 h.1) (both-all cube-ends (runs a))))

    pub low-centroid : T (surface d) → component a (centroid d) ≡ one32
    unfolding centroid
    low-centroid s =
        let n = crossings d in
        let some : 0 < n = omega (arith, three-to-twelve d cell.0 s) in
        let few' : n ≤ 2 ^ 24 = omega (arith, crossings-most d) in
        divided-is a (summed zero_vector (crossing_points d)) (float n)
        ∙ ones_over n (component a (summed zero_vector (crossing_points d))) some few'
        (subst (λ (m : ℕ). HasValue (component a (summed zero_vector (crossing_points d))) false m 1) (zero-add (length (crossing_points d)) ∙ sym (crossings-points d))
        (summed-ones a 0 zero_vector (crossing_points d) (omega (arith, crossings-points d, crossings-most d)) (zero-value a) low-points))

    -- the cell's own coordinate is 0, and the position 1
    pub low-position : (c : GridPoint) → along a c ≡ 0 → T (surface d) → component a (position c (centroid d)) ≡ float 1
    low-position c e s = position-is a c (centroid d) ∙ (λ j. float (e j) ⊕ low-centroid s j) ∙ one_on

  -- ---- the upper side is wall

  module _ (a : Axis) (shut : (i : ℕ) → i < 8 → side_of a i ≡ 1 → corner d i ≡ wall) where
    high-point : (e : CubeEdge) → Ends e → Runs a e → T (crosses d e) → Tiny 1 (component a (crossing_point d e))
    unfolding crossing_point
    high-point e n (low p q) t =
        let f = fraction (corner d e.a) (corner d e.b) in
        let s = share-of-edge d e cell n t in
        subst (Tiny 1) (sym (between_is a f e.a e.b ∙ (λ j. (one32 ⊖ f) ⊗ bit (p j) ⊕ f ⊗ bit (q j)))) (nothing-mixed f s)
    high-point e n (high p q) t =
        elim (crossing-ends e t) [
          | inl w ↦ absurd (not-wall e.a (shut e.a n.0 p) w.0)
          | inr w ↦ absurd (not-wall e.b (shut e.b n.1 q) w.1)
        ]
    high-point e n (across p q) t =
        let f = fraction (corner d e.a) (corner d e.b) in
        let s = share-of-edge d e cell n t in
        elim (crossing-ends e t) [
          | inl w ↦
              let tiny : Tiny 1 f =
              subst (λ (x : Float). Tiny 1 (fraction (corner d e.a) x)) (sym (shut e.b n.1 q))
              (to-wall k few held (corner d e.a) (below e.a n.0 w.0) (deep e.a n.0 w.0)) in
              subst (Tiny 1) (sym (between_is a f e.a e.b ∙ (λ j. (one32 ⊖ f) ⊗ bit (p j) ⊕ f ⊗ bit (q j))))
              (tiny-mixed f s (fraction-held (corner d e.a) (corner d e.b) s) tiny)
          | inr w ↦ absurd (not-wall e.b (shut e.b n.1 q) w.1)
        ]

    high-points : All (λ v. Tiny 1 (component a v)) (crossing_points d)
    unfolding crossing_points
    high-points = all_map (crossing_point d) (all_keep (crosses d) (all_then (λ e h. high-point e h.0 h.1) (both-all cube-ends (runs a))))

    pub high-centroid : T (surface d) → Tiny 1 (component a (centroid d))
    unfolding centroid
    high-centroid s =
        let n = crossings d in
        let some : 0 < n = omega (arith, three-to-twelve d cell.0 s) in
        let few' : n ≤ 2 ^ 24 = omega (arith, crossings-most d) in
        subst (Tiny 1) (sym (divided-is a (summed zero_vector (crossing_points d)) (float n)))
        (tiny-div n (component a (summed zero_vector (crossing_points d))) some few'
        (subst (λ (m : ℕ). Tiny m (component a (summed zero_vector (crossing_points d)))) (zero-add (length (crossing_points d)) ∙ sym (crossings-points d))
        (summed-tiny a 0 zero_vector (crossing_points d) (omega (arith, crossings-points d, crossings-most d)) (zero-tiny a) high-points)))

    -- the position is the cell's own coordinate, from 1 on
    pub high-position : (c : GridPoint) → 1 ≤ along a c → along a c + 1 ≤ 2 ^ 24 → T (surface d) → component a (position c (centroid d)) ≡ float (along a c)
    high-position c h l s = position-is a c (centroid d) ∙ tiny-shift (along a c) (component a (centroid d)) h l (high-centroid s)
