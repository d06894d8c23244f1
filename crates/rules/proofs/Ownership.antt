-- Ownership is one test for each axis, and a cut parts the test of its axis: each edge that the whole owns, one of the two pieces owns, and
-- no edge else. Any flags. Assumes nothing.
use Prim.Native.Nat.{ℕ, ◌+◌, ◌-◌, ◌≤◌, ◌<◌}
use native.Mathlib.Omega.{arith}
use mathlib.Core.Bool.{Bool, true, false, ◌&&◌, and-true, and-false, and_comm, and_assoc, not, ◌||◌}
use mathlib.Core.Logic.{◌⊎◌, inl, inr}
use mathlib.Core.Path.{◌≡◌, refl, sym, ap, ◌∙◌}
use lib.Dec.{T, ltb, eqb, eqb→eq, ltb→lt, lt→ltb, T_not, not_T}
use lib.Ieee.Fits.{and_i, and_l, and_r, eq→eqb}
use Rattle.lists.specs.Lists.{one, below}
use Rattle.rules.specs.Grid.{GridPoint, Box, is_cell, Axis, axis_x, axis_y, axis_z, along}
use Rattle.rules.specs.Faces.{Edge, above_low, inside_max, owned, edge, flag}
use Rattle.rules.specs.Cutting.{Piece, lower_piece, upper_piece}
use Rattle.lists.proofs.Tests.{split2, less-or-not, or-second, below-low, below-high, below_in}
use Rattle.rules.proofs.Edges.{same_axis}

-- ---- ownership, one test for each axis

-- on the edge's own axis: a cell, and not the last one unless max plane; on the two others: a cell above min
abbrev pub side : Bool → Bool → ℕ → ℕ → ℕ → Bool
side true f low high p = below low high p && (f || not (eqb p (high - 1)))
side false f low high p = below low high p && ltb low p

abbrev pub side_on : Axis → Axis → Piece → GridPoint → Bool
side_on a d w p = side (same_axis a d) (flag d w.flags) (along d w.box.low) (along d w.box.high) (along d p)

abbrev pub has : Piece → Edge → Bool
has q e = owned q.box q.flags e

swap-middle : (a b c d : Bool) → ((a && b) && (c && d)) ≡ ((a && c) && (b && d))
swap-middle true true c d = refl
swap-middle true false c d = sym (and-false c)
swap-middle false b c d = refl

-- three tests beside three tests, and each beside its own
pair-up : (x y z u v w : Bool) → ((x && (y && z)) && (u && (v && w))) ≡ ((x && u) && ((y && v) && (z && w)))
pair-up x y z u v w = swap-middle x (y && z) u (v && w) ∙ ap (λ t. (x && u) && t) (swap-middle y z v w)

turn : (u v w : Bool) → (u && (v && w)) ≡ (v && (w && u))
turn u v w = and_comm u (v && w) ∙ and_assoc v w u

pub owned-sides : (w : Piece) (a : Axis) (p : GridPoint) → has w (edge a p) ≡ (side_on a axis_x w p && (side_on a axis_y w p && side_on a axis_z w p))
unfolding owned
owned-sides w a p = go a
  where
    b : Box
    b = w.box

    x : Bool
    x = below b.low.x b.high.x p.x

    y : Bool
    y = below b.low.y b.high.y p.y

    z : Bool
    z = below b.low.z b.high.z p.z

    up : Axis → Bool
    up d = above_low d b p

    last : Axis → Bool
    last d = inside_max d b w.flags p

    go : (a : Axis) → has w (edge a p) ≡ (side_on a axis_x w p && (side_on a axis_y w p && side_on a axis_z w p))
    go axis_x = ap (λ t. is_cell b p && t) (sym (turn (last axis_x) (up axis_y) (up axis_z))) ∙ pair-up x y z (last axis_x) (up axis_y) (up axis_z)
    go axis_y = ap (λ t. is_cell b p && t) (turn (up axis_z) (up axis_x) (last axis_y)) ∙ pair-up x y z (up axis_x) (last axis_y) (up axis_z)
    go axis_z = pair-up x y z (up axis_x) (up axis_y) (last axis_z)

-- ---- a cut parts the test of its axis

-- "[min, k + 1] and [k, max]": the cells of layer k are in both; their edges along the axis are the upper piece's, those across it the
-- lower's. Along: p < k or k ≤ p.
parted-along : (f : Bool) (low high k p : ℕ) → low ≤ k → k < high → one (side true false low (k + 1) p) + one (side true f k high p) ≡ one (side true f low high p)
parted-along f low high k p h i = split2 lower upper whole apart from-lower from-upper (λ t. at t (less-or-not p k))
  where
    lower : Bool
    lower = side true false low (k + 1) p

    upper : Bool
    upper = side true f k high p

    whole : Bool
    whole = side true f low high p

    last : Bool
    last = f || not (eqb p (high - 1))

    in-lower : T lower → T (below low (k + 1) p)
    in-lower t = and_l (below low (k + 1) p) (not (eqb p (k + 1 - 1))) t

    not-k : T lower → p ≡ k → ⊥
    not-k t q = T_not (eqb p (k + 1 - 1)) (and_r (below low (k + 1) p) (not (eqb p (k + 1 - 1))) t) (eq→eqb {a = p} {b = k + 1 - 1} (omega arith))

    under : T lower → p < k
    under t = omega (arith, below-high low (k + 1) p (in-lower t), not-k t)

    in-upper : T upper → T (below k high p)
    in-upper t = and_l (below k high p) last t

    in_whole : T whole → T (below low high p)
    in_whole t = and_l (below low high p) last t

    apart : T lower → T upper → ⊥
    apart s t = omega (arith, under s, below-low k high p (in-upper t))

    not_last : p < k → T last
    not_last j = or-second f (not (eqb p (high - 1))) (not_T (eqb p (high - 1)) (λ q. omega (arith, eqb→eq p (high - 1) q)))

    from-lower : T lower → T whole
    from-lower t = and_i (below low high p) last (below_in low high p (below-low low (k + 1) p (in-lower t)) (omega (arith, under t))) (not_last (under t))

    from-upper : T upper → T whole
    from-upper t =
        and_i (below low high p) last
        (below_in low high p (omega (arith, below-low k high p (in-upper t))) (below-high k high p (in-upper t)))
        (and_r (below k high p) last t)

    at : T whole → (p < k) ⊎ (k ≤ p) → T lower ⊎ T upper
    at t (inl j) =
        inl
        (and_i (below low (k + 1) p) (not (eqb p (k + 1 - 1)))
        (below_in low (k + 1) p (below-low low high p (in_whole t)) (omega arith))
        (not_T (eqb p (k + 1 - 1)) (λ q. omega (arith, eqb→eq p (k + 1 - 1) q))))
    at t (inr j) = inr (and_i (below k high p) last (below_in k high p j (below-high low high p (in_whole t))) (and_r (below low high p) last t))

-- across: p ≤ k or k < p
parted-across : (low high k p : ℕ) → low ≤ k → k < high → one (side false false low (k + 1) p) + one (side false false k high p) ≡ one (side false false low high p)
parted-across low high k p h i = split2 (side false false low (k + 1) p) (side false false k high p) (side false false low high p) apart from-lower from-upper either
  where
    inside : (l u : ℕ) → T (side false false l u p) → (l < p) × (p < u)
    inside l u t = (ltb→lt l p (and_r (below l u p) (ltb l p) t), below-high l u p (and_l (below l u p) (ltb l p) t))

    there : (l u : ℕ) → l < p → p < u → T (side false false l u p)
    there l u x y = and_i (below l u p) (ltb l p) (below_in l u p (omega arith) y) (lt→ltb l p x)

    apart : T (side false false low (k + 1) p) → T (side false false k high p) → ⊥
    apart s t = omega (arith, inside low (k + 1) s, inside k high t)

    from-lower : T (side false false low (k + 1) p) → T (side false false low high p)
    from-lower t = there low high (inside low (k + 1) t).0 (omega (arith, inside low (k + 1) t))

    from-upper : T (side false false k high p) → T (side false false low high p)
    from-upper t = there low high (omega (arith, inside k high t)) (inside k high t).1

    at : T (side false false low high p) → (k < p) ⊎ (p ≤ k) → T (side false false low (k + 1) p) ⊎ T (side false false k high p)
    at t (inl j) = inr (there k high j (inside low high t).1)
    at t (inr j) = inl (there low (k + 1) (inside low high t).0 (omega arith))

    either : T (side false false low high p) → T (side false false low (k + 1) p) ⊎ T (side false false k high p)
    either t = at t (less-or-not k p)

parted : (s f : Bool) (low high k p : ℕ) → low ≤ k → k < high → one (side s false low (k + 1) p) + one (side s f k high p) ≡ one (side s f low high p)
parted true f low high k p h i = parted-along f low high k p h i
parted false f low high k p h i = parted-across low high k p h i

one-and : (a b c r : Bool) → one a + one b ≡ one c → one (a && r) + one (b && r) ≡ one (c && r)
one-and a b c true e = rw (and-true a, and-true b, and-true c) e
one-and a b c false e = rw (and-false a, and-false b, and-false c) refl

one-with : (r a b c : Bool) → one a + one b ≡ one c → one (r && a) + one (r && b) ≡ one (r && c)
one-with true a b c e = e
one-with false a b c e = refl

pub two-pieces : (a : Axis) (k : ℕ) (w : Piece) (e : Edge) → along a w.box.low ≤ k → k < along a w.box.high
    → one (has (lower_piece a k w) e) + one (has (upper_piece a k w) e) ≡ one (has w e)
two-pieces a k w e h i =
    rw (owned-sides (lower_piece a k w) e.axis e.from, owned-sides (upper_piece a k w) e.axis e.from, owned-sides w e.axis e.from) (go a h i)
  where
    x : Bool
    x = side_on e.axis axis_x w e.from

    y : Bool
    y = side_on e.axis axis_y w e.from

    z : Bool
    z = side_on e.axis axis_z w e.from

    lower : Axis → Axis → Bool
    lower a d = side_on e.axis d (lower_piece a k w) e.from

    upper : Axis → Axis → Bool
    upper a d = side_on e.axis d (upper_piece a k w) e.from

    part : (d : Axis) (f : Bool) → along d w.box.low ≤ k → k < along d w.box.high
        → one (side (same_axis e.axis d) false (along d w.box.low) (k + 1) (along d e.from))
        + one (side (same_axis e.axis d) f k (along d w.box.high) (along d e.from))
        ≡ one (side (same_axis e.axis d) f (along d w.box.low) (along d w.box.high) (along d e.from))
    part d f h i = parted (same_axis e.axis d) f (along d w.box.low) (along d w.box.high) k (along d e.from) h i

    go : (a : Axis) → along a w.box.low ≤ k → k < along a w.box.high
        → one (lower a axis_x && (lower a axis_y && lower a axis_z)) + one (upper a axis_x && (upper a axis_y && upper a axis_z)) ≡ one (x && (y && z))
    go axis_x h i = one-and (lower axis_x axis_x) (upper axis_x axis_x) x (y && z) (part axis_x w.flags.x h i)
    go axis_y h i = one-with x (lower axis_y axis_y && z) (upper axis_y axis_y && z) (y && z) (one-and (lower axis_y axis_y) (upper axis_y axis_y) y z (part axis_y w.flags.y h i))
    go axis_z h i = one-with x (y && lower axis_z axis_z) (y && upper axis_z axis_z) (y && z) (one-with y (lower axis_z axis_z) (upper axis_z axis_z) z (part axis_z w.flags.z h i))
