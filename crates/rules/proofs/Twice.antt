-- Document 01, "Both pieces hold the cells of layer k, so vertices there come twice": the vertices of the two pieces of a cut are those of the whole, and once
-- more those of the layer k. From the counts of cells, one axis parted. Assumes nothing.
use Prim.Native.Nat.{ℕ, ◌+◌, ◌≤◌, ◌<◌}
use native.Mathlib.Omega.{arith}
use mathlib.Core.Bool.{Bool, true, false, ◌&&◌, and-true, and-false}
use mathlib.Core.List.{List, ◌++◌}
use mathlib.Core.Logic.{◌⊎◌, inl, inr}
use mathlib.Core.Path.{◌≡◌, refl, sym, ap, ap₂, ◌∙◌}
use lib.Dec.{T, eqb, eqb→eq}
use lib.Ieee.Fits.{and_i, and_r, eq→eqb}
use Rattle.lists.specs.Lists.{one, keep, many, below}
use Rattle.rules.specs.Grid.{GridPoint, Axis, axis_x, axis_y, axis_z, Box, Field, along, same_point, is_cell}
use Rattle.rules.specs.Vertices.{surface_cell, vertices}
use Rattle.rules.specs.Cutting.{Piece, lower_piece, upper_piece}
use Rattle.lists.proofs.Tests.{same_test, split2, less-or-not, below-low, below-high, below_in}
use Rattle.lists.proofs.Lists.{many-append}
use Rattle.lists.proofs.Permutation.{Perm, perm-counts}
use Rattle.rules.proofs.Counting.{same_point-sound, same_point-itself, kept-once, vertices-once}

-- ---- one axis

-- [min, k + 1] and [k, max]: k is a cell of both
parted : (low high k x : ℕ) → low ≤ k → k < high
    → one (below low (k + 1) x) + one (below k high x) ≡ one (below low high x) + one (below low high x && eqb x k)
parted low high k x l h = omega (arith, whole, upper, layer)
  where
    past : Bool
    past = below (k + 1) high x

    whole : one (below low (k + 1) x) + one past ≡ one (below low high x)
    whole =
        split2 (below low (k + 1) x) past (below low high x)
        (λ s t. omega (arith, below-high low (k + 1) x s, below-low (k + 1) high x t))
        (λ s. below_in low high x (below-low low (k + 1) x s) (omega (arith, below-high low (k + 1) x s)))
        (λ t. below_in low high x (omega (arith, below-low (k + 1) high x t)) (below-high (k + 1) high x t))
        (λ t. at t (less-or-not x (k + 1)))
      where
        at : T (below low high x) → (x < k + 1) ⊎ (k + 1 ≤ x) → T (below low (k + 1) x) ⊎ T past
        at t (inl j) = inl (below_in low (k + 1) x (below-low low high x t) j)
        at t (inr j) = inr (below_in (k + 1) high x j (below-high low high x t))

    upper : one (eqb x k) + one past ≡ one (below k high x)
    upper =
        split2 (eqb x k) past (below k high x)
        (λ s t. omega (arith, eqb→eq x k s, below-low (k + 1) high x t))
        (λ s. below_in k high x (omega (arith, eqb→eq x k s)) (omega (arith, eqb→eq x k s)))
        (λ t. below_in k high x (omega (arith, below-low (k + 1) high x t)) (below-high (k + 1) high x t))
        (λ t. at t (less-or-not k x))
      where
        at : T (below k high x) → (k < x) ⊎ (x ≤ k) → T (eqb x k) ⊎ T past
        at t (inl j) = inr (below_in (k + 1) high x (omega arith) (below-high k high x t))
        at t (inr j) =
            let same : x ≡ k = omega (arith, below-low k high x t) in
            inl (eq→eqb same)

    layer : one (below low high x && eqb x k) ≡ one (eqb x k)
    layer =
        ap one (same_test (below low high x && eqb x k) (eqb x k) (and_r (below low high x) (eqb x k))
        (λ s. and_i (below low high x) (eqb x k) (below_in low high x (omega (arith, eqb→eq x k s)) (omega (arith, eqb→eq x k s))) s))

-- beside tests that the cut leaves
twice-and : (a b c q r : Bool) → one a + one b ≡ one c + one (c && q) → one (a && r) + one (b && r) ≡ one (c && r) + one ((c && r) && q)
twice-and a b c q true e = rw (and-true a, and-true b, and-true c) e
twice-and a b c q false e = rw (and-false a, and-false b, and-false c) refl

twice-with : (r a b c q : Bool) → one a + one b ≡ one c + one (c && q) → one (r && a) + one (r && b) ≡ one (r && c) + one ((r && c) && q)
twice-with true a b c q e = e
twice-with false a b c q e = refl

-- ---- the cells of the two pieces

cells-twice : (a : Axis) (k : ℕ) (w : Piece) (c : GridPoint) → along a w.box.low ≤ k → k < along a w.box.high
    → one (is_cell (lower_piece a k w).box c) + one (is_cell (upper_piece a k w).box c) ≡ one (is_cell w.box c) + one (is_cell w.box c && eqb (along a c) k)
cells-twice a k w c l h = go a l h
  where
    b : Box
    b = w.box

    in_x : Bool
    in_x = below b.low.x b.high.x c.x

    in_y : Bool
    in_y = below b.low.y b.high.y c.y

    in_z : Bool
    in_z = below b.low.z b.high.z c.z

    go : (a : Axis) → along a b.low ≤ k → k < along a b.high
        → one (is_cell (lower_piece a k w).box c) + one (is_cell (upper_piece a k w).box c) ≡ one (is_cell b c) + one (is_cell b c && eqb (along a c) k)
    go axis_x l h = twice-and (below b.low.x (k + 1) c.x) (below k b.high.x c.x) in_x (eqb c.x k) (in_y && in_z) (parted b.low.x b.high.x k c.x l h)
    go axis_y l h =
        twice-with in_x (below b.low.y (k + 1) c.y && in_z) (below k b.high.y c.y && in_z) (in_y && in_z) (eqb c.y k)
        (twice-and (below b.low.y (k + 1) c.y) (below k b.high.y c.y) in_y (eqb c.y k) in_z (parted b.low.y b.high.y k c.y l h))
    go axis_z l h =
        twice-with in_x (in_y && below b.low.z (k + 1) c.z) (in_y && below k b.high.z c.z) (in_y && in_z) (eqb c.z k)
        (twice-with in_y (below b.low.z (k + 1) c.z) (below k b.high.z c.z) in_z (eqb c.z k) (parted b.low.z b.high.z k c.z l h))

-- ---- the law

-- the vertices of the layer k of an axis
abbrev pub layer_of : Axis → ℕ → List GridPoint → List GridPoint
layer_of a k vs = keep (λ (c : GridPoint). eqb (along a c) k) vs

pub vertices-twice : (g : Field) (a : Axis) (k : ℕ) (w : Piece) → along a w.box.low ≤ k → k < along a w.box.high
    → Perm (vertices g (lower_piece a k w).box ++ vertices g (upper_piece a k w).box) (vertices g w.box ++ layer_of a k (vertices g w.box))
vertices-twice g a k w l h = perm-counts same_point same_point-sound same_point-itself (lower ++ upper) (vs ++ layer_of a k vs) counts
  where
    lower : List GridPoint
    lower = vertices g (lower_piece a k w).box

    upper : List GridPoint
    upper = vertices g (upper_piece a k w).box

    vs : List GridPoint
    vs = vertices g w.box

    counts : (c : GridPoint) → many (same_point c) (lower ++ upper) ≡ many (same_point c) (vs ++ layer_of a k vs)
    counts c =
        many-append (same_point c) lower upper
        ∙ ap₂ ◌+◌ (vertices-once g (lower_piece a k w).box c) (vertices-once g (upper_piece a k w).box c)
        ∙ twice-and (is_cell (lower_piece a k w).box c) (is_cell (upper_piece a k w).box c) (is_cell w.box c) (eqb (along a c) k) (surface_cell g c) (cells-twice a k w c l h)
        ∙ sym (ap₂ ◌+◌ here (kept-once (λ (p : GridPoint). eqb (along a p) k) vs c (is_cell w.box c && surface_cell g c) here))
        ∙ sym (many-append (same_point c) vs (layer_of a k vs))
      where
        here : many (same_point c) vs ≡ one (is_cell w.box c && surface_cell g c)
        here = vertices-once g w.box c
