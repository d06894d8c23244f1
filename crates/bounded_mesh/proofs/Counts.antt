-- The cells with all their corners in the sludge, and those with one at least, counted over the points of the box: the whole cells, and with them the surface cells.
-- Assumes nothing.
use Prim.Native.Nat.{ℕ, ◌+◌, ◌≤◌, ◌<◌}
use native.Mathlib.Omega.{arith}
use mathlib.Core.Bool.{Bool, true, false, ◌&&◌}
use mathlib.Core.Logic.{inl, inr}
use mathlib.Core.Path.{◌≡◌, sym, ap, subst, ◌∙◌}
use lib.Dec.{T, leb, eqb, leb→le, le→leb}
use lib.Ieee.Fits.{and_i, and_l, and_r}
use lib.ListN.{length, get_or}
use Rattle.lists.specs.Lists.{one, many, keep, place}
use Rattle.lists.proofs.Lists.{All, none, more, all-at, all-each, all_then, total, total-plus, many-map, many-same, many-keep, many-total, many-most, place-below, place-passes}
use Rattle.lists.proofs.Permutation.{Perm, perm-many, perm-counts}
use Rattle.lists.proofs.Tests.{one_of, same_test, less-or-not}
use Rattle.rules.specs.Grid.{GridPoint, axis_x, axis_y, axis_z, Box, Field, same_point, is_cell, in_box, value}
use Rattle.rules.specs.Cell.{negative, negatives, values, corner_of, eight}
use Rattle.rules.specs.Vertices.{cells, vertices, surface_cell}
use Rattle.rules.specs.Faces.{points}
use Rattle.rules.proofs.Indexes.{is-cell, cell-in-box, corner-in-box}
use Rattle.rules.proofs.Counting.{same_point-sound, same_point-itself, cells-once, points-once, kept-once, cell-count}
use Rattle.skin.specs.Enclosed.{Inner, Enclosed}
use Rattle.tally.specs.Cells.{all_negative, whole_cells}
use Rattle.bounded_mesh.specs.Placed.{in_sludge}
use Rattle.bounded_mesh.proofs.Sums.{total-most}
use Rattle.bounded_mesh.proofs.Meshed.{true-and}
use Rattle.bounded_mesh.proofs.Weights.{corners_in, all_corners, some_corner, one-under}

-- the cells of a box, found among its points
cells-found : (b : Box) → Perm (cells b) (keep (is_cell b) (points b))
cells-found b =
    perm-counts same_point same_point-sound same_point-itself (cells b) (keep (is_cell b) (points b))
    (λ p. cells-once b p
    ∙ ap one (same_test (is_cell b p) (in_box b p && is_cell b p) (λ t. and_i (in_box b p) (is_cell b p) (cell-in-box b p t) t) (and_r (in_box b p) (is_cell b p)))
    ∙ sym (kept-once (is_cell b) (points b) p (in_box b p) (points-once b p)))

many-cells : (b : Box) (f : GridPoint → Bool) → many f (cells b) ≡ total (λ (p : GridPoint). one (is_cell b p && f p)) (points b)
many-cells b f = perm-many f (cells-found b) ∙ many-keep f (is_cell b) (points b) ∙ many-total (λ (p : GridPoint). is_cell b p && f p) (points b)

below-eight : All (λ (i : ℕ). i < 8) eight
below-eight =
    more {x = 0} (omega arith) (more {x = 1} (omega arith) (more {x = 2} (omega arith) (more {x = 3} (omega arith) (more {x = 4} (omega arith) (more {x = 5} (omega arith) (more {x = 6} (omega arith) (more {x = 7} (omega arith) none)))))))

-- a cell with some negative corner has eight of them, or 1 to 7
eight-or-fewer : (c : Bool) (k : ℕ) → T c → 1 ≤ k → k ≤ 8 → 1 ≤ one (c && eqb k 8) + one (c && (leb 1 k && leb k 7))
eight-or-fewer false k t h l = absurd t
eight-or-fewer true k t h l = elim (less-or-not k 8) [
  | inl s ↦ let u = one_of (leb 1 k && leb k 7) (and_i (leb 1 k) (leb k 7) (le→leb 1 k h) (le→leb k 7 (omega arith))) in omega (arith, u)
  | inr s ↦ let e : k ≡ 8 = omega arith in let u = one_of (eqb k 8) (subst (λ (j : ℕ). T (eqb j 8)) (sym e) tt) in omega (arith, u)
]

module _ (g : Field) (b : Box) where
  abbrev n : GridPoint → Bool
  n = in_sludge g b

  -- the corners of a cell of the box are points of the box
  corners-are : (c : GridPoint) → T (is_cell b c) → corners_in n c ≡ negatives (values g c)
  corners-are c t =
      many-same (all_then (λ (i : ℕ) (h : i < 8). true-and (in_box b (corner_of c i)) (negative (value g (corner_of c i))) (corner-in-box b c i t h)) below-eight)
      ∙ sym (many-map negative (λ (i : ℕ). value g (corner_of c i)) eight)

  pub whole_cells_lem : whole_cells g b ≤ total (λ (p : GridPoint). one (all_corners n p)) (points b)
  whole_cells_lem =
      rw (many-cells b (all_negative g))
      (total-most (all-each (λ (p : GridPoint). one-under (is_cell b p && all_negative g p) (all_corners n p)
      (λ t. subst (λ (k : ℕ). T (eqb k 8)) (sym (corners-are p (and_l (is_cell b p) (all_negative g p) t))) (and_r (is_cell b p) (all_negative g p) t))) (points b)))

  module _ (h : Enclosed g b) where
    -- a cell with a corner in the sludge is a cell of the box
    some-cell : (p : GridPoint) → T (some_corner n p) → T (is_cell b p)
    some-cell p t =
        let f : ℕ → Bool = λ (i : ℕ). n (corner_of p i) in
        let k : 0 < many f eight = leb→le 1 (corners_in n p) t in
        at (get_or eight (place f eight) 0) (all-at below-eight (place f eight) (place-below f eight k) 0) (place-passes f eight 0 k)
      where
        at : (i : ℕ) → i < 8 → T (n (corner_of p i)) → T (is_cell b p)
        at i l s =
            let w : Inner b (corner_of p i) = h (corner_of p i) (and_l (in_box b (corner_of p i)) (negative (value g (corner_of p i))) s) (and_r (in_box b (corner_of p i)) (negative (value g (corner_of p i))) s) in
            is-cell b p (omega (arith, w axis_x, w axis_y, w axis_z))

    one-most-cell : (p : GridPoint) → one (some_corner n p) ≤ one (is_cell b p && all_negative g p) + one (is_cell b p && surface_cell g p)
    one-most-cell p = go (some_corner n p) (λ t. t)
      where
        go : (s : Bool) → (T s → T (some_corner n p)) → one s ≤ one (is_cell b p && all_negative g p) + one (is_cell b p && surface_cell g p)
        go false f = omega arith
        go true f =
            let c : T (is_cell b p) = some-cell p (f tt) in
            let k : 1 ≤ negatives (values g p) = subst (λ (k : ℕ). 1 ≤ k) (corners-are p c) (leb→le 1 (corners_in n p) (f tt)) in
            eight-or-fewer (is_cell b p) (negatives (values g p)) c k (many-most negative (values g p))

    pub some-cells : total (λ (p : GridPoint). one (some_corner n p)) (points b) ≤ whole_cells g b + length (vertices g b)
    some-cells =
        omega (
          arith,
          total-most (all-each one-most-cell (points b)),
          total-plus (λ (p : GridPoint). one (is_cell b p && all_negative g p)) (λ (p : GridPoint). one (is_cell b p && surface_cell g p)) (points b),
          many-cells b (all_negative g),
          many-cells b (surface_cell g),
          cell-count g b,
        )
