-- The volume of a mesh without a hole, bounded from the distances alone: from the cells that lie wholly in the sludge, to those and all that the surface passes
-- through, give or take a sixth of a cell for each face. Over what a call wrote, for any flags. Assumes nothing.
use Prim.Native.Nat.{ℕ, zero, suc, ◌+◌, ◌-◌, ◌*◌, ◌^◌, ◌≤◌, ◌<◌}
use native.Mathlib.Nat.{zero-mul, suc-mul, add-zero}
use native.Mathlib.Omega.{arith}
use mathlib.Core.Bool.{Bool}
use mathlib.Core.Logic.{inl, inr}
use mathlib.Core.Path.{◌≡◌, sym, ap, ap₂, subst, ◌∙◌}
use lib.Dec.{T, le→leb}
use lib.IntN.{ℤ, pos, negsuc, neg_ℤ, ◌+ℤ◌, ◌-ℤ◌, ◌*ℤ◌, suc_ℤ-*ℤ, zero-*ℤ, +ℤ-neg_ℤ_cancel}
use lib.Signed.{◌≤ℤ◌}
use lib.ListN.{length}
use lib.Ieee.{binary32, fits}
use Rattle.lists.specs.Lists.{one}
use Rattle.lists.proofs.Lists.{total}
use Rattle.lists.proofs.Tests.{less-or-not}
use Rattle.rules.specs.Grid.{GridPoint, Axis, Box, Field, index, in_box, value}
use Rattle.rules.specs.Vertices.{vertices}
use Rattle.rules.specs.Faces.{Flags, shorter, points, changing_edges, edges}
use Rattle.rules.specs.Call.{room}
use Rattle.rules.proofs.Accepted.{Accepted}
use Rattle.rules.proofs.Indexes.{index_below}
use Rattle.rules.proofs.Edges.{index-count}
use Rattle.volume.specs.Volume.{sixfold}
use Rattle.volume.specs.Answers.{Weighed}
use Rattle.volume.proofs.Weighing.{accepted, weighs}
use Rattle.volume.proofs.Whole.{minus_plus, neg-minus}
use Rattle.skin.specs.Enclosed.{Inner, Enclosed}
use Rattle.promises.specs.Served.{Served, Done}
use Rattle.promises.proofs.Done.{done-accepts, done-counts}
use Rattle.promises.proofs.Runs.{Run, served, BedRun, bed_served}
use Rattle.weighed_mesh.proofs.Faces.{sum_z, face_sum}
use Rattle.weighed_mesh.proofs.Cut.{weight_is}
use Rattle.weighed_mesh.proofs.Mesh.{OwnMesh}
use Rattle.weighed_mesh.proofs.Outcomes.{Weigh, told, BedWeigh, bed_told}
use Rattle.weighed_mesh.specs.Told.{Told, weight_of}
use Rattle.tally.specs.Cells.{whole_cells}
use Rattle.bounded_mesh.specs.Round.{InCells}
use Rattle.bounded_mesh.specs.Placed.{in_sludge, placed}
use Rattle.bounded_mesh.specs.Bounded.{Bounded}
use Rattle.bounded_mesh.proofs.Squares.{whole}
use Rattle.bounded_mesh.proofs.Around.{gains, loses, both_ends, either_end, one_end, area_of, at_least, at_most}
use Rattle.bounded_mesh.proofs.Weights.{all_corners, some_corner, areas-least, areas-most}
use Rattle.bounded_mesh.proofs.Meshed.{placed-within, inner, Difference, faces-difference, one-ends}
use Rattle.bounded_mesh.proofs.Counts.{whole_cells_lem, some-cells}

-- ---- differences

scaled : (k x y : ℕ) → pos k *ℤ (pos x -ℤ pos y) ≡ pos (k * x) -ℤ pos (k * y)
scaled zero x y = zero-*ℤ (pos x -ℤ pos y) ∙ ap₂ (λ (m n : ℕ). pos m -ℤ pos n) (sym (zero-mul x)) (sym (zero-mul y))
scaled (suc k) x y =
    suc_ℤ-*ℤ (pos k) (pos x -ℤ pos y)
    ∙ ap (λ (z : ℤ). z +ℤ (pos x -ℤ pos y)) (scaled k x y)
    ∙ sym (minus_plus (k * x) (k * y) x y)
    ∙ ap₂ (λ (m n : ℕ). pos m -ℤ pos n) (sym (suc-mul k x)) (sym (suc-mul k y))

above : (y m : ℕ) → y ≤ m → pos m -ℤ pos y ≡ pos (m - y)
above y m h =
    let e : m ≡ m - y + y = omega arith in
    ap (λ (n : ℕ). pos n -ℤ pos y) e ∙ +ℤ-neg_ℤ_cancel (pos (m - y)) (pos y)

not_more : (k d : ℕ) → k ≤ d → pos k ≤ℤ pos d
not_more k d h = record { le = le→leb k d h }

-- a difference and what is added to it
difference_low : (k x y z : ℕ) → k + y ≤ x + z → pos k ≤ℤ ((pos x -ℤ pos y) +ℤ pos z)
difference_low k x y z h =
    let e : (pos x -ℤ pos y) +ℤ pos z ≡ pos (x + z - y) =
    ap (λ (n : ℕ). (pos x -ℤ pos y) +ℤ pos n) (sym (add-zero z)) ∙ sym (minus_plus x y z 0) ∙ ap (λ (n : ℕ). pos (x + z) -ℤ pos n) (add-zero y) ∙ above y (x + z) (omega arith) in
    subst (λ (w : ℤ). pos k ≤ℤ w) (sym e) (not_more k (x + z - y) (omega arith))

difference-high : (k x y : ℕ) → x ≤ k + y → (pos x -ℤ pos y) ≤ℤ pos k
difference-high k x y h = elim (less-or-not x y) [ inl s ↦ under s | inr s ↦ subst (λ (w : ℤ). w ≤ℤ pos k) (sym (above y x s)) (not_more (x - y) k (omega arith)) ]
  where
    under : x < y → (pos x -ℤ pos y) ≤ℤ pos k
    under s =
        let d : y - x ≡ suc (y - x - 1) = omega arith in
        let e : pos x -ℤ pos y ≡ negsuc (y - x - 1) = neg-minus (pos y) (pos x) ∙ ap neg_ℤ (above x y (omega arith) ∙ ap pos d) in
        subst (λ (w : ℤ). w ≤ℤ pos k) (sym e) (record { le = tt })

-- ---- a mesh of the rules

-- the counts: p and l the products that count plus and minus, w and u the same over all edges, x and y the areas
low_sum : (p l w u x a' a e i : ℕ) → p + w ≡ l + u → w + 256 * x ≤ u + 16777216 * e → 393216 * a' ≤ x → a ≤ a' → i ≡ 6 * e
    → 6 * 256 ^ 3 * (36 * a) + 36 * l ≤ 36 * p + 6 * 256 ^ 3 * i
low_sum p l w u x a' a e i h1 h2 h3 h4 h5 = omega arith

high_sum : (p l w u y a' a v e i : ℕ) → p + w ≡ l + u → u ≤ w + 256 * y + 16777216 * e → y ≤ 393216 * a' → a' ≤ a + v → i ≡ 6 * e
    → 36 * p ≤ 6 * 256 ^ 3 * (36 * (a + v) + i) + 36 * l
high_sum p l w u y a' a v e i h1 h2 h3 h4 h5 = omega arith

module _ (g : Field) (b : Box) (m : Flags) (h : Enclosed g b) (w : InCells (placed g b)) (s : ℤ) (is : s ≡ sum_z (face_sum g) (edges g b m)) where
  d : Difference g b m h (sum_z (face_sum g) (edges g b m))
  d = faces-difference g b m h

  abbrev n : GridPoint → Bool
  n = in_sludge g b

  inside : (p : GridPoint) → T (in_sludge g b p) → Inner b p
  inside = inner g b m h

  -- the sums over all edges: what counts plus and minus, the areas of the edges with both ends in the sludge, with one at least, and how many have just one
  abbrev U : ℕ
  U = whole b (gains b n inside (placed g b) w (shorter g))

  abbrev W : ℕ
  W = whole b (loses b n inside (placed g b) w (shorter g))

  abbrev X : ℕ
  X = whole b (λ (a : Axis) (p : GridPoint). both_ends b n inside (placed g b) w (shorter g) a p * area_of b n inside (placed g b) w (shorter g) a p)

  abbrev Y : ℕ
  Y = whole b (λ (a : Axis) (p : GridPoint). either_end b n inside (placed g b) w (shorter g) a p * area_of b n inside (placed g b) w (shorter g) a p)

  abbrev E : ℕ
  E = whole b (one_end b n inside (placed g b) w (shorter g))

  -- i is six times the number of faces
  six-faces : (i : ℕ) → i ≡ 6 * changing_edges g b m → i ≡ 6 * E
  six-faces i e = e ∙ ap (λ (k : ℕ). 6 * k) (sym (one-ends g b m h))

  pub sum_low : (i : ℕ) → i ≡ 6 * changing_edges g b m → pos (6 * 256 ^ 3 * (36 * whole_cells g b)) ≤ℤ (pos 36 *ℤ s +ℤ pos (6 * 256 ^ 3 * i))
  sum_low i e =
      subst (λ (z : ℤ). pos (6 * 256 ^ 3 * (36 * whole_cells g b)) ≤ℤ (z +ℤ pos (6 * 256 ^ 3 * i)))
      (sym (ap (λ (z : ℤ). pos 36 *ℤ z) (is ∙ d.is) ∙ scaled 36 d.plus d.less))
      (difference_low (6 * 256 ^ 3 * (36 * whole_cells g b)) (36 * d.plus) (36 * d.less) (6 * 256 ^ 3 * i)
      (low_sum d.plus d.less W U X (total (λ (p : GridPoint). one (all_corners n p)) (points b)) (whole_cells g b) E i d.same
      (at_least b n inside (placed g b) w (shorter g)) (areas-least n b inside (placed g b) w) (whole_cells_lem g b) (six-faces i e)))

  pub sum-high : (i v : ℕ) → i ≡ 6 * changing_edges g b m → v ≡ length (vertices g b)
      → (pos 36 *ℤ s) ≤ℤ pos (6 * 256 ^ 3 * (36 * (whole_cells g b + v) + i))
  sum-high i v e f =
      subst (λ (z : ℤ). z ≤ℤ pos (6 * 256 ^ 3 * (36 * (whole_cells g b + v) + i)))
      (sym (ap (λ (z : ℤ). pos 36 *ℤ z) (is ∙ d.is) ∙ scaled 36 d.plus d.less))
      (difference-high (6 * 256 ^ 3 * (36 * (whole_cells g b + v) + i)) (36 * d.plus) (36 * d.less)
      (high_sum d.plus d.less W U Y (total (λ (p : GridPoint). one (some_corner n p)) (points b)) (whole_cells g b) v E i d.same
      (at_most b n inside (placed g b) w (shorter g)) (areas-most n b inside (placed g b) w)
      (subst (λ (k : ℕ). total (λ (p : GridPoint). one (some_corner n p)) (points b) ≤ whole_cells g b + k) (sym f) (some-cells g b h)) (six-faces i e)))

-- ---- over what is written

pub volume-bounded : (u : Served) → Done u → Enclosed u.call.grid u.call.box → Bounded u (weight_of u)
volume-bounded u done h =
    record {
      low = sum_low g b m h w (weight_of u) (weight_is u done) u.says.indices indices;
      high = sum-high g b m h w (weight_of u) (weight_is u done) u.says.indices u.says.vertices indices (done-counts u done).0;
    }
  where
    g : Field
    g = u.call.grid

    b : Box
    b = u.call.box

    m : Flags
    m = u.call.flags

    a : Accepted u.call.grid u.call.size (room u.before).map u.call.box
    a = done-accepts u done

    -- condition 3 lets each point of the box stand in the grid, whose numbers are binary32 values
    values32 : (p : GridPoint) → T (in_box u.call.box p) → T (fits binary32 (value u.call.grid p))
    values32 p t = u.numbers (index u.call.grid.dims p) (index_below u.call.grid.dims u.call.box u.call.size p a.box a.length t)

    w : InCells (placed u.call.grid u.call.box)
    w = placed-within u.call.grid u.call.box values32 a.dims a.box a.distance

    indices : u.says.indices ≡ 6 * changing_edges u.call.grid u.call.box u.call.flags
    indices = (done-counts u done).1 ∙ index-count u.call.grid u.call.box u.call.flags

-- the same over the answer of the volume's call on what a mesh call wrote
pub own-volume-bounded : (u : Served) (t : Told) → OwnMesh u t → Enclosed u.call.grid u.call.box → Bounded u t.says.volume
own-volume-bounded u t o h = subst (Bounded u) (sym says-weight) (volume-bounded u o.meshed h)
  where
    says-weight : t.says.volume ≡ weight_of u
    says-weight =
        ap (λ (w : Weighed). w.volume) (t.told ∙ weighs t.positions t.indices
        (accepted t.positions t.indices (ap (λ (w : Weighed). w.answer) (sym t.told) ∙ o.weighed)))
        ∙ ap₂ sixfold o.positions o.indices

-- ---- of surface_nets and volume, and of the two functions for C

pub surface-nets-bounded : (u : Run) → Done (served u) → Enclosed (served u).call.grid (served u).call.box → Bounded (served u) (weight_of (served u))
surface-nets-bounded u = volume-bounded (served u)

pub surface-nets-volume-bounded : (u : Run) (w : Weigh) → OwnMesh (served u) (told w) → Enclosed (served u).call.grid (served u).call.box
    → Bounded (served u) (told w).says.volume
surface-nets-volume-bounded u w = own-volume-bounded (served u) (told w)

pub bed-surface-nets-bounded : (u : BedRun) → Done (bed_served u) → Enclosed (bed_served u).call.grid (bed_served u).call.box → Bounded (bed_served u) (weight_of (bed_served u))
bed-surface-nets-bounded u = volume-bounded (bed_served u)

pub bed-surface-nets-volume-bounded : (u : BedRun) (w : BedWeigh) → OwnMesh (bed_served u) (bed_told w) → Enclosed (bed_served u).call.grid (bed_served u).call.box
    → Bounded (bed_served u) (bed_told w).says.volume
bed-surface-nets-volume-bounded u w = own-volume-bounded (bed_served u) (bed_told w)
