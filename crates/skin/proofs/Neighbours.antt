-- Two neighbour cells and the sides round an edge: a side of a face joins the cell c with its step up on the axis a only if the face's edge
-- is one of the four edges of the square that the two share. Coordinate by coordinate. Assumes nothing.
use Prim.Native.Nat.{◌<◌}
use native.Mathlib.Omega.{arith}
use mathlib.Core.Bool.{false, ◌&&◌, and_comm}
use mathlib.Core.Path.{◌≡◌, refl, sym, ap, ◌∙◌}
use lib.Ieee.Fits.{and_i, and_l, and_r}
use Rattle.rules.specs.Grid.{GridPoint, Axis, axis_x, axis_y, axis_z, along, step_up, step_down, turned, same_point}
use Rattle.rules.specs.Faces.{Edge, edge, axis_b, axis_c, cell1, cell2, cell3, cell4}
use Rattle.lists.proofs.Tests.{same_test, is_false}
use Rattle.rules.proofs.Indexes.{Same, up-down as back-up}
use Rattle.rules.proofs.FourCells.{along-down}
use Rattle.rules.proofs.Counting.{same-says, says_same}
use Rattle.rules.proofs.Edges.{same_axis, same_edge}

-- ---- tests on points, by their coordinates

point-test : (p q r s : GridPoint) → (Same p q → Same r s) → (Same r s → Same p q) → same_point p q ≡ same_point r s
point-test p q r s f g = same_test (same_point p q) (same_point r s) (λ t. says_same r s (f (same-says p q t))) (λ t. says_same p q (g (same-says r s t)))

both-test : (p q r s : GridPoint) → (Same p q → Same r s) → (same_point p q && same_point r s) ≡ same_point p q
both-test p q r s f =
    same_test (same_point p q && same_point r s) (same_point p q) (and_l (same_point p q) (same_point r s))
    (λ t. and_i (same_point p q) (same_point r s) t (says_same r s (f (same-says p q t))))

never-test : (p q r s : GridPoint) → (Same p q → Same r s → ⊥) → (same_point p q && same_point r s) ≡ false
never-test p q r s f =
    is_false (same_point p q && same_point r s)
    (λ t. f (same-says p q (and_l (same_point p q) (same_point r s) t)) (same-says r s (and_r (same_point p q) (same_point r s) t)))

-- ---- two steps up: from the same cell on the same axis, or not the same; and never up as down

pub up_up : (a d : Axis) (c x : GridPoint) → (same_point c x && same_point (step_up a c) (step_up d x)) ≡ (same_axis a d && same_point c x)
up_up axis_x axis_x c x = both-test c x (step_up axis_x c) (step_up axis_x x) (λ h. omega arith)
up_up axis_x axis_y c x = never-test c x (step_up axis_x c) (step_up axis_y x) (λ h k. omega arith)
up_up axis_x axis_z c x = never-test c x (step_up axis_x c) (step_up axis_z x) (λ h k. omega arith)
up_up axis_y axis_x c x = never-test c x (step_up axis_y c) (step_up axis_x x) (λ h k. omega arith)
up_up axis_y axis_y c x = both-test c x (step_up axis_y c) (step_up axis_y x) (λ h. omega arith)
up_up axis_y axis_z c x = never-test c x (step_up axis_y c) (step_up axis_z x) (λ h k. omega arith)
up_up axis_z axis_x c x = never-test c x (step_up axis_z c) (step_up axis_x x) (λ h k. omega arith)
up_up axis_z axis_y c x = never-test c x (step_up axis_z c) (step_up axis_y x) (λ h k. omega arith)
up_up axis_z axis_z c x = both-test c x (step_up axis_z c) (step_up axis_z x) (λ h. omega arith)

pub up-down : (a d : Axis) (c x : GridPoint) → (same_point c (step_up d x) && same_point (step_up a c) x) ≡ false
up-down axis_x axis_x c x = never-test c (step_up axis_x x) (step_up axis_x c) x (λ h k. omega arith)
up-down axis_x axis_y c x = never-test c (step_up axis_y x) (step_up axis_x c) x (λ h k. omega arith)
up-down axis_x axis_z c x = never-test c (step_up axis_z x) (step_up axis_x c) x (λ h k. omega arith)
up-down axis_y axis_x c x = never-test c (step_up axis_x x) (step_up axis_y c) x (λ h k. omega arith)
up-down axis_y axis_y c x = never-test c (step_up axis_y x) (step_up axis_y c) x (λ h k. omega arith)
up-down axis_y axis_z c x = never-test c (step_up axis_z x) (step_up axis_y c) x (λ h k. omega arith)
up-down axis_z axis_x c x = never-test c (step_up axis_x x) (step_up axis_z c) x (λ h k. omega arith)
up-down axis_z axis_y c x = never-test c (step_up axis_y x) (step_up axis_z c) x (λ h k. omega arith)
up-down axis_z axis_z c x = never-test c (step_up axis_z x) (step_up axis_z c) x (λ h k. omega arith)

pub down-down : (a d : Axis) (c x : GridPoint) → (same_point (step_up a c) (step_up d x) && same_point c x) ≡ (same_axis a d && same_point c x)
down-down a d c x = and_comm (same_point (step_up a c) (step_up d x)) (same_point c x) ∙ up_up a d c x

pub down-up : (a d : Axis) (c x : GridPoint) → (same_point (step_up a c) x && same_point c (step_up d x)) ≡ false
down-up a d c x = and_comm (same_point (step_up a c) x) (same_point c (step_up d x)) ∙ up-down a d c x

-- ---- the four cells round an edge, each a step up from another

pub record Steps (x : Axis) (p : GridPoint) : Type 0 where
  pub s21 : cell1 (edge x p) ≡ step_up (axis_b x) (cell2 (edge x p))
  pub s31 : cell1 (edge x p) ≡ step_up (axis_c x) (cell3 (edge x p))
  pub s42 : cell2 (edge x p) ≡ step_up (axis_c x) (cell4 (edge x p))
  pub s43 : cell3 (edge x p) ≡ step_up (axis_b x) (cell4 (edge x p))

-- a step up and one down, in either order
swapped : (x : Axis) (q : GridPoint) → step_up (axis_b x) (step_down (axis_c x) q) ≡ step_down (axis_c x) (step_up (axis_b x) q)
swapped axis_x q = refl
swapped axis_y q = refl
swapped axis_z q = refl

pub steps : (x : Axis) (p : GridPoint) → 0 < along (axis_b x) p → 0 < along (axis_c x) p → Steps x p
steps x p h k =
    record {
      s21 = sym (back-up (axis_b x) p h);
      s31 = sym (back-up (axis_c x) p k);
      s42 = sym (back-up (axis_c x) (step_down (axis_b x) p) (rw (along-down (axis_b x) p) k));
      s43 = sym (swapped x (step_down (axis_b x) p) ∙ ap (step_down (axis_c x)) (back-up (axis_b x) p h));
    }

-- the four cells are four
pub record Apart (x : Axis) (p : GridPoint) : Type 0 where
  pub a12 : Same (cell1 (edge x p)) (cell2 (edge x p)) → ⊥
  pub a13 : Same (cell1 (edge x p)) (cell3 (edge x p)) → ⊥
  pub a14 : Same (cell1 (edge x p)) (cell4 (edge x p)) → ⊥
  pub a23 : Same (cell2 (edge x p)) (cell3 (edge x p)) → ⊥
  pub a24 : Same (cell2 (edge x p)) (cell4 (edge x p)) → ⊥
  pub a34 : Same (cell3 (edge x p)) (cell4 (edge x p)) → ⊥

pub apart : (x : Axis) (p : GridPoint) → 0 < along (axis_b x) p → 0 < along (axis_c x) p → Apart x p
apart axis_x p h k = omega arith
apart axis_y p h k = omega arith
apart axis_z p h k = omega arith

-- ---- which edge it is, of the square's four

-- the edges of the square between c and its step up on a
module _ (a : Axis) (c : GridPoint) where
  abbrev pub near_edge : Edge
  near_edge = edge (turned a) (step_up a c)

  abbrev pub far_edge : Edge
  far_edge = edge (turned a) (step_up (turned (turned a)) (step_up a c))

  abbrev pub left_edge : Edge
  left_edge = edge (turned (turned a)) (step_up a c)

  abbrev pub right_edge : Edge
  right_edge = edge (turned (turned a)) (step_up (turned a) (step_up a c))

-- where c is the lower end of one of the four sides, on the side's axis
pub record Hits (a x : Axis) (c p : GridPoint) : Type 0 where
  pub left : (same_axis a (axis_b x) && same_point c (cell2 (edge x p))) ≡ same_edge (left_edge a c) (edge x p)
  pub right : (same_axis a (axis_b x) && same_point c (cell4 (edge x p))) ≡ same_edge (right_edge a c) (edge x p)
  pub near : (same_axis a (axis_c x) && same_point c (cell3 (edge x p))) ≡ same_edge (near_edge a c) (edge x p)
  pub far : (same_axis a (axis_c x) && same_point c (cell4 (edge x p))) ≡ same_edge (far_edge a c) (edge x p)

pub hits : (a x : Axis) (c p : GridPoint) → 0 < along (axis_b x) p → 0 < along (axis_c x) p → Hits a x c p
hits axis_x axis_x c p h k =
    record {
      left = refl;
      right = refl;
      near = refl;
      far = refl;
    }
hits axis_x axis_y c p h k =
    record {
      left = refl;
      right = refl;
      near = point-test c (cell3 (edge axis_y p)) (near_edge axis_x c).from p (λ s. omega arith) (λ s. omega arith);
      far = point-test c (cell4 (edge axis_y p)) (far_edge axis_x c).from p (λ s. omega arith) (λ s. omega arith);
    }
hits axis_x axis_z c p h k =
    record {
      left = point-test c (cell2 (edge axis_z p)) (left_edge axis_x c).from p (λ s. omega arith) (λ s. omega arith);
      right = point-test c (cell4 (edge axis_z p)) (right_edge axis_x c).from p (λ s. omega arith) (λ s. omega arith);
      near = refl;
      far = refl;
    }
hits axis_y axis_x c p h k =
    record {
      left = point-test c (cell2 (edge axis_x p)) (left_edge axis_y c).from p (λ s. omega arith) (λ s. omega arith);
      right = point-test c (cell4 (edge axis_x p)) (right_edge axis_y c).from p (λ s. omega arith) (λ s. omega arith);
      near = refl;
      far = refl;
    }
hits axis_y axis_y c p h k =
    record {
      left = refl;
      right = refl;
      near = refl;
      far = refl;
    }
hits axis_y axis_z c p h k =
    record {
      left = refl;
      right = refl;
      near = point-test c (cell3 (edge axis_z p)) (near_edge axis_y c).from p (λ s. omega arith) (λ s. omega arith);
      far = point-test c (cell4 (edge axis_z p)) (far_edge axis_y c).from p (λ s. omega arith) (λ s. omega arith);
    }
hits axis_z axis_x c p h k =
    record {
      left = refl;
      right = refl;
      near = point-test c (cell3 (edge axis_x p)) (near_edge axis_z c).from p (λ s. omega arith) (λ s. omega arith);
      far = point-test c (cell4 (edge axis_x p)) (far_edge axis_z c).from p (λ s. omega arith) (λ s. omega arith);
    }
hits axis_z axis_y c p h k =
    record {
      left = point-test c (cell2 (edge axis_y p)) (left_edge axis_z c).from p (λ s. omega arith) (λ s. omega arith);
      right = point-test c (cell4 (edge axis_y p)) (right_edge axis_z c).from p (λ s. omega arith) (λ s. omega arith);
      near = refl;
      far = refl;
    }
hits axis_z axis_z c p h k =
    record {
      left = refl;
      right = refl;
      near = refl;
      far = refl;
    }
