-- The sum over the faces of a mesh, as the sums over all edges of the box by which of their ends lie in the sludge; each vertex within its cell; and the number of
-- edges with just one end in the sludge. Assumes nothing.
use Prim.Native.Nat.{ℕ, ◌+◌, ◌*◌, ◌≤◌}
use native.Mathlib.Omega.{arith}
use mathlib.Core.Bool.{Bool, true, false, not, ◌&&◌, cond}
use mathlib.Core.List.{List, [], ◌∷◌}
use mathlib.Core.Logic.{◌⊎◌, inl, inr}
use mathlib.Core.Path.{◌≡◌, refl, sym, ap, ap₂, subst, subst₂, ◌∙◌}
use lib.Dec.{T}
use lib.IntN.{ℤ, pos, ◌+ℤ◌, ◌-ℤ◌, +ℤ_comm, +ℤ_idl}
use lib.Ieee.{binary32, fits, unlike}
use lib.Ieee.Bits.{is_true}
use lib.Ieee.Fits.{and_i, and_l, and_r}
use Rattle.lists.specs.Lists.{one, many, keep}
use Rattle.lists.proofs.Lists.{All, none, more, all-each, all_then, total, total-same, many-total}
use Rattle.lists.proofs.Tests.{same_test}
use Rattle.rules.specs.Grid.{GridPoint, Axis, axis_x, axis_y, axis_z, Box, Field, along, step_up, is_cell, in_box, value}
use Rattle.rules.specs.Cell.{Vector, negative}
use Rattle.rules.specs.Vertices.{surface_cell, vertex_position}
use Rattle.rules.specs.Faces.{Edge, edge, edges_at, Flags, gives, owned, changes, edges, points, six, shorter, face_cells, cell1, cell2, cell3, cell4, changing_edges}
use Rattle.rules.specs.Call.{bad_dimensions, bad_box, bad_distance}
use Rattle.rules.proofs.Indexes.{in-box}
use Rattle.rules.proofs.FourCells.{Four, gives-cell}
use Rattle.rules.proofs.Edges.{edges-all, edges-found, map-six}
use Rattle.rules.proofs.Numbers.{four-each}
use Rattle.rules.proofs.Inside.{points-all}
use Rattle.cube.proofs.ClosedCell.{InCell, OnAxes}
use Rattle.cube.proofs.UnderCaps.{under-caps}
use Rattle.volume.specs.declared.Corner.{Corner}
use Rattle.volume.specs.Volume.{falling, rising, determinant}
use Rattle.volume.proofs.Whole.{minus_plus}
use Rattle.skin.specs.Enclosed.{Inner, Enclosed}
use Rattle.skin.proofs.Inner.{EndsIn, changing-owned, edge_in}
use Rattle.weighed_mesh.specs.Facing.{steps_of, on_axis, vertex_steps}
use Rattle.weighed_mesh.proofs.Sides.{perm-total}
use Rattle.weighed_mesh.proofs.Faces.{sum_z, corners_sum, face_sum}
use Rattle.weighed_mesh.proofs.Facing.{steps-within}
use Rattle.bounded_mesh.specs.Round.{quad_fall, quad_rise, in_steps, Placing, InCells, round}
use Rattle.bounded_mesh.specs.Placed.{in_sludge, placed}
use Rattle.bounded_mesh.proofs.Sums.{total_kept, total-joined}
use Rattle.bounded_mesh.proofs.Squares.{whole, by-axes, whole-plus}

-- ---- each vertex in its cell

on-each : (c : GridPoint) (v : Vector) → OnAxes InCell c v → (a : Axis) → (256 * along a c ≤ on_axis a (steps_of v)) × (on_axis a (steps_of v) ≤ 256 * (along a c + 1))
on-each c v h axis_x = steps-within c.x v.x h.0
on-each c v h axis_y = steps-within c.y v.y h.1
on-each c v h axis_z = steps-within c.z v.z h.2

lowest : (c : GridPoint) (a : Axis) → (256 * along a c ≤ on_axis a (in_steps c)) × (on_axis a (in_steps c) ≤ 256 * (along a c + 1))
lowest c axis_x = omega arith
lowest c axis_y = omega arith
lowest c axis_z = omega arith

pub placed-within : (g : Field) (b : Box) → ((p : GridPoint) → T (in_box b p) → T (fits binary32 (value g p))) → T (not (bad_dimensions g.dims)) → T (not (bad_box g.dims b))
    → T (not (bad_distance g b)) → InCells (placed g b)
unfolding placed
placed-within g b values32 dims fit distances c a = go (is_cell b c && surface_cell g c) (λ t. t)
  where
    go : (t : Bool) → (T t → T (is_cell b c && surface_cell g c))
        → (256 * along a c ≤ on_axis a (cond t (vertex_steps g c) (in_steps c))) × (on_axis a (cond t (vertex_steps g c) (in_steps c)) ≤ 256 * (along a c + 1))
    go true h =
        on-each c (vertex_position g c)
        (under-caps g b c values32 dims fit distances (and_l (is_cell b c) (surface_cell g c) (h tt)) (and_r (is_cell b c) (surface_cell g c) (h tt))).inside a
    go false h = lowest c a

-- ---- one face

turned_round : (u v w : Corner) → rising u v w ≡ falling u w v
turned_round u v w = omega arith

two : (f r f' r' : ℕ) → (pos f -ℤ pos r) +ℤ ((pos f' -ℤ pos r') +ℤ pos 0) ≡ pos (f + f') -ℤ pos (r + r')
two f r f' r' = ap (λ (z : ℤ). (pos f -ℤ pos r) +ℤ z) (+ℤ_comm (pos f' -ℤ pos r') (pos 0) ∙ +ℤ_idl (pos f' -ℤ pos r')) ∙ sym (minus_plus f r f' r')

two-triangles : (u v w u' v' w' : Corner) → corners_sum (u ∷ v ∷ w ∷ u' ∷ v' ∷ w' ∷ []) ≡ pos (falling u v w + falling u' v' w') -ℤ pos (falling u w v + falling u' w' v')
unfolding corners_sum determinant
two-triangles u v w u' v' w' =
    two (falling u v w) (rising u v w) (falling u' v' w') (rising u' v' w')
    ∙ ap₂ (λ (m n : ℕ). pos (falling u v w + falling u' v' w') -ℤ pos (m + n)) (turned_round u v w) (turned_round u' v' w')

six-sum : (s t : Bool) (v1 v2 v3 v4 : Corner)
    → corners_sum (six s t v1 v2 v3 v4) ≡ pos (cond t (quad_fall s v1 v2 v3 v4) (quad_rise s v1 v2 v3 v4)) -ℤ pos (cond t (quad_rise s v1 v2 v3 v4) (quad_fall s v1 v2 v3 v4))
unfolding quad_fall quad_rise
six-sum true true v1 v2 v3 v4 = two-triangles v1 v2 v4 v1 v4 v3
six-sum true false v1 v2 v3 v4 = two-triangles v1 v4 v2 v1 v3 v4
six-sum false true v1 v2 v3 v4 = two-triangles v2 v4 v3 v2 v3 v1
six-sum false false v1 v2 v3 v4 = two-triangles v2 v3 v4 v2 v1 v3

sum-parts : {A : Type 0} (h : A → ℤ) (f r : A → ℕ) {l : List A} → All (λ x. h x ≡ pos (f x) -ℤ pos (r x)) l → sum_z h l ≡ pos (total f l) -ℤ pos (total r l)
unfolding sum_z total
sum-parts h f r none = refl
sum-parts h f r (more {x = x} {xs = l} p q) = ap₂ ◌+ℤ◌ p (sum-parts h f r q) ∙ sym (minus_plus (f x) (r x) (total f l) (total r l))

-- ---- all faces

pub true-and : (s t : Bool) → T s → (s && t) ≡ t
true-and true t h = refl
true-and false t h = absurd h

unlike-one : (s t : Bool) → T (unlike s t) → T s ⊎ T t
unlike-one true t h = inl tt
unlike-one false true h = inr tt
unlike-one false false h = absurd h

-- an edge with both ends counts the same twice over, and one with none not at all
balance : (s t : Bool) (f r : ℕ) → cond (unlike s t) (cond s f r) 0 + (one s * r + one t * f) ≡ cond (unlike s t) (cond s r f) 0 + (one s * f + one t * r)
balance true true f r = omega arith
balance true false f r = omega arith
balance false true f r = omega arith
balance false false f r = omega arith

module _ (g : Field) (b : Box) (m : Flags) where
  abbrev v : Placing
  v = placed g b

  abbrev n : GridPoint → Bool
  n = in_sludge g b

  abbrev fall_at : Edge → ℕ
  fall_at e = round v (quad_fall (shorter g e)) e

  abbrev rise_at : Edge → ℕ
  rise_at e = round v (quad_rise (shorter g e)) e

  -- what the face counts plus, and what it counts minus: it faces up if p1 is negative
  abbrev plus_of : Edge → ℕ
  plus_of e = cond (negative (value g e.from)) (fall_at e) (rise_at e)

  abbrev less_of : Edge → ℕ
  less_of e = cond (negative (value g e.from)) (rise_at e) (fall_at e)

  placed-is : (c : GridPoint) → T (is_cell b c) → T (surface_cell g c) → vertex_steps g c ≡ placed g b c
  unfolding placed
  placed-is c i s = sym (ap (λ (t : Bool). cond t (vertex_steps g c) (in_steps c)) (is_true (is_cell b c && surface_cell g c) (and_i (is_cell b c) (surface_cell g c) i s)))

  face-parts : (e : Edge) → T (gives g b m e) → face_sum g e ≡ pos (plus_of e) -ℤ pos (less_of e)
  unfolding face_sum face_cells
  face-parts e t =
      let q : Four (λ (c : GridPoint). vertex_steps g c ≡ placed g b c) e = four-each g b m e t (λ c i s l. placed-is c i s) in
      ap corners_sum (map-six (vertex_steps g) (shorter g e) (negative (value g e.from)) (cell1 e) (cell2 e) (cell3 e) (cell4 e))
      ∙ (λ i. corners_sum (six (shorter g e) (negative (value g e.from)) (q.one i) (q.two i) (q.three i) (q.four i)))
      ∙ six-sum (shorter g e) (negative (value g e.from)) (v (cell1 e)) (v (cell2 e)) (v (cell3 e)) (v (cell4 e))

  edges-sum : sum_z (face_sum g) (edges g b m) ≡ pos (total plus_of (edges g b m)) -ℤ pos (total less_of (edges g b m))
  edges-sum = sum-parts (face_sum g) plus_of less_of (all_then face-parts (edges-all g b m))

  three-list : (x y z : ℕ) → x + (y + (z + 0)) ≡ x + y + z
  three-list x y z = omega arith

  -- over all edges of the box
  over-points : (f : Edge → ℕ) → total f (edges g b m) ≡ whole b (λ (a : Axis) (p : GridPoint). cond (gives g b m (edge a p)) (f (edge a p)) 0)
  unfolding total
  over-points f =
      perm-total f (edges-found g b m)
      ∙ total-joined f (λ (p : GridPoint). keep (gives g b m) (edges_at p)) (points b)
      ∙ total-same (all-each (λ (p : GridPoint). total_kept f (gives g b m) (edges_at p)
      ∙ three-list (cond (gives g b m (edge axis_x p)) (f (edge axis_x p)) 0) (cond (gives g b m (edge axis_y p)) (f (edge axis_y p)) 0) (cond (gives g b m (edge axis_z p)) (f (edge axis_z p)) 0))
      (points b))

  module _ (h : Enclosed g b) where
    pub inner : (p : GridPoint) → T (in_sludge g b p) → Inner b p
    inner p t = h p (and_l (in_box b p) (negative (value g p)) t) (and_r (in_box b p) (negative (value g p)) t)

    up_in : (a : Axis) (p : GridPoint) → Inner b p → T (in_box b (step_up a p))
    up_in axis_x p i = in-box b (step_up axis_x p) (omega (arith, i axis_x, i axis_y, i axis_z))
    up_in axis_y p i = in-box b (step_up axis_y p) (omega (arith, i axis_x, i axis_y, i axis_z))
    up_in axis_z p i = in-box b (step_up axis_z p) (omega (arith, i axis_x, i axis_y, i axis_z))

    sludge-is : (p : GridPoint) → T (in_box b p) → n p ≡ negative (value g p)
    sludge-is p t = true-and (in_box b p) (negative (value g p)) t

    changes-is : (a : Axis) (p : GridPoint) → EndsIn b (edge a p) → unlike (n p) (n (step_up a p)) ≡ changes g (edge a p)
    unfolding changes
    changes-is a p i = ap₂ unlike (sludge-is p i.0) (sludge-is (step_up a p) i.1)

    -- of the points of the box, an edge gives a face exactly if one end lies in the sludge
    gives-is : (a : Axis) (p : GridPoint) → T (in_box b p) → gives g b m (edge a p) ≡ unlike (n p) (n (step_up a p))
    gives-is a p i = same_test (gives g b m (edge a p)) (unlike (n p) (n (step_up a p))) to from
      where
        to : T (gives g b m (edge a p)) → T (unlike (n p) (n (step_up a p)))
        to t = subst T (sym (changes-is a p (edge_in b (edge a p) (gives-cell g b m (edge a p) t)))) (and_r (owned b m (edge a p)) (changes g (edge a p)) t)

        ends : T (unlike (n p) (n (step_up a p))) → EndsIn b (edge a p)
        ends t = elim (unlike-one (n p) (n (step_up a p)) t) [ inl s ↦ (i, up_in a p (inner p s)) | inr s ↦ (i, and_l (in_box b (step_up a p)) (negative (value g (step_up a p))) s) ]

        from : T (unlike (n p) (n (step_up a p))) → T (gives g b m (edge a p))
        from t =
            let c : T (changes g (edge a p)) = subst T (changes-is a p (ends t)) t in
            and_i (owned b m (edge a p)) (changes g (edge a p)) (changing-owned g b m h (edge a p) (ends t) c) c

    same-edge : (a : Axis) (p : GridPoint) → T (in_box b p) →
        cond (gives g b m (edge a p)) (plus_of (edge a p)) 0 + (one (n p) * rise_at (edge a p) + one (n (step_up a p)) * fall_at (edge a p))
        ≡ cond (gives g b m (edge a p)) (less_of (edge a p)) 0 + (one (n p) * fall_at (edge a p) + one (n (step_up a p)) * rise_at (edge a p))
    same-edge a p i =
        subst₂ (λ (t s : Bool). cond t (cond s (fall_at (edge a p)) (rise_at (edge a p))) 0 + (one (n p) * rise_at (edge a p) + one (n (step_up a p)) * fall_at (edge a p))
        ≡ cond t (cond s (rise_at (edge a p)) (fall_at (edge a p))) 0 + (one (n p) * fall_at (edge a p) + one (n (step_up a p)) * rise_at (edge a p)))
        (sym (gives-is a p i)) (sludge-is p i) (balance (n p) (n (step_up a p)) (fall_at (edge a p)) (rise_at (edge a p)))

    abbrev gains_at : Axis → GridPoint → ℕ
    gains_at a p = one (n p) * fall_at (edge a p) + one (n (step_up a p)) * rise_at (edge a p)

    abbrev loses_at : Axis → GridPoint → ℕ
    loses_at a p = one (n p) * rise_at (edge a p) + one (n (step_up a p)) * fall_at (edge a p)

    abbrev plus_at : Axis → GridPoint → ℕ
    plus_at a p = cond (gives g b m (edge a p)) (plus_of (edge a p)) 0

    abbrev less_at : Axis → GridPoint → ℕ
    less_at a p = cond (gives g b m (edge a p)) (less_of (edge a p)) 0

    same_whole : whole b plus_at + whole b loses_at ≡ whole b less_at + whole b gains_at
    same_whole =
        sym (whole-plus b plus_at loses_at)
        ∙ total-same (all_then (λ (p : GridPoint) (i : T (in_box b p)). λ j. same-edge axis_x p i j + same-edge axis_y p i j + same-edge axis_z p i j) (points-all b))
        ∙ whole-plus b less_at gains_at

    -- the sum over the faces is a difference, and another way the same difference
    pub record Difference (s : ℤ) : Type 0 where
      pub plus : ℕ
      pub less : ℕ
      pub is : s ≡ pos plus -ℤ pos less
      pub same : plus + whole b loses_at ≡ less + whole b gains_at

    pub faces-difference : Difference (sum_z (face_sum g) (edges g b m))
    faces-difference =
        record {
          plus = total plus_of (edges g b m);
          less = total less_of (edges g b m);
          is = edges-sum;
          same = ap (λ (k : ℕ). k + whole b loses_at) (over-points plus_of) ∙ same_whole ∙ ap (λ (k : ℕ). k + whole b gains_at) (sym (over-points less_of));
        }

    pub one-ends : whole b (λ (a : Axis) (p : GridPoint). one (unlike (n p) (n (step_up a p)))) ≡ changing_edges g b m
    unfolding changing_edges
    one-ends =
        sym
        ((λ j. along-axis axis_x j + along-axis axis_y j + along-axis axis_z j)
        ∙ sym (by-axes b (λ (a : Axis) (p : GridPoint). one (gives g b m (edge a p))))
        ∙ total-same (all_then (λ (p : GridPoint) (i : T (in_box b p)). λ j. one (gives-is axis_x p i j) + one (gives-is axis_y p i j) + one (gives-is axis_z p i j)) (points-all b)))
      where
        along-axis : (a : Axis) → many (λ (p : GridPoint). gives g b m (edge a p)) (points b) ≡ total (λ (p : GridPoint). one (gives g b m (edge a p))) (points b)
        along-axis a = many-total (λ (p : GridPoint). gives g b m (edge a p)) (points b)
