-- A full tank: every distance is below zero. Then every vertex of the closed grid is one of a cell of the border, on some axis at 0 or at the open grid's last
-- point, so that by Standing it lies on the surface of the tank's box. And in no grid is there a vertex beyond the outermost points. Assumes nothing.
use Prim.Native.Nat.{ℕ, ◌+◌, ◌≤◌, ◌<◌}
use native.Mathlib.Nat.{le_trans, le_of_eq}
use native.Mathlib.Omega.{arith}
use mathlib.Core.Bool.{true, ◌&&◌, true≢false}
use mathlib.Core.List.{List}
use mathlib.Core.Logic.{◌⊎◌, inl, inr}
use mathlib.Core.Path.{◌≡◌, refl, sym, ap, subst, ◌∙◌}
use lib.Dec.{T, leb, le→leb, lit<}
use lib.Ieee.{Float, nan}
use lib.Ieee.Bits.{is_true}
use lib.Ieee.Fits.{and_i}
use lib.ListN.{length, get_or}
use Rattle.lists.proofs.Tests.{failed, less-or-not}
use Rattle.lists.proofs.Lists.{All, none, more, all_then, all_map, many-none, many-every}
use Rattle.rules.specs.Grid.{GridPoint, Axis, axis_x, axis_y, axis_z, Field, along, index, between, in_box, is_cell, value}
use Rattle.rules.specs.Cell.{negative, negatives, surface, corner_of, eight, values}
use Rattle.rules.specs.Vertices.{surface_cell, vertices}
use Rattle.rules.proofs.Indexes.{corner-in-box, volume, right-length}
use Rattle.rules.proofs.Inside.{vertices-all}
use Rattle.closing.specs.Closed.{closed_dims, in_open, open_point, open_field, closed_list}
use Rattle.closing.proofs.Answers.{Accepted}
use Rattle.closed_bed.specs.Standing.{whole_box, OnBorder}
use Rattle.closed_bed.proofs.Values.{closed-point, value-open, value-wall, wall-above}
use Rattle.closed_bed.proofs.Enclosing.{not_negative}
use Rattle.closed_bed.proofs.Sides.{side_of}
use Rattle.closed_bed.proofs.Standing.{corner-along, beyond-high}

-- ---- all corners alike

pub all-eight : All (λ i. i < 8) eight
all-eight = more (lit< tt) (more (lit< tt) (more (lit< tt) (more (lit< tt) (more (lit< tt) (more (lit< tt) (more (lit< tt) (more (lit< tt) none)))))))

each-corner : (P : Float → Type 0) (g : Field) (c : GridPoint) → ((i : ℕ) → i < 8 → P (value g (corner_of c i))) → All P (values g c)
each-corner P g c h = all_map (λ i. value g (corner_of c i)) (all_then h all-eight)

-- none negative, or all of them: no surface cell
no-surface : (d : List Float) → negatives d ≡ 0 → T (surface d) → ⊥
no-surface d e t = subst (λ (n : ℕ). T (leb 1 n && leb n 7)) e t

full-surface : (d : List Float) → negatives d ≡ 8 → T (surface d) → ⊥
full-surface d e t = subst (λ (n : ℕ). T (leb 1 n && leb n 7)) e t

-- a corner is on one side or the other
pub side-few : (a : Axis) (i : ℕ) → i < 8 → side_of a i ≤ 1
side-few axis_x i h = omega arith
side-few axis_y i h = omega arith
side-few axis_z i h = omega arith

-- where a coordinate of a cell lies
where-is : (n k : ℕ) → k ≤ n + 1 → ((k ≡ 0) ⊎ (k ≡ n)) ⊎ ((k ≡ n + 1) ⊎ ((1 ≤ k) × (k + 1 ≤ n)))
where-is n k h =
    elim (less-or-not 0 k) [
      | inr a ↦ inl (inl (omega arith))
      | inl a ↦
          elim (less-or-not k n) [
            | inl b ↦ inr (inr (omega arith, omega arith))
            | inr b ↦ elim (less-or-not n k) [ inl c ↦ inr (inl (omega arith)) | inr c ↦ inl (inr (omega arith)) ]
          ]
    ]

module _ (d : GridPoint) (sdf : List Float) (wall : Float) (room : ℕ) (ok : Accepted d (length sdf) wall room) where
  abbrev closed : Field
  closed = open_field (closed_dims d) (closed_list (open_field d sdf) wall)

  module _ (c : GridPoint) (is-cell : T (is_cell (whole_box (closed_dims d)) c)) (is-surface : T (surface_cell closed c)) where
    in-box : (i : ℕ) → i < 8 → T (in_box (whole_box (closed_dims d)) (corner_of c i))
    in-box i h = corner-in-box (whole_box (closed_dims d)) c i is-cell h

    -- a cell beyond the outermost points has wall alone
    not_beyond : (a : Axis) → along a d < along a c → ⊥
    not_beyond a h =
        no-surface (values closed c)
        (many-none negative
        (each-corner (λ (v : Float). T (negative v) → ⊥) closed c
        (λ i k t. true≢false
        (sym (is_true _ t)
        ∙ ap negative (closed-point d sdf wall (corner_of c i) (in-box i k)
        ∙ value-wall (open_field d sdf) wall (corner_of c i) (beyond-high a d (corner_of c i) (le_trans h (le_trans (omega arith) (le_of_eq (sym (corner-along a c i)))))))
        ∙ not_negative wall (wall-above wall ok.far)))))
        is-surface

    pub no-vertex-beyond : (a : Axis) → along a c ≤ along a d
    no-vertex-beyond a = elim (less-or-not (along a d) (along a c)) [ inl h ↦ absurd (not_beyond a h) | inr h ↦ h ]

    -- ---- a full tank

    module _ (full : (i : ℕ) → i < length sdf → T (negative (get_or sdf i nan))) where
      -- not all coordinates are inside
      not-inside : ((a : Axis) → (1 ≤ along a c) × (along a c + 1 ≤ along a d)) → ⊥
      not-inside h =
          full-surface (values closed c)
          (many-every negative
          (each-corner (λ (v : Float). T (negative v)) closed c
          (λ i k.
          let p = corner_of c i in
          let open' : in_open d p ≡ true = is_true (in_open d p) (opened i k) in
          let e = closed-point d sdf wall p (in-box i k) ∙ value-open (open_field d sdf) wall p open' in
          subst (λ (v : Float). T (negative v)) (sym e) (full (index d (open_point p)) (listed i k)))))
          is-surface
        where
          inside : (a : Axis) (i : ℕ) → i < 8 → (1 ≤ along a (corner_of c i)) × (along a (corner_of c i) ≤ along a d)
          inside a i k = let s = side-few a i k in let q = h a in let e = corner-along a c i in (omega arith, omega arith)

          within : (n m : ℕ) → (1 ≤ m) × (m ≤ n) → T (between 1 n m)
          within n m q = and_i (leb 1 m) (leb m n) (le→leb 1 m q.0) (le→leb m n q.1)

          opened : (i : ℕ) → i < 8 → T (in_open d (corner_of c i))
          opened i k =
              let p = corner_of c i in
              and_i (between 1 d.x p.x) (between 1 d.y p.y && between 1 d.z p.z) (within d.x p.x (inside axis_x i k))
              (and_i (between 1 d.y p.y) (between 1 d.z p.z) (within d.y p.y (inside axis_y i k)) (within d.z p.z (inside axis_z i k)))

          listed : (i : ℕ) → i < 8 → index d (open_point (corner_of c i)) < length sdf
          listed i k =
              let x = inside axis_x i k in
              let y = inside axis_y i k in
              let z = inside axis_z i k in
              le_trans (volume d (open_point (corner_of c i)) (omega arith) (omega arith) (omega arith)) (le_of_eq (sym (right-length d (length sdf) (failed refl ok.sized))))

      pub on-border : OnBorder d c
      on-border = go axis_x (λ x. go axis_y (λ y. go axis_z (λ z. absurd (not-inside (all x y z)))))
        where
          all : (1 ≤ c.x) × (c.x + 1 ≤ d.x) → (1 ≤ c.y) × (c.y + 1 ≤ d.y) → (1 ≤ c.z) × (c.z + 1 ≤ d.z) → (a : Axis) → (1 ≤ along a c) × (along a c + 1 ≤ along a d)
          all x y z axis_x = x
          all x y z axis_y = y
          all x y z axis_z = z

          go : (a : Axis) → ((1 ≤ along a c) × (along a c + 1 ≤ along a d) → OnBorder d c) → OnBorder d c
          go a rest =
              elim (where-is (along a d) (along a c) (le_trans (no-vertex-beyond a) (omega arith))) [
                | inl e ↦ record { axis = a; end = e }
                | inr (inl e) ↦ absurd (not_beyond a (omega arith))
                | inr (inr q) ↦ rest q
              ]

  -- every vertex of a full tank's closed grid
  pub tank-on-border : ((i : ℕ) → i < length sdf → T (negative (get_or sdf i nan))) → All (OnBorder d) (vertices closed (whole_box (closed_dims d)))
  tank-on-border full = all_then (λ c h. on-border c h.0 h.1 full) (vertices-all closed (whole_box (closed_dims d)))
