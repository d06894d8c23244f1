-- Of each axis a region's points are the edges that a block owns, so that a search on it tells its first wrong edge; and of the three searches in their order the
-- first wrong edge of all, or that the blocks are a plan. Assumes nothing.
use Prim.Native.Nat.{ℕ, ◌<◌}
use native.Mathlib.Omega.{arith}
use mathlib.Core.List.{List, map}
use mathlib.Core.Logic.{inl, inr}
use mathlib.Core.Path.{◌≡◌, sym, ap, subst, ◌∙◌}
use lib.ListN.{length}
use Rattle.std.specs.Prelude.{Option, Some, None, slice_get}
use Rattle.lists.specs.Lists.{one, up_to}
use Rattle.lists.proofs.Lists.{all-each, keep_same, length-keep, many-map}
use Rattle.rules.specs.Grid.{GridPoint, Axis, axis_x, axis_y, axis_z}
use Rattle.rules.specs.Faces.{Edge, edge, owned}
use Rattle.rules.specs.Cutting.{Piece, Plan}
use Rattle.rules.proofs.Ownership.{has}
use Rattle.plan.specs.declared.Block.{Block}
use Rattle.plan.specs.Triples.{Region}
use Rattle.plan.specs.Plan.{piece}
use Rattle.plan.proofs.Regions.{owned-box}
use Rattle.witness.specs.declared.axis.Axis.{Axis as Way}
use Rattle.witness.specs.declared.axis.Axis.TheVariants.{X, Y, Z}
use Rattle.witness.specs.declared.search.Wrong.{Wrong}
use Rattle.witness.specs.Witness.{owners, Right, axis_number, Before, FirstWrong}
use Rattle.witness.specs.Steps.{axis_of, region_of, placed, inside, owners_at, RightAt, WrongAt, Searched}
use Rattle.witness.specs.Told.{edge_of, Told, Names}

region-owns : (a : Axis) (b : Block) (p : GridPoint) → inside (region_of a b) p ≡ has (piece b) (edge a p)
unfolding inside region_of
region-owns axis_x b p = sym (owned-box axis_x b p)
region-owns axis_y b p = sym (owned-box axis_y b p)
region-owns axis_z b p = sym (owned-box axis_z b p)

module _ (blocks : ℕ → Block) (n : ℕ) (whole : Block) where
  abbrev pieces : ℕ → Piece
  pieces i = piece (blocks i)

  abbrev regions : Axis → ℕ → Region
  regions a i = region_of a (blocks i)

  abbrev region : Axis → Region
  region a = region_of a whole

  abbrev RightEdge : Edge → Type 0
  RightEdge e = Right pieces n (piece whole) e

  abbrev AllRight : Axis → Type 0
  AllRight a = (p : GridPoint) → RightEdge (edge a p)

  same-owners : (a : Axis) (p : GridPoint) → owners_at (regions a) n (region a) p ≡ owners pieces n (piece whole) (edge a p)
  same-owners a p = keep_same (all-each (λ i. region-owns a (blocks i) p) (up_to 0 n))

  right-edge : (a : Axis) (p : GridPoint) → RightAt (regions a) n (region a) p → RightEdge (edge a p)
  right-edge a p r = sym (ap length (same-owners a p)) ∙ r ∙ ap one (region-owns a whole p)

  edge-right : (a : Axis) (p : GridPoint) → RightEdge (edge a p) → RightAt (regions a) n (region a) p
  edge-right a p r = ap length (same-owners a p) ∙ r ∙ sym (ap one (region-owns a whole p))

  plan-of : ((a : Axis) → AllRight a) → Plan (map pieces (up_to 0 n)) (piece whole)
  plan-of r e =
      many-map (λ (q : Piece). owned q.box q.flags e) pieces (up_to 0 n)
      ∙ sym (length-keep (λ (i : ℕ). owned (pieces i).box (pieces i).flags e) (up_to 0 n)) ∙ r e.axis e.from

  -- ---- a search on one axis, where every edge of the axes before it is right

  abbrev pub On : Way → Option Wrong → Type 0
  On way r = Searched (regions (axis_of way)) n (region (axis_of way)) way r

  abbrev Lower : Way → Type 0
  Lower way = (e : Edge) → axis_number e.axis < axis_number (axis_of way) → RightEdge e

  found-told : (way : Way) (f : Wrong) → f.axis ≡ way → WrongAt (regions (axis_of way)) n (region (axis_of way)) f → Lower way → Told pieces n (piece whole) f
  found-told way f e s lower =
      record {
        near = s.near;
        wrong = subst (FirstWrong pieces n (piece whole)) (sym is) (record { wrong = λ r. s.wrong (edge-right a (placed f.at) r); first = first });
        first = s.first ∙ ap (λ (os : List ℕ). slice_get os 0) os;
        second = s.second ∙ ap (λ (os : List ℕ). slice_get os 1) os;
      }
    where
      a : Axis
      a = axis_of way

      is : edge_of f ≡ edge a (placed f.at)
      is = ap (λ (w : Way). edge (axis_of w) (placed f.at)) e

      os : owners_at (regions a) n (region a) (placed f.at) ≡ owners pieces n (piece whole) (edge_of f)
      os = same-owners a (placed f.at) ∙ ap (owners pieces n (piece whole)) (sym is)

      first : (e : Edge) → Before e (edge a (placed f.at)) → RightEdge e
      first e (inl h) = lower e h
      first e (inr (i, h)) = subst (λ (b : Axis). RightEdge (edge b e.from)) (sym i) (right-edge a e.from (s.before e.from h))

  all_right : (a : Axis) → ((q : GridPoint) → RightAt (regions a) n (region a) q) → AllRight a
  all_right a h p = right-edge a p (h p)

  -- the axes before x, y and z
  below-x : Lower X
  below-x e h = absurd (omega (arith, h))

  below-y : AllRight axis_x → Lower Y
  below-y x e h = go e.axis h
    where
      go : (a : Axis) → axis_number a < 1 → RightEdge (edge a e.from)
      go axis_x h = x e.from
      go axis_y h = absurd (omega arith)
      go axis_z h = absurd (omega arith)

  below-z : AllRight axis_x → AllRight axis_y → Lower Z
  below-z x y e h = go e.axis h
    where
      go : (a : Axis) → axis_number a < 2 → RightEdge (edge a e.from)
      go axis_x h = x e.from
      go axis_y h = y e.from
      go axis_z h = absurd (omega arith)

  all-axes : AllRight axis_x → AllRight axis_y → AllRight axis_z → (a : Axis) → AllRight a
  all-axes x y z axis_x = x
  all-axes x y z axis_y = y
  all-axes x y z axis_z = z

  -- each search is made where the ones before it found nothing
  abbrev pub Named : Option Wrong → Type 0
  Named r = Names pieces n (piece whole) r

  pub named-x : (f : Wrong) → On X (Some f) → Named (Some f)
  named-x f s = found-told X f s.0 s.1 below-x

  pub named-y : (f : Wrong) → On X None → On Y (Some f) → Named (Some f)
  named-y f sx s = found-told Y f s.0 s.1 (below-y (all_right axis_x sx))

  pub named-z : (r : Option Wrong) → On X None → On Y None → On Z r → Named r
  named-z (Some f) sx sy s = found-told Z f s.0 s.1 (below-z (all_right axis_x sx) (all_right axis_y sy))
  named-z None sx sy s = plan-of (all-axes (all_right axis_x sx) (all_right axis_y sy) (all_right axis_z s))
