-- The premise of request 8 as a test: it passes exactly if every negative point of the box lies inside, and then the skin has no hole. A box
-- without a negative point passes it and has no face. From the count of each point in the box's list of points. Assumes nothing.
use Prim.Native.Nat.{ℕ, ◌+◌, ◌≤◌}
use mathlib.Core.Bool.{Bool, true, false, not}
use mathlib.Core.List.{List, []}
use mathlib.Core.Logic.{◌↔◌, ◌⊎◌, inl, inr}
use mathlib.Core.Path.{◌≡◌, refl, sym, ap, subst, ◌∙◌}
use lib.Dec.{T, leb, leb→le, le→leb, T_not}
use lib.Ieee.Fits.{and_i, and_l, and_r}
use Rattle.lists.specs.Lists.{many, joined}
use Rattle.rules.specs.Grid.{GridPoint, axis_x, axis_y, axis_z, Box, Field, step_up, in_box, value}
use Rattle.rules.specs.Cell.{negative}
use Rattle.rules.specs.Faces.{Edge, Flags, owned, changes, gives, indices}
use Rattle.lists.proofs.Tests.{is-test}
use Rattle.lists.proofs.Lists.{All, none, more, all_then}
use Rattle.rules.proofs.Indexes.{Axes, axes, of-axes}
use Rattle.rules.proofs.Inside.{none_in, in-none}
use Rattle.rules.proofs.FourCells.{gives-cell}
use Rattle.rules.proofs.Edges.{edges-all}
use Rattle.rules.proofs.Numbers.{face_numbers, indices-are}
use Rattle.skin.specs.Links.{link, same_link, links}
use Rattle.skin.specs.Enclosed.{Inner, Enclosed, inner_side, inner, stray, enclosed, all_outside}
use Rattle.skin.proofs.Inner.{EndsIn, edge_in, negative-end}
use Rattle.skin.proofs.Skin.{skin-law}

-- ---- a point inside

pub side-says : (low high n : ℕ) → T (inner_side low high n) → (low + 1 ≤ n) × (n + 2 ≤ high)
side-says low high n t = (leb→le (low + 1) n (and_l (leb (low + 1) n) (leb (n + 2) high) t), leb→le (n + 2) high (and_r (leb (low + 1) n) (leb (n + 2) high) t))

pub says-side : (low high n : ℕ) → (low + 1 ≤ n) × (n + 2 ≤ high) → T (inner_side low high n)
says-side low high n h = and_i (leb (low + 1) n) (leb (n + 2) high) (le→leb (low + 1) n h.0) (le→leb (n + 2) high h.1)

-- from min + 1 to max - 2
abbrev Side : ℕ → ℕ → ℕ → Type 0
Side low high n = (low + 1 ≤ n) × (n + 2 ≤ high)

module _ (b : Box) (p : GridPoint) where
  pub inner-says : T (inner b p) → Inner b p
  unfolding inner
  inner-says t = go (axes inner_side Side b.low b.high p side-says t)
    where
      go : Axes Side b.low b.high p → Inner b p
      go s axis_x = s.x
      go s axis_y = s.y
      go s axis_z = s.z

  pub says-inner : Inner b p → T (inner b p)
  unfolding inner
  says-inner h = of-axes inner_side Side b.low b.high p says-side (record { x = h axis_x; y = h axis_y; z = h axis_z })

-- ---- the premise

module _ (g : Field) (b : Box) where
  pub enclosed-says : T (enclosed g b) → Enclosed g b
  unfolding enclosed
  enclosed-says t p i n = inner-says b p (go (inner b p) refl)
    where
      go : (c : Bool) → inner b p ≡ c → T (inner b p)
      go true e = is-test (inner b p) e
      go false e = absurd (none_in b (stray g b) t p i (and_i (negative (value g p)) (not (inner b p)) n (subst (λ r. T (not r)) (sym e) tt)))

  pub enclosed-if : Enclosed g b → T (enclosed g b)
  unfolding enclosed
  enclosed-if h = in-none b (stray g b) (λ p i t. T_not (inner b p) (and_r (negative (value g p)) (not (inner b p)) t)
      (says-inner b p (h p i (and_l (negative (value g p)) (not (inner b p)) t))))

  pub enclosed-is : T (enclosed g b) ↔ Enclosed g b
  enclosed-is = (enclosed-says, enclosed-if)

  -- the test, and no hole
  pub skin-closed : T (enclosed g b) → (m : Flags) (i j : ℕ) → many (same_link (link i j)) (links (indices g b m)) ≡ many (same_link (link j i)) (links (indices g b m))
  skin-closed t m i j = skin-law g b m (enclosed-says t) i j

  -- ---- a box without a negative point

  pub outside-says : T (all_outside g b) → (p : GridPoint) → T (in_box b p) → T (negative (value g p)) → ⊥
  unfolding all_outside
  outside-says t p i n = none_in b (λ (q : GridPoint). negative (value g q)) t p i n

  pub outside-enclosed : T (all_outside g b) → T (enclosed g b)
  outside-enclosed t = enclosed-if (λ p i n. absurd (outside-says t p i n))

  pub outside-empty : T (all_outside g b) → (m : Flags) → indices g b m ≡ []
  unfolding joined
  outside-empty t m = indices-are g b m ∙ ap (joined (face_numbers g b)) (empty (all_then at (edges-all g b m)))
    where
      empty : {l : List Edge} → All (λ e. ⊥) l → l ≡ []
      empty none = refl
      empty (more p q) = absurd p

      ends : (e : Edge) → EndsIn b e → T (negative (value g e.from)) ⊎ T (negative (value g (step_up e.axis e.from))) → ⊥
      ends e i (inl n) = outside-says t e.from i.0 n
      ends e i (inr n) = outside-says t (step_up e.axis e.from) i.1 n

      at : (e : Edge) → T (gives g b m e) → ⊥
      at e s = ends e (edge_in b e (gives-cell g b m e s)) (negative-end g e (and_r (owned b m e) (changes g e) s))
