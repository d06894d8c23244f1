-- Of each axis the edges that a block owns are the points of one box; so a plan is a covering on each axis. And what the tests of two such boxes
-- say of their points. Assumes nothing.
use Prim.Native.Nat.{ℕ, ◌+◌, ◌-◌, ◌≤◌, ◌<◌}
use native.Mathlib.Omega.{arith}
use mathlib.Core.Bool.{Bool, true, false, not, ◌&&◌, ◌||◌, cond, and-true}
use mathlib.Core.List.{List, map}
use mathlib.Core.Logic.{◌⊎◌, inl, inr}
use mathlib.Core.Path.{◌≡◌, sym, ap, ◌∙◌}
use lib.Dec.{T, leb, ltb, eqb, leb→le, le→leb, ltb→lt, lt→ltb, eqb→eq, nleb→lt, T_not, not_T}
use lib.Ieee.Fits.{and_i, and_l, and_r, eq→eqb}
use Rattle.lists.specs.Lists.{one, many, below}
use Rattle.rules.specs.Grid.{GridPoint, Axis, axis_x, axis_y, axis_z, Box, is_cell}
use Rattle.rules.specs.Faces.{edge}
use Rattle.rules.specs.Cutting.{Piece, Plan}
use Rattle.lists.proofs.Tests.{same_test, less-or-not, below-low, below-high, below_in, nor-left, nor-right, nor-both}
use Rattle.lists.proofs.Lists.{all-each, many-map, many-same}
use Rattle.rules.proofs.Ownership.{side, has, owned-sides}
use Rattle.plan.specs.declared.Block.{Block}
use Rattle.plan.specs.declared.region.Span.{Span}
use Rattle.plan.specs.Triples.{Region}
use Rattle.plan.specs.Triples.{Owned}
use Rattle.plan.specs.Plan.{piece}
use Rattle.plan.specs.Region.{owned_of, box_of, spans_meet, regions_meet, owned_meet, span_empty, span_within, region_inside, owned_inside}
use Rattle.plan.proofs.Covering.{Covers, Within, Apart}

-- ---- owned edges are boxes of points

abbrev pub region_on : Axis → Owned → Region
region_on axis_x o = o.x
region_on axis_y o = o.y
region_on axis_z o = o.z

-- the box of the lowest points of the edges on an axis that a block owns
abbrev pub owned_box : Axis → Block → Box
owned_box a b = box_of (region_on a (owned_of b))

along-is : (f : Bool) (low high p : ℕ) → side true f low high p ≡ below low (cond f high (high - 1)) p
along-is true low high p = and-true (below low high p)
along-is false low high p = same_test (side true false low high p) (below low (high - 1) p) to from
  where
    to : T (side true false low high p) → T (below low (high - 1) p)
    to t =
        let b : T (below low high p) = and_l (below low high p) (not (eqb p (high - 1))) t in
        let n : p ≡ high - 1 → ⊥ = λ e. T_not (eqb p (high - 1)) (and_r (below low high p) (not (eqb p (high - 1))) t) (eq→eqb e) in
        below_in low (high - 1) p (below-low low high p b) (omega (arith, below-high low high p b, n))

    from : T (below low (high - 1) p) → T (side true false low high p)
    from t =
        and_i (below low high p) (not (eqb p (high - 1)))
        (below_in low high p (below-low low (high - 1) p t) (omega (arith, below-high low (high - 1) p t)))
        (not_T (eqb p (high - 1)) (λ e. omega (arith, below-high low (high - 1) p t, eqb→eq p (high - 1) e)))

across-is : (f : Bool) (low high p : ℕ) → side false f low high p ≡ below (low + 1) high p
across-is f low high p = same_test (below low high p && ltb low p) (below (low + 1) high p) to from
  where
    to : T (below low high p && ltb low p) → T (below (low + 1) high p)
    to t =
        below_in (low + 1) high p (omega (arith, ltb→lt low p (and_r (below low high p) (ltb low p) t)))
        (below-high low high p (and_l (below low high p) (ltb low p) t))

    from : T (below (low + 1) high p) → T (below low high p && ltb low p)
    from t =
        and_i (below low high p) (ltb low p)
        (below_in low high p (omega (arith, below-low (low + 1) high p t)) (below-high (low + 1) high p t))
        (lt→ltb low p (omega (arith, below-low (low + 1) high p t)))

three : {a b c a' b' c' : Bool} → a ≡ a' → b ≡ b' → c ≡ c' → (a && (b && c)) ≡ (a' && (b' && c'))
three e f g = λ i. e i && (f i && g i)

pub owned-box : (a : Axis) (b : Block) (p : GridPoint) → has (piece b) (edge a p) ≡ is_cell (owned_box a b) p
unfolding owned_of
owned-box axis_x b p =
    owned-sides (piece b) axis_x p
    ∙ three (along-is b.max_plane_x b.min_x b.max_x p.x) (across-is b.max_plane_y b.min_y b.max_y p.y)
    (across-is b.max_plane_z b.min_z b.max_z p.z)
owned-box axis_y b p =
    owned-sides (piece b) axis_y p
    ∙ three (across-is b.max_plane_x b.min_x b.max_x p.x) (along-is b.max_plane_y b.min_y b.max_y p.y)
    (across-is b.max_plane_z b.min_z b.max_z p.z)
owned-box axis_z b p =
    owned-sides (piece b) axis_z p
    ∙ three (across-is b.max_plane_x b.min_x b.max_x p.x) (across-is b.max_plane_y b.min_y b.max_y p.y)
    (along-is b.max_plane_z b.min_z b.max_z p.z)

-- ---- a plan is a covering on each axis

module _ (bs : List Block) (w : Block) where
  counts : (a : Axis) (p : GridPoint) → many (λ (q : Piece). has q (edge a p)) (map piece bs) ≡ many (λ (r : Box). is_cell r p) (map (owned_box a) bs)
  counts a p =
      many-map (λ (q : Piece). has q (edge a p)) piece bs
      ∙ many-same (all-each (λ b. owned-box a b p) bs)
      ∙ sym (many-map (λ (r : Box). is_cell r p) (owned_box a) bs)

  pub plan-covers : Plan (map piece bs) (piece w) → (a : Axis) → Covers (map (owned_box a) bs) (owned_box a w)
  plan-covers h a p = sym (counts a p) ∙ h (edge a p) ∙ ap one (owned-box a w p)

  pub covers-plan : ((a : Axis) → Covers (map (owned_box a) bs) (owned_box a w)) → Plan (map piece bs) (piece w)
  covers-plan h e = counts e.axis e.from ∙ h e.axis e.from ∙ ap one (sym (owned-box e.axis w e.from))

-- ---- two spans

spans-share : (a b : Span) → T (spans_meet a b) → (k : ℕ) × T (below a.from a.to k) × T (below b.from b.to k)
spans-share a b t = go (less-or-not a.from b.from)
  where
    A : Bool
    A = ltb a.from a.to

    B : Bool
    B = ltb b.from b.to

    C : Bool
    C = ltb a.from b.to

    D : Bool
    D = ltb b.from a.to

    aa : a.from < a.to
    aa = ltb→lt a.from a.to (and_l A B (and_l (A && B) C (and_l ((A && B) && C) D t)))

    bb : b.from < b.to
    bb = ltb→lt b.from b.to (and_r A B (and_l (A && B) C (and_l ((A && B) && C) D t)))

    ab : a.from < b.to
    ab = ltb→lt a.from b.to (and_r (A && B) C (and_l ((A && B) && C) D t))

    ba : b.from < a.to
    ba = ltb→lt b.from a.to (and_r ((A && B) && C) D t)

    go : (a.from < b.from) ⊎ (b.from ≤ a.from) → (k : ℕ) × T (below a.from a.to k) × T (below b.from b.to k)
    go (inl h) = (b.from, below_in a.from a.to b.from (omega arith) ba, below_in b.from b.to b.from (omega arith) bb)
    go (inr h) = (a.from, below_in a.from a.to a.from (omega arith) aa, below_in b.from b.to a.from h ab)

share-spans : (a b : Span) (k : ℕ) → T (below a.from a.to k) → T (below b.from b.to k) → T (spans_meet a b)
share-spans a b k s t =
    and_i ((ltb a.from a.to && ltb b.from b.to) && ltb a.from b.to) (ltb b.from a.to)
    (and_i (ltb a.from a.to && ltb b.from b.to) (ltb a.from b.to)
    (and_i (ltb a.from a.to) (ltb b.from b.to) (lt→ltb a.from a.to (omega (arith, al, ah))) (lt→ltb b.from b.to (omega (arith, bl, bh))))
    (lt→ltb a.from b.to (omega (arith, al, bh))))
    (lt→ltb b.from a.to (omega (arith, bl, ah)))
  where
    al : a.from ≤ k
    al = below-low a.from a.to k s

    ah : k < a.to
    ah = below-high a.from a.to k s

    bl : b.from ≤ k
    bl = below-low b.from b.to k t

    bh : k < b.to
    bh = below-high b.from b.to k t

-- a number of a span that another has not, unless it lies within
span-out : (a w : Span) → a.from < a.to → (T (span_within a w) → ⊥) → (k : ℕ) × T (below a.from a.to k) × (T (below w.from w.to k) → ⊥)
span-out a w h n = go (less-or-not a.from w.from) (less-or-not w.to a.to)
  where
    go : (a.from < w.from) ⊎ (w.from ≤ a.from) → (w.to < a.to) ⊎ (a.to ≤ w.to) → (k : ℕ) × T (below a.from a.to k) × (T (below w.from w.to k) → ⊥)
    go (inl l) m = (a.from, below_in a.from a.to a.from (omega arith) h, λ t. omega (arith, below-low w.from w.to a.from t))
    go (inr l) (inl m) = (a.to - 1, below_in a.from a.to (a.to - 1) (omega arith) (omega arith), λ t. omega (arith, below-high w.from w.to (a.to - 1) t))
    go (inr l) (inr m) = absurd (n (and_i (leb w.from a.from) (leb a.to w.to) (le→leb w.from a.from l) (le→leb a.to w.to m)))

span-in : (a w : Span) → T (span_within a w) → (k : ℕ) → T (below a.from a.to k) → T (below w.from w.to k)
span-in a w t k s =
    below_in w.from w.to k
    (omega (arith, leb→le w.from a.from (and_l (leb w.from a.from) (leb a.to w.to) t), below-low a.from a.to k s))
    (omega (arith, leb→le a.to w.to (and_r (leb w.from a.from) (leb a.to w.to) t), below-high a.from a.to k s))

full : (a : Span) → T (not (span_empty a)) → a.from < a.to
full a t = nleb→lt a.to a.from t

first-in : (a : Span) → a.from < a.to → T (below a.from a.to a.from)
first-in a h = below_in a.from a.to a.from (omega arith) h

empty-out : (a : Span) → T (span_empty a) → (k : ℕ) → T (below a.from a.to k) → ⊥
empty-out a t k s = omega (arith, leb→le a.to a.from t, below-low a.from a.to k s, below-high a.from a.to k s)

-- ---- two boxes of points

abbrev in_x : Region → GridPoint → Bool
in_x r p = below r.x.from r.x.to p.x

abbrev in_y : Region → GridPoint → Bool
in_y r p = below r.y.from r.y.to p.y

abbrev in_z : Region → GridPoint → Bool
in_z r p = below r.z.from r.z.to p.z

point-in : (r : Region) (p : GridPoint) → T (in_x r p) → T (in_y r p) → T (in_z r p) → T (is_cell (box_of r) p)
point-in r p x y z = and_i (in_x r p) (in_y r p && in_z r p) x (and_i (in_y r p) (in_z r p) y z)

in-x : (r : Region) (p : GridPoint) → T (is_cell (box_of r) p) → T (in_x r p)
in-x r p t = and_l (in_x r p) (in_y r p && in_z r p) t

in-y : (r : Region) (p : GridPoint) → T (is_cell (box_of r) p) → T (in_y r p)
in-y r p t = and_l (in_y r p) (in_z r p) (and_r (in_x r p) (in_y r p && in_z r p) t)

in-z : (r : Region) (p : GridPoint) → T (is_cell (box_of r) p) → T (in_z r p)
in-z r p t = and_r (in_y r p) (in_z r p) (and_r (in_x r p) (in_y r p && in_z r p) t)

pub regions-share : (a b : Region) → T (regions_meet a b) → Apart (box_of a) (box_of b) → ⊥
unfolding regions_meet
regions-share a b t n =
    let X = spans_meet a.x b.x in
    let Y = spans_meet a.y b.y in
    let Z = spans_meet a.z b.z in
    let x = spans-share a.x b.x (and_l X Y (and_l (X && Y) Z t)) in
    let y = spans-share a.y b.y (and_r X Y (and_l (X && Y) Z t)) in
    let z = spans-share a.z b.z (and_r (X && Y) Z t) in
    let p : GridPoint = record { x = x.0; y = y.0; z = z.0 } in
    n p (point-in a p x.1 y.1 z.1) (point-in b p x.2 y.2 z.2)

pub share-regions : (a b : Region) → T (not (regions_meet a b)) → Apart (box_of a) (box_of b)
unfolding regions_meet
share-regions a b n p s t =
    T_not (regions_meet a b) n
    (and_i (spans_meet a.x b.x && spans_meet a.y b.y) (spans_meet a.z b.z)
    (and_i (spans_meet a.x b.x) (spans_meet a.y b.y) (share-spans a.x b.x p.x (in-x a p s) (in-x b p t))
    (share-spans a.y b.y p.y (in-y a p s) (in-y b p t)))
    (share-spans a.z b.z p.z (in-z a p s) (in-z b p t)))

either : (a b : Bool) → T (a || b) → T a ⊎ T b
either true b t = inl tt
either false b t = inr t

-- the tests that a region lies inside another are made of: on each axis whether it is empty, and whether it lies within
module _ (a w : Region) where
  abbrev X : Bool
  X = span_empty a.x

  abbrev Y : Bool
  Y = span_empty a.y

  abbrev Z : Bool
  Z = span_empty a.z

  abbrev E : Bool
  E = (X || Y) || Z

  abbrev U : Bool
  U = span_within a.x w.x

  abbrev V' : Bool
  V' = span_within a.y w.y

  abbrev W : Bool
  W = span_within a.z w.z

  abbrev within : Bool
  within = (U && V') && W

  pub inside-within : T (region_inside a w) → Within (box_of a) (box_of w)
  unfolding region_inside
  inside-within t p s = go (either E (within) t)
    where
      empty : T X ⊎ T Y → ⊥
      empty (inl h) = empty-out a.x h p.x (in-x a p s)
      empty (inr h) = empty-out a.y h p.y (in-y a p s)

      none : T (X || Y) ⊎ T Z → ⊥
      none (inl h) = empty (either X Y h)
      none (inr h) = empty-out a.z h p.z (in-z a p s)

      go : T E ⊎ T within → T (is_cell (box_of w) p)
      go (inl h) = absurd (none (either (X || Y) Z h))
      go (inr h) =
          point-in w p (span-in a.x w.x (and_l U V' (and_l (U && V') W h)) p.x (in-x a p s))
          (span-in a.y w.y (and_r U V' (and_l (U && V') W h)) p.y (in-y a p s))
          (span-in a.z w.z (and_r (U && V') W h) p.z (in-z a p s))

  pub outside-out : T (not (region_inside a w)) → Within (box_of a) (box_of w) → ⊥
  unfolding region_inside
  outside-out n h =
      T_not within (nor-right E within n) (and_i (U && V') W (and_i U V' (by-axis U (λ m. at_x m)) (by-axis V' (λ m. at_y m))) (by-axis W (λ m. at-z m)))
    where
      fx : a.x.from < a.x.to
      fx = full a.x (nor-left X Y (nor-left (X || Y) Z (nor-left E within n)))

      fy : a.y.from < a.y.to
      fy = full a.y (nor-right X Y (nor-left (X || Y) Z (nor-left E within n)))

      fz : a.z.from < a.z.to
      fz = full a.z (nor-right (X || Y) Z (nor-left E within n))

      by-axis : (b : Bool) → ((T b → ⊥) → ⊥) → T b
      by-axis true f = tt
      by-axis false f = f (λ t. t)

      at_x : (T U → ⊥) → ⊥
      at_x m =
          let k = span-out a.x w.x fx m in
          let p : GridPoint = record { x = k.0; y = a.y.from; z = a.z.from } in
          k.2 (in-x w p (h p (point-in a p k.1 (first-in a.y fy) (first-in a.z fz))))

      at_y : (T V' → ⊥) → ⊥
      at_y m =
          let k = span-out a.y w.y fy m in
          let p : GridPoint = record { x = a.x.from; y = k.0; z = a.z.from } in
          k.2 (in-y w p (h p (point-in a p (first-in a.x fx) k.1 (first-in a.z fz))))

      at-z : (T W → ⊥) → ⊥
      at-z m =
          let k = span-out a.z w.z fz m in
          let p : GridPoint = record { x = a.x.from; y = a.y.from; z = k.0 } in
          k.2 (in-z w p (h p (point-in a p (first-in a.x fx) (first-in a.y fy) k.1)))

-- ---- two blocks, on every axis

abbrev meet : Axis → Block → Block → Bool
meet a b c = regions_meet (region_on a (owned_of b)) (region_on a (owned_of c))

abbrev inside : Axis → Block → Block → Bool
inside a b w = region_inside (region_on a (owned_of b)) (region_on a (owned_of w))

pub blocks-apart : (b c : Block) → T (not (owned_meet (owned_of b) (owned_of c))) → (a : Axis) → Apart (owned_box a b) (owned_box a c)
unfolding owned_meet
blocks-apart b c n axis_x = share-regions (owned_of b).x (owned_of c).x (nor-left (meet axis_x b c) (meet axis_y b c) (nor-left (meet axis_x b c || meet axis_y b c) (meet axis_z b c) n))
blocks-apart b c n axis_y =
    share-regions (owned_of b).y (owned_of c).y (nor-right (meet axis_x b c) (meet axis_y b c) (nor-left (meet axis_x b c || meet axis_y b c) (meet axis_z b c) n))
blocks-apart b c n axis_z = share-regions (owned_of b).z (owned_of c).z (nor-right (meet axis_x b c || meet axis_y b c) (meet axis_z b c) n)

pub apart-blocks : (b c : Block) → ((a : Axis) → Apart (owned_box a b) (owned_box a c)) → T (not (owned_meet (owned_of b) (owned_of c)))
unfolding owned_meet
apart-blocks b c h = nor-both (meet axis_x b c || meet axis_y b c) (meet axis_z b c) (nor-both (meet axis_x b c) (meet axis_y b c) (no axis_x) (no axis_y)) (no axis_z)
  where
    no : (a : Axis) → T (not (meet a b c))
    no a = not_T (meet a b c) (λ t. regions-share (region_on a (owned_of b)) (region_on a (owned_of c)) t (h a))

pub block_within : (b w : Block) → T (owned_inside (owned_of b) (owned_of w)) → (a : Axis) → Within (owned_box a b) (owned_box a w)
unfolding owned_inside
block_within b w t axis_x =
    inside-within (owned_of b).x (owned_of w).x (and_l (inside axis_x b w) (inside axis_y b w) (and_l (inside axis_x b w && inside axis_y b w) (inside axis_z b w) t))
block_within b w t axis_y =
    inside-within (owned_of b).y (owned_of w).y (and_r (inside axis_x b w) (inside axis_y b w) (and_l (inside axis_x b w && inside axis_y b w) (inside axis_z b w) t))
block_within b w t axis_z = inside-within (owned_of b).z (owned_of w).z (and_r (inside axis_x b w && inside axis_y b w) (inside axis_z b w) t)

pub within_block : (b w : Block) → ((a : Axis) → Within (owned_box a b) (owned_box a w)) → T (owned_inside (owned_of b) (owned_of w))
unfolding owned_inside
within_block b w h = and_i (inside axis_x b w && inside axis_y b w) (inside axis_z b w) (and_i (inside axis_x b w) (inside axis_y b w) (so axis_x) (so axis_y)) (so axis_z)
  where
    known : (c : Bool) → (T (not c) → ⊥) → T c
    known true f = tt
    known false f = f tt

    so : (a : Axis) → T (inside a b w)
    so a = known (inside a b w) (λ n. outside-out (region_on a (owned_of b)) (region_on a (owned_of w)) n (h a))
