-- The way from point to point: before each of them every edge is right, and each lies nearer to the end; where the way ends, the edge is the first wrong one or
-- there is none. Assumes nothing.
use Prim.Native.Nat.{ℕ, ◌+◌, ◌-◌, ◌*◌, ◌≤◌, ◌<◌}
use native.Mathlib.Omega.{arith}
use mathlib.Core.Bool.{Bool, true, false, not, ◌&&◌, ◌||◌, cond}
use mathlib.Core.List.{List, [], ◌∷◌}
use mathlib.Core.Logic.{◌⊎◌, inl, inr}
use mathlib.Core.Path.{◌≡◌, refl, sym, ap, subst, ◌∙◌}
use borrow.Author.Tests.{ltb-true, ltb-false}
use lib.Dec.{T, ltb}
use lib.Ieee.Fits.{and_l, and_r}
use lib.ListN.{length}
use Rattle.lists.specs.Lists.{one}
use Rattle.lists.proofs.Tests.{is_false, less-or-not, below-high}
use Rattle.lists.proofs.Lists.{keep-none}
use Rattle.lists.proofs.Runs.{up_to-each}
use Rattle.rules.specs.Grid.{GridPoint}
use Rattle.plan.specs.Triples.{Region}
use Rattle.witness.specs.declared.look.Seen.{Seen}
use Rattle.std.specs.Prelude.{Option, Some, None, is_some, slice_get}
use Rattle.witness.specs.declared.axis.Axis.{Axis as Way}
use Rattle.witness.specs.Witness.{Earlier}
use Rattle.witness.specs.Steps.{far, Place, Near, placed, inside, holds_at, first_look, look_to, wrong_in, more, goes_on, moved_to, owners_at, RightAt, Searched}
use Rattle.witness.proofs.Still.{at, still-x, still-y, still-z, less-x, less-y, less-z, past-x, past-y, past-z, right-still, seen-past, seen-counts}

-- ---- far out there is nothing

abbrev pub Bounded : Region → Type 0
Bounded r = (r.x.to ≤ far) × (r.y.to ≤ far) × (r.z.to ≤ far)

abbrev Out : GridPoint → Type 0
Out q = (far ≤ q.x) ⊎ ((far ≤ q.y) ⊎ (far ≤ q.z))

out_of : (r : Region) (q : GridPoint) → Bounded r → Out q → inside r q ≡ false
unfolding inside
out_of r q b o = is_false (X && (Y && Z)) (no o)
  where
    X : Bool
    X = holds_at r.x q.x

    Y : Bool
    Y = holds_at r.y q.y

    Z : Bool
    Z = holds_at r.z q.z

    no : Out q → T (X && (Y && Z)) → ⊥
    no (inl h) t = omega (arith, below-high r.x.from r.x.to q.x (and_l X (Y && Z) t))
    no (inr (inl h)) t = omega (arith, below-high r.y.from r.y.to q.y (and_l Y Z (and_r X (Y && Z) t)))
    no (inr (inr h)) t = omega (arith, below-high r.z.from r.z.to q.z (and_r Y Z (and_r X (Y && Z) t)))

-- ---- what the first two owners say

-- an edge that the whole owns, or not, by its owners: of one or none no second is seen
abbrev wrong_by : Bool → Option ℕ → Option ℕ → Bool
wrong_by i first second = cond i (not (is_some first) || is_some second) (is_some first)

right-by : (i : Bool) (os : List ℕ) → T (not (wrong_by i (slice_get os 0) (slice_get os 1))) → length os ≡ one i
right-by true [] t = absurd t
right-by true (x ∷ []) t = refl
right-by true (x ∷ y ∷ os) t = absurd t
right-by false [] t = refl
right-by false (x ∷ os) t = absurd t

by-right : (i : Bool) (os : List ℕ) → T (wrong_by i (slice_get os 0) (slice_get os 1)) → length os ≡ one i → ⊥
by-right true [] t e = omega (arith, e)
by-right true (x ∷ []) t e = t
by-right true (x ∷ y ∷ os) t e = omega (arith, e)
by-right false [] t e = t
by-right false (x ∷ os) t e = omega (arith, e)

-- ---- the measure

abbrev pub left : Place → ℕ
left p = (far - p.z) * 1125899906842624 + (far - p.y) * 33554432 + (far - p.x)

falls : (n p : Place) → Near p → p.x < n.x → p.y < n.y → p.z < n.z → T (more n) → Near (moved_to n p) × (left (moved_to n p) < left p)
unfolding moved_to
falls n p h a b c t = go (ltb n.x far) refl (ltb n.y far) refl (ltb n.z far) refl t
  where
    go : (i : Bool) → ltb n.x far ≡ i → (j : Bool) → ltb n.y far ≡ j → (k : Bool) → ltb n.z far ≡ k → T (i || (j || k))
        → Near (cond i (record { x = n.x; y = p.y; z = p.z }) (cond j (record { x = 0; y = n.y; z = p.z }) (record { x = 0; y = 0; z = n.z })))
        × (left (cond i (record { x = n.x; y = p.y; z = p.z }) (cond j (record { x = 0; y = n.y; z = p.z }) (record { x = 0; y = 0; z = n.z }))) < left p)
    go true e j f k g t = let l : n.x < far = ltb-true n.x far e in ((l, h.1, h.2), omega arith)
    go false e true f k g t = let l : n.y < far = ltb-true n.y far f in ((omega arith, l, h.2), omega arith)
    go false e false f true g t = let l : n.z < far = ltb-true n.z far g in ((omega arith, omega arith, l), omega arith)
    go false e false f false g t = absurd t

-- ---- n regions and the whole's

-- every edge before a point is right
abbrev pub BeforeRight : (ℕ → Region) → ℕ → Region → Place → Type 0
BeforeRight rs n w p = (q : GridPoint) → Earlier q (placed p) → RightAt rs n w q

pub start_right : (rs : ℕ → Region) (n : ℕ) (w : Region) → BeforeRight rs n w (record { x = 0; y = 0; z = 0 })
start_right rs n w q (inl h) = absurd (omega arith)
start_right rs n w q (inr (ez, inl h)) = absurd (omega arith)
start_right rs n w q (inr (ez, inr (ey, h))) = absurd (omega arith)

module _ (rs : ℕ → Region) (n : ℕ) (w : Region) (bounds : (i : ℕ) → i < n → Bounded (rs i)) (bound : Bounded w) where
  abbrev Right : GridPoint → Type 0
  Right q = RightAt rs n w q

  out : (q : GridPoint) → Out q → Right q
  out q o = ap length (keep-none (up_to-each 0 n (λ i _ m. out_of (rs i) q (bounds i m) o))) ∙ ap one (sym (out_of w q bound o))

  abbrev seen : Place → Seen
  seen p = look_to rs (first_look w p) p n

  -- what is seen says whether the edge is right
  seen-wrong : (p : Place) → wrong_in (seen p) w p ≡ wrong_by (inside w (placed p)) (slice_get (owners_at rs n w (placed p)) 0) (slice_get (owners_at rs n w (placed p)) 1)
  unfolding wrong_in
  seen-wrong p = λ i. wrong_by (inside w (placed p)) ((seen-counts rs w p n).0 i) ((seen-counts rs w p n).1 i)

  not-wrong : (p : Place) → T (not (wrong_in (seen p) w p)) → Right (placed p)
  not-wrong p t = right-by (inside w (placed p)) (owners_at rs n w (placed p)) (subst (λ (b : Bool). T (not b)) (seen-wrong p) t)

  is-wrong : (p : Place) → T (wrong_in (seen p) w p) → Right (placed p) → ⊥
  is-wrong p t = by-right (inside w (placed p)) (owners_at rs n w (placed p)) (subst T (seen-wrong p) t)

  module _ (p : Place) (before : BeforeRight rs n w p) (here : Right (placed p)) where
    abbrev N : Place
    N = (seen p).next

    along-row : (x : ℕ) → p.x ≤ x → x < N.x → Right (at x p.y p.z)
    along-row x h l =
        right-still rs w p (λ (m : Place). m.x) (λ j. at j p.y p.z) (placed p) p.x (λ r m j. still-x r p m j) (λ r m. less-x r p m) n x h l here

    row : far ≤ N.x → (x : ℕ) → Right (at x p.y p.z)
    row f x = go (less-or-not x p.x) (less-or-not x far)
      where
        go : (x < p.x) ⊎ (p.x ≤ x) → (x < far) ⊎ (far ≤ x) → Right (at x p.y p.z)
        go (inl h) o = before (at x p.y p.z) (inr (refl, inr (refl, h)))
        go (inr h) (inl o) = along-row x h (omega arith)
        go (inr h) (inr o) = out (at x p.y p.z) (inl o)

    below_row : far ≤ N.x → (x y : ℕ) → p.y ≤ y → y < N.y → Right (at x y p.z)
    below_row f x y h l =
        right-still rs w p (λ (m : Place). m.y) (λ j. at x j p.z) (at x p.y p.z) p.y (λ r m j. still-y r p m x j) (λ r m. less-y r p m) n y h l (row f x)

    layer : far ≤ N.x → far ≤ N.y → (x y : ℕ) → Right (at x y p.z)
    layer f g x y = go (less-or-not y p.y) (less-or-not y far)
      where
        go : (y < p.y) ⊎ (p.y ≤ y) → (y < far) ⊎ (far ≤ y) → Right (at x y p.z)
        go (inl h) o = before (at x y p.z) (inr (refl, inl h))
        go (inr h) (inl o) = below_row f x y h (omega arith)
        go (inr h) (inr o) = out (at x y p.z) (inr (inl o))

    above-layer : far ≤ N.x → far ≤ N.y → (x y z : ℕ) → p.z ≤ z → z < N.z → Right (at x y z)
    above-layer f g x y z h l =
        right-still rs w p (λ (m : Place). m.z) (λ j. at x y j) (at x y p.z) p.z (λ r m j. still-z r p m x y j) (λ r m. less-z r p m) n z h l (layer f g x y)

    all_right : far ≤ N.x → far ≤ N.y → far ≤ N.z → (q : GridPoint) → Right q
    all_right f g e q = go (less-or-not q.z p.z) (less-or-not q.z far)
      where
        go : (q.z < p.z) ⊎ (p.z ≤ q.z) → (q.z < far) ⊎ (far ≤ q.z) → Right q
        go (inl h) o = before q (inl h)
        go (inr h) (inl o) = above-layer f g q.x q.y q.z h (omega arith)
        go (inr h) (inr o) = out q (inr (inr o))

    to-moved : BeforeRight rs n w (moved_to N p)
    unfolding moved_to
    to-moved q = go (ltb N.x far) refl (ltb N.y far) refl
      where
        in_row : q.z ≡ p.z → q.y ≡ p.y → Right (at q.x p.y p.z) → Right q
        in_row ez ey r = subst (λ (y : ℕ). Right (at q.x y q.z)) (sym ey) (subst (λ (z : ℕ). Right (at q.x p.y z)) (sym ez) r)

        in-layer : q.z ≡ p.z → Right (at q.x q.y p.z) → Right q
        in-layer ez r = subst (λ (z : ℕ). Right (at q.x q.y z)) (sym ez) r

        x-on : q.z ≡ p.z → q.y ≡ p.y → q.x < N.x → (q.x < p.x) ⊎ (p.x ≤ q.x) → Right q
        x-on ez ey l (inl h) = before q (inr (ez, inr (ey, h)))
        x-on ez ey l (inr h) = in_row ez ey (along-row q.x h l)

        y-on : far ≤ N.x → q.z ≡ p.z → q.y < N.y → (q.y < p.y) ⊎ (p.y ≤ q.y) → Right q
        y-on f ez l (inl h) = before q (inr (ez, inl h))
        y-on f ez l (inr h) = in-layer ez (below_row f q.x q.y h l)

        z-on : far ≤ N.x → far ≤ N.y → q.z < N.z → (q.z < p.z) ⊎ (p.z ≤ q.z) → Right q
        z-on f g l (inl h) = before q (inl h)
        z-on f g l (inr h) = above-layer f g q.x q.y q.z h l

        go : (a : Bool) → ltb N.x far ≡ a → (b : Bool) → ltb N.y far ≡ b
            → Earlier q (placed (cond a (record { x = N.x; y = p.y; z = p.z }) (cond b (record { x = 0; y = N.y; z = p.z }) (record { x = 0; y = 0; z = N.z }))))
            → Right q
        go true e b f (inl h) = before q (inl h)
        go true e b f (inr (ez, inl h)) = before q (inr (ez, inl h))
        go true e b f (inr (ez, inr (ey, h))) = x-on ez ey h (less-or-not q.x p.x)
        go false e true f (inl h) = before q (inl h)
        go false e true f (inr (ez, inl h)) = y-on (ltb-false N.x far e) ez h (less-or-not q.y p.y)
        go false e true f (inr (ez, inr (ey, h))) = absurd (omega arith)
        go false e false f (inl h) = z-on (ltb-false N.x far e) (ltb-false N.y far f) h (less-or-not q.z p.z)
        go false e false f (inr (ez, inl h)) = absurd (omega arith)
        go false e false f (inr (ez, inr (ey, h))) = absurd (omega arith)

  -- ---- one step, and the end

  abbrev after : Place → Place
  after p = moved_to (seen p).next p

  stepped : (p : Place) → Near p → BeforeRight rs n w p → T (goes_on (seen p) w p) → Near (after p) × BeforeRight rs n w (after p) × (left (after p) < left p)
  unfolding goes_on
  stepped p h b t =
      let right = not-wrong p (and_l (not (wrong_in (seen p) w p)) (more (seen p).next) t) in
      let m = falls (seen p).next p h px py pz (and_r (not (wrong_in (seen p) w p)) (more (seen p).next) t) in
      (m.0, to-moved p b right, m.1)
    where
      px : p.x < (seen p).next.x
      px =
          seen-past rs w p (λ (m : Place). m.x) (λ j. at j p.y p.z) (placed p) p.x (λ r m j. still-x r p m j) (λ r m. less-x r p m) n
          (past-x w p _ h.0 h.0) (λ r m l. past-x r p m h.0 l)

      py : p.y < (seen p).next.y
      py =
          seen-past rs w p (λ (m : Place). m.y) (λ j. at 0 j p.z) (at 0 p.y p.z) p.y (λ r m j. still-y r p m 0 j) (λ r m. less-y r p m) n
          (past-y w p _ h.1 h.1) (λ r m l. past-y r p m h.1 l)

      pz : p.z < (seen p).next.z
      pz =
          seen-past rs w p (λ (m : Place). m.z) (λ j. at 0 0 j) (at 0 0 p.z) p.z (λ r m j. still-z r p m 0 0 j) (λ r m. less-z r p m) n
          (past-z w p _ h.2 h.2) (λ r m l. past-z r p m h.2 l)

  pub step : (p p' : Place) (l : Seen) → l ≡ seen p → p' ≡ moved_to l.next p → goes_on l w p ≡ true → Near p → BeforeRight rs n w p
      → Near p' × BeforeRight rs n w p' × (left p' < left p)
  step p p' l e f t h b =
      subst (λ (q : Place). Near q × BeforeRight rs n w q × (left q < left p)) (sym (f ∙ ap (λ (m : Seen). moved_to m.next p) e))
      (stepped p h b (subst T (sym (sym (ap (λ (m : Seen). goes_on m w p) e) ∙ t)) tt))

  module _ (p : Place) (before : BeforeRight rs n w p) (near : Near p) (way : Way) where
    no_more : (a b : Bool) → a ≡ false → (not a && b) ≡ false → b ≡ false
    no_more true b u g = absurd (subst T u tt)
    no_more false b u g = g

    none-left : wrong_in (seen p) w p ≡ false → goes_on (seen p) w p ≡ false → (q : GridPoint) → Right q
    unfolding goes_on
    none-left u stops = go (ltb (seen p).next.x far) refl (ltb (seen p).next.y far) refl (ltb (seen p).next.z far) refl
        (no_more (wrong_in (seen p) w p) (more (seen p).next) u stops)
      where
        go : (i : Bool) → ltb (seen p).next.x far ≡ i → (j : Bool) → ltb (seen p).next.y far ≡ j → (k : Bool) → ltb (seen p).next.z far ≡ k
            → (i || (j || k)) ≡ false → (q : GridPoint) → Right q
        go true ei j ej k ek g = absurd (subst T g tt)
        go false ei true ej k ek g = absurd (subst T g tt)
        go false ei false ej true ek g = absurd (subst T g tt)
        go false ei false ej false ek g =
            all_right p before (not-wrong p (subst (λ (c : Bool). T (not c)) (sym u) tt)) (ltb-false (seen p).next.x far ei) (ltb-false (seen p).next.y far ej)
            (ltb-false (seen p).next.z far ek)

    stopped : (t : Bool) → wrong_in (seen p) w p ≡ t → goes_on (seen p) w p ≡ false
        → Searched rs n w way (cond t (Some (record { axis = way; at = p; first = (seen p).first; second = (seen p).second })) None)
    stopped true u stops = (
      refl,
      record {
        near = near;
        wrong = is-wrong p (subst T (sym u) tt);
        before = before;
        first = (seen-counts rs w p n).0;
        second = (seen-counts rs w p n).1;
      },
    )
    stopped false u stops = none-left u stops

    pub ended : (l : Seen) (t : Bool) → l ≡ seen p → wrong_in l w p ≡ t → goes_on l w p ≡ false
        → Searched rs n w way (cond t (Some (record { axis = way; at = p; first = l.first; second = l.second })) None)
    ended l t e u stops =
        subst (λ (m : Seen). Searched rs n w way (cond t (Some (record { axis = way; at = p; first = m.first; second = m.second })) None)) (sym e)
        (stopped t (sym (ap (λ (m : Seen). wrong_in m w p) e) ∙ u) (sym (ap (λ (m : Seen). goes_on m w p) e) ∙ stops))
