-- Up to the next end that is seen from a point nothing changes: each region has the points between exactly if it has the point itself. And what is seen are the
-- owners. Assumes nothing.
use Prim.Native.Nat.{ℕ, zero, suc, ◌≤◌, ◌<◌}
use native.Mathlib.Omega.{arith}
use mathlib.Core.Bool.{Bool, true, false, ◌&&◌, cond}
use mathlib.Core.List.{List, [], ◌∷◌, ◌++◌, append-nil}
use mathlib.Core.Logic.{◌⊎◌, inl, inr}
use mathlib.Core.Path.{◌≡◌, refl, sym, ap, subst, ◌∙◌}
use borrow.Author.Tests.{ltb-true, ltb-false}
use lib.Dec.{ltb}
use lib.ListN.{length}
use Rattle.lists.specs.Lists.{one, up_to, keep}
use Rattle.lists.proofs.Tests.{same_test, less-or-not, below-low, below-high, below_in}
use Rattle.lists.proofs.Lists.{keep_same, keep_append}
use Rattle.lists.proofs.Runs.{up_to-last, up_to-none, up_to-each}
use Rattle.rules.specs.Grid.{GridPoint}
use Rattle.plan.specs.declared.region.Span.{Span}
use Rattle.plan.specs.Triples.{Region}
use Rattle.witness.specs.declared.look.Seen.{Seen}
use Rattle.std.specs.Prelude.{slice_get, Some}
use Rattle.std.specs.Option.{option_or, option_and}
use Rattle.witness.specs.Steps.{far, Place, placed, inside, holds_at, next_of, nearer_of, nearest, first_look, counted, passed, looked_of, look_to, owners_at, RightAt}
use Rattle.witness.proofs.Tested.{looked-next}

-- ---- one span

same_span : (s : Span) (k j : ℕ) → k ≤ j → j < next_of s k → holds_at s j ≡ holds_at s k
unfolding next_of
same_span s k j h l = go (ltb k s.from) refl (ltb k s.to) refl l
  where
    go : (a : Bool) → ltb k s.from ≡ a → (b : Bool) → ltb k s.to ≡ b → j < cond a s.from (cond b s.to far) → holds_at s j ≡ holds_at s k
    go true e b f l =
        same_test (holds_at s j) (holds_at s k) (λ t. absurd (omega (arith, below-low s.from s.to j t)))
        (λ t. absurd (omega (arith, below-low s.from s.to k t, ltb-true k s.from e)))
    go false e true f l =
        same_test (holds_at s j) (holds_at s k) (λ t. below_in s.from s.to k (ltb-false k s.from e) (ltb-true k s.to f))
        (λ t. below_in s.from s.to j (omega (arith, ltb-false k s.from e)) l)
    go false e false f l =
        same_test (holds_at s j) (holds_at s k) (λ t. absurd (omega (arith, below-high s.from s.to j t, ltb-false k s.to f)))
        (λ t. absurd (omega (arith, below-high s.from s.to k t, ltb-false k s.to f)))

next_past : (s : Span) (k : ℕ) → k < far → k < next_of s k
unfolding next_of
next_past s k h = go (ltb k s.from) refl (ltb k s.to) refl
  where
    go : (a : Bool) → ltb k s.from ≡ a → (b : Bool) → ltb k s.to ≡ b → k < cond a s.from (cond b s.to far)
    go true e b f = ltb-true k s.from e
    go false e true f = ltb-true k s.to f
    go false e false f = h

module _ (s : Span) (k n : ℕ) where
  nearer-less : (c : Bool) → nearer_of c s k n ≤ n
  unfolding nearer_of
  nearer-less true = go (ltb (next_of s k) n) refl
    where
      go : (t : Bool) → ltb (next_of s k) n ≡ t → cond t (next_of s k) n ≤ n
      go true e = omega (arith, ltb-true (next_of s k) n e)
      go false e = omega arith
  nearer-less false = omega arith

  nearer-next : nearer_of true s k n ≤ next_of s k
  unfolding nearer_of
  nearer-next = go (ltb (next_of s k) n) refl
    where
      go : (t : Bool) → ltb (next_of s k) n ≡ t → cond t (next_of s k) n ≤ next_of s k
      go true e = omega arith
      go false e = ltb-false (next_of s k) n e

  nearer-past : (c : Bool) → k < far → k < n → k < nearer_of c s k n
  unfolding nearer_of
  nearer-past true f h = go (ltb (next_of s k) n)
    where
      go : (t : Bool) → k < cond t (next_of s k) n
      go true = next_past s k f
      go false = h
  nearer-past false f h = h

  nearer-same : (c : Bool) (j : ℕ) → k ≤ j → j < nearer_of c s k n → (holds_at s j && c) ≡ (holds_at s k && c)
  nearer-same true j h l = ap (λ (t : Bool). t && true) (same_span s k j h (omega (arith, nearer-next)))
  nearer-same false j h l = neither (holds_at s j) (holds_at s k)
    where
      neither : (a b : Bool) → (a && false) ≡ (b && false)
      neither true true = refl
      neither true false = refl
      neither false true = refl
      neither false false = refl

-- ---- one region

abbrev pub at : ℕ → ℕ → ℕ → GridPoint
at x y z = record { x = x; y = y; z = z }

module _ (r : Region) (p n : Place) where
  pub still-x : (j : ℕ) → p.x ≤ j → j < (nearest r p n).x → inside r (at j p.y p.z) ≡ inside r (placed p)
  unfolding inside nearest
  still-x j h l = nearer-same r.x p.x n.x (holds_at r.y p.y && holds_at r.z p.z) j h l

  pub still-y : (x j : ℕ) → p.y ≤ j → j < (nearest r p n).y → inside r (at x j p.z) ≡ inside r (at x p.y p.z)
  unfolding inside nearest
  still-y x j h l = ap (λ (t : Bool). holds_at r.x x && t) (nearer-same r.y p.y n.y (holds_at r.z p.z) j h l)

  pub still-z : (x y j : ℕ) → p.z ≤ j → j < (nearest r p n).z → inside r (at x y j) ≡ inside r (at x y p.z)
  unfolding inside nearest
  still-z x y j h l =
      ap (λ (t : Bool). holds_at r.x x && (holds_at r.y y && t)) (same_span r.z p.z j h (omega (arith, l, nearer-next r.z p.z n.z)))

  pub less-x : (nearest r p n).x ≤ n.x
  unfolding nearest
  less-x = nearer-less r.x p.x n.x (holds_at r.y p.y && holds_at r.z p.z)

  pub less-y : (nearest r p n).y ≤ n.y
  unfolding nearest
  less-y = nearer-less r.y p.y n.y (holds_at r.z p.z)

  pub less-z : (nearest r p n).z ≤ n.z
  unfolding nearest
  less-z = nearer-less r.z p.z n.z true

  pub past-x : p.x < far → p.x < n.x → p.x < (nearest r p n).x
  unfolding nearest
  past-x = nearer-past r.x p.x n.x (holds_at r.y p.y && holds_at r.z p.z)

  pub past-y : p.y < far → p.y < n.y → p.y < (nearest r p n).y
  unfolding nearest
  past-y = nearer-past r.y p.y n.y (holds_at r.z p.z)

  pub past-z : p.z < far → p.z < n.z → p.z < (nearest r p n).z
  unfolding nearest
  past-z = nearer-past r.z p.z n.z true

-- ---- all regions

-- along one axis, by the coordinate that it moves: from `base`, at k, to the points at j
module _ (rs : ℕ → Region) (w : Region) (p : Place) (along : Place → ℕ) (to : ℕ → GridPoint) (base : GridPoint) (k : ℕ)
    (still : (r : Region) (n : Place) (j : ℕ) → k ≤ j → j < along (nearest r p n) → inside r (to j) ≡ inside r base)
    (less : (r : Region) (n : Place) → along (nearest r p n) ≤ along n) where
  abbrev seen : ℕ → ℕ
  seen n = along (look_to rs (first_look w p) p n).next

  seen_more : (n : ℕ) → seen (suc n) ≡ along (nearest (rs n) p (look_to rs (first_look w p) p n).next)
  unfolding look_to
  seen_more n = ap along (looked-next (look_to rs (first_look w p) p n) n (rs n) p)

  whole-still : (n j : ℕ) → k ≤ j → j < seen n → inside w (to j) ≡ inside w base
  unfolding look_to
  whole-still zero j h l = still w _ j h l
  whole-still (suc n) j h l = whole-still n j h (omega (arith, seen_more n, less (rs n) (look_to rs (first_look w p) p n).next))

  each-still : (n j : ℕ) → k ≤ j → j < seen n → (i : ℕ) → i < n → inside (rs i) (to j) ≡ inside (rs i) base
  each-still zero j h l i m = absurd (omega arith)
  each-still (suc n) j h l i m =
      go (less-or-not i n) (each-still n j h (omega (arith, seen_more n, less (rs n) (look_to rs (first_look w p) p n).next)) i)
    where
      go : (i < n) ⊎ (n ≤ i) → (i < n → inside (rs i) (to j) ≡ inside (rs i) base) → inside (rs i) (to j) ≡ inside (rs i) base
      go (inl u) r = r u
      go (inr u) r =
          let e : n ≡ i = omega arith in
          subst (λ (o : ℕ). inside (rs o) (to j) ≡ inside (rs o) base) e (still (rs n) (look_to rs (first_look w p) p n).next j h (omega (arith, seen_more n)))

  pub right-still : (n j : ℕ) → k ≤ j → j < seen n → RightAt rs n w base → RightAt rs n w (to j)
  right-still n j h l r =
      ap length (keep_same (up_to-each 0 n (λ i _ m. each-still n j h l i m))) ∙ r ∙ ap one (sym (whole-still n j h l))

  pub seen-past : (n : ℕ) → k < along (first_look w p).next → ((r : Region) (m : Place) → k < along m → k < along (nearest r p m)) → k < seen n
  unfolding look_to
  seen-past zero h past = h
  seen-past (suc n) h past = omega (arith, seen_more n, past (rs n) (look_to rs (first_look w p) p n).next (seen-past n h past))

-- ---- the owners that are seen

abbrev pub Counts : Seen → List ℕ → Type 0
Counts l os = (l.first ≡ slice_get os 0) × (l.second ≡ slice_get os 1)

count-more : (l : Seen) (os : List ℕ) (i : ℕ) (n : Place) (t : Bool) → Counts l os → Counts (cond t (counted l i n) (passed l n)) (os ++ cond t (i ∷ []) [])
count-more l os i n false h = rw (append-nil os) h
count-more l [] i n true h = (λ j. option_or (h.0 j) (Some i), λ j. option_or (h.1 j) (option_and (h.0 j) (Some i)))
count-more l (x ∷ []) i n true h = (λ j. option_or (h.0 j) (Some i), λ j. option_or (h.1 j) (option_and (h.0 j) (Some i)))
count-more l (x ∷ y ∷ os) i n true h = (λ j. option_or (h.0 j) (Some i), λ j. option_or (h.1 j) (option_and (h.0 j) (Some i)))

module _ (rs : ℕ → Region) (w : Region) (p : Place) where
  abbrev owns : ℕ → Bool
  owns i = inside (rs i) (placed p)

  owners-more : (n : ℕ) → keep owns (up_to 0 (suc n)) ≡ keep owns (up_to 0 n) ++ cond (owns n) (n ∷ []) []
  unfolding keep
  owners-more n = ap (keep owns) (up_to-last 0 n (omega arith)) ∙ keep_append owns (up_to 0 n) (n ∷ [])

  pub seen-counts : (n : ℕ) → Counts (look_to rs (first_look w p) p n) (owners_at rs n w (placed p))
  unfolding look_to looked_of keep
  seen-counts zero = rw (up_to-none 0 0 (omega arith)) (refl, refl)
  seen-counts (suc n) =
      let l = look_to rs (first_look w p) p n in
      subst (Counts (look_to rs (first_look w p) p (suc n))) (sym (owners-more n))
      (count-more l (keep owns (up_to 0 n)) n (nearest (rs n) p l.next) (owns n) (seen-counts n))
