-- What one block more is seen as, and what the branches of the code come to. Assumes nothing.
use Rattle.std.proofs.Common.{ℕ, ◌+◌, Bool, true, false, cond, ◌≡◌, refl, ◌∙◌, add-one}
use Rattle.plan.specs.Triples.{Region}
use Rattle.witness.specs.declared.look.Seen.{Seen}
use Rattle.witness.specs.Steps.{Place, placed, inside, nearest, counted, passed, looked_of, look_to}

pub look_none : (rs : ℕ → Region) (l : Seen) (p : Place) → l ≡ look_to rs l p 0
unfolding look_to
look_none rs l p = refl

pub look-more : (rs : ℕ → Region) (l : Seen) (p : Place) (i : ℕ) {m m' : Seen} {r : Region}
    → m ≡ look_to rs l p i → r ≡ rs i → m' ≡ looked_of m i r p → m' ≡ look_to rs l p (i + 1)
unfolding look_to
look-more rs l p i e f g = rw add-one (g ∙ (λ j. looked_of (e j) i (f j) p))

pub looked-next : (l : Seen) (i : ℕ) (r : Region) (p : Place) → (looked_of l i r p).next ≡ nearest r p l.next
unfolding looked_of
looked-next l i r p = go (inside r (placed p))
  where
    go : (t : Bool) → (cond t (counted l i (nearest r p l.next)) (passed l (nearest r p l.next))).next ≡ nearest r p l.next
    go true = refl
    go false = refl
