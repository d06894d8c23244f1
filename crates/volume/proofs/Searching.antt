-- A search that goes to the end and keeps whether it has found one; one that goes part by part; and searches by tests that agree, or one of which says
-- more. Assumes nothing.
use Rattle.std.proofs.Common.{◌≡◌, Bool, true, false, ◌||◌, List, [], ◌∷◌, ◌++◌, length, refl, sym, ap, ◌∙◌, ap₂}
use Rattle.std.proofs.lemmas.List.{nil_from_length}
use Rattle.std.specs.List.{fold}
use mathlib.Core.Bool.{or_assoc}
use Rattle.lists.specs.Lists.{some}
use Rattle.lists.proofs.Either.{or_left, or_right, or-none}
use Rattle.lists.proofs.Some.{some-append}

or-nothing : (a : Bool) → a ≡ (a || false)
or-nothing true = refl
or-nothing false = refl

module _ {A : Type 0} (p : A → Bool) where
  found-on : (found : Bool) (l : List A) → fold (λ t x. t || p x) found l ≡ (found || some p l)
  unfolding some
  found-on found [] = or-nothing found
  found-on found (x ∷ l) = found-on (found || p x) l ∙ or_assoc found (p x) (some p l)

  pub some_by_fold : (l : List A) → fold (λ t x. t || p x) false l ≡ some p l
  some_by_fold l = found-on false l

  -- a part and the rest of the list
  pub some_in_part : (all part rest : List A) → all ≡ part ++ rest → true ≡ some p part → true ≡ some p all
  some_in_part all part rest e h = ap (λ (b : Bool). b || some p rest) h ∙ sym (some-append p part rest) ∙ ap (some p) (sym e)

  pub some_after : (all part rest : List A) → all ≡ part ++ rest → false ≡ some p part → some p rest ≡ some p all
  some_after all part rest e h = ap (λ (b : Bool). b || some p rest) h ∙ sym (some-append p part rest) ∙ ap (some p) (sym e)

  pub none_left : (rest : List A) → length rest ≡ 0 → false ≡ some p rest
  unfolding some
  none_left rest e = sym (ap (some p) (nil_from_length rest e))

module _ {A : Type 0} (p q : A → Bool) where
  pub some_alike : ((x : A) → p x ≡ q x) → (l : List A) → some p l ≡ some q l
  unfolding some
  some_alike e [] = refl
  some_alike e (x ∷ l) = ap₂ ◌||◌ (e x) (some_alike e l)

  pub none_either : ((x : A) → p x ≡ false → q x ≡ false) → (l : List A) → some p l ≡ false → some q l ≡ false
  unfolding some
  none_either h [] e = refl
  none_either h (x ∷ l) e = or-none (q x) (some q l) (h x (or_left (p x) (some p l) e)) (none_either h l (or_right (p x) (some p l) e))
