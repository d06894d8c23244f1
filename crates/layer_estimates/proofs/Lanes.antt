-- Lists of 32 lanes side by side: the entries of the lane j stand at j, 32 + j, 64 + j and so on. What is stored into one lane stands there, and every
-- other lane keeps its entries. From the library's laws of one store. Assumes nothing.
use Prim.Native.Nat.{ℕ, ◌+◌, ◌*◌, ◌<◌}
use native.Mathlib.Omega.{arith}
use mathlib.Core.List.{List, [], ◌∷◌, map}
use mathlib.Core.Path.{◌≡◌, refl, ap, ap₂, ◌∙◌}
use borrow.Author.Count.{below_more}
use lib.ListN.{length, get_or, set, length-set}
use lib.Seq.{get_or-set_same, get_or-set_other}
use lib.Ieee.{Float, nan}
use Rattle.rules.specs.Cell.{Vector}
use Rattle.layer_estimates.specs.Estimates.{eight_at, vector_at, eight_places, three_places, stored}

-- places of the lane j, one in each column from k on, within a list of this size
abbrev Lane : ℕ → ℕ → ℕ → List ℕ → Type 0
Lane size j k [] = Unit {0}
Lane size j k (p ∷ ps) = (p ≡ 32 * k + j) × (p < size) × Lane size j (k + 1) ps

module _ {A : Type 0} where
  -- what stands at places
  abbrev entries : A → List A → List ℕ → List A
  entries d l ps = map (λ (p : ℕ). get_or l p d) ps

  -- a place before the column k
  before : (size j k : ℕ) (l : List A) (ps : List ℕ) (vs : List A) (q : ℕ) (d : A) → Lane size j k ps → q < 32 * k + j → get_or (stored l ps vs) q d ≡ get_or l q d
  before size j k l [] vs q d h b = refl
  before size j k l (p ∷ ps) [] q d h b = refl
  before size j k l (p ∷ ps) (v ∷ vs) q d h b =
      before size j (k + 1) (set l p v) ps vs q d h.2 (omega arith) ∙ get_or-set_other l p q v d (omega arith)

  -- a place of another lane
  beside : (size j k : ℕ) (l : List A) (ps : List ℕ) (vs : List A) (i m q : ℕ) (d : A) → Lane size j k ps → q ≡ 32 * m + i → i < 32 → j < 32 → (i ≡ j → ⊥)
      → get_or (stored l ps vs) q d ≡ get_or l q d
  beside size j k l [] vs i m q d h e hi hj apart = refl
  beside size j k l (p ∷ ps) [] i m q d h e hi hj apart = refl
  beside size j k l (p ∷ ps) (v ∷ vs) i m q d h e hi hj apart =
      beside size j (k + 1) (set l p v) ps vs i m q d h.2 e hi hj apart ∙ get_or-set_other l p q v d (λ same. apart (omega arith))

  -- all places of the lane, and of another
  here : (size j k : ℕ) (l : List A) (ps : List ℕ) (vs : List A) (d : A) → Lane size j k ps → length l ≡ size → length vs ≡ length ps → entries d (stored l ps vs) ps ≡ vs
  here size j k l [] [] d h s e = refl
  here size j k l [] (v ∷ vs) d h s e = absurd (omega arith)
  here size j k l (p ∷ ps) [] d h s e = absurd (omega arith)
  here size j k l (p ∷ ps) (v ∷ vs) d h s e =
      ap₂ {A = A} ◌∷◌ (before size j (k + 1) (set l p v) ps vs p d h.2 (omega arith) ∙ get_or-set_same l p v d (omega arith))
      (here size j (k + 1) (set l p v) ps vs d h.2 (length-set l p v ∙ s) (omega arith))

  there : (size j k : ℕ) (l : List A) (ps : List ℕ) (vs : List A) (size' i m : ℕ) (qs : List ℕ) (d : A) → Lane size j k ps → Lane size' i m qs → i < 32 → j < 32
      → (i ≡ j → ⊥) → entries d (stored l ps vs) qs ≡ entries d l qs
  there size j k l ps vs size' i m [] d h g hi hj apart = refl
  there size j k l ps vs size' i m (q ∷ qs) d h g hi hj apart =
      ap₂ {A = A} ◌∷◌ (beside size j k l ps vs i m q d h g.0 hi hj apart) (there size j k l ps vs size' i (m + 1) qs d h g.2 hi hj apart)

-- what is known of the lanes before j, and what is stored into the lane j, is known of the lanes before j + 1
module _ {A : Type 0} (d : A) (places : ℕ → List ℕ) (size : ℕ) (lane : (j : ℕ) → j < 32 → Lane size j 0 (places j)) where
  lane-more : (wanted : ℕ → List A) (l : List A) (j : ℕ) (vs : List A) → length l ≡ size → j < 32 → length vs ≡ length (places j)
      → ((i : ℕ) → i < j → entries d l (places i) ≡ wanted i) → vs ≡ wanted j → (i : ℕ) → i < j + 1 → entries d (stored l (places j) vs) (places i) ≡ wanted i
  lane-more wanted l j vs s h e known new =
      below_more (λ (i : ℕ). entries d (stored l (places j) vs) (places i) ≡ wanted i) j
      (λ i k. there size j 0 l (places j) vs size i 0 (places i) d (lane j h) (lane i (omega arith)) (omega arith) h (omega arith) ∙ known i k)
      (here size j 0 l (places j) vs d (lane j h) s e ∙ new)

-- ---- eight, three and one in a lane

abbrev flat : Vector → List Float
flat v = v.x ∷ v.y ∷ v.z ∷ []

abbrev vector_of : List Float → Vector
vector_of l = record { x = get_or l 0 nan; y = get_or l 1 nan; z = get_or l 2 nan }

pub eight-more : (wanted : ℕ → List Float) (l : List Float) (j : ℕ) (vs : List Float) → length l ≡ 256 → j < 32 → length vs ≡ 8
    → ((i : ℕ) → i < j → eight_at l i ≡ wanted i) → vs ≡ wanted j → (i : ℕ) → i < j + 1 → eight_at (stored l (eight_places j) vs) i ≡ wanted i
eight-more = lane-more nan eight_places 256 (λ j h. omega arith)

pub vector-more : (wanted : ℕ → Vector) (l : List Float) (j : ℕ) (v : Vector) → length l ≡ 96 → j < 32
    → ((i : ℕ) → i < j → vector_at l i ≡ wanted i) → v ≡ wanted j → (i : ℕ) → i < j + 1 → vector_at (stored l (three_places j) (v.x ∷ v.y ∷ v.z ∷ [])) i ≡ wanted i
vector-more wanted l j v s h known new i k =
    ap vector_of (lane-more nan three_places 96 (λ j h. omega arith) (λ i. flat (wanted i)) l j (flat v) s h refl (λ i k. ap flat (known i k)) (ap flat new) i k)

pub number_more : (wanted : ℕ → ℕ) (l : List ℕ) (j v : ℕ) → length l ≡ 32 → j < 32
    → ((i : ℕ) → i < j → get_or l i 0 ≡ wanted i) → v ≡ wanted j → (i : ℕ) → i < j + 1 → get_or (set l j v) i 0 ≡ wanted i
number_more wanted l j v s h known new i k =
    below_more (λ (i : ℕ). get_or (set l j v) i 0 ≡ wanted i) j (λ i k. get_or-set_other l j i v 0 (omega arith) ∙ known i k)
    (get_or-set_same l j v 0 (omega arith) ∙ new) i k
