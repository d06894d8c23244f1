-- A list whose numbers at some places are changed, each by its place: number by number, place by place, run after run, and twice. All by comparing
-- number with number. Assumes nothing.
use Rattle.std.proofs.Common.{◌++◌, ◌-◌, zero-le, drop, ◌≡◌, ℕ, ◌+◌, ◌<◌, ◌≤◌, Bool, cond, List, length, get_or, set, sym, ap, ◌∙◌, inl, inr, zero-add, arith, length-set, get_or-set_other, get_or-set_same, ext_get_or}
use lib.Ieee.{Float, nan}
use lib.ListN.{replicate}
use lib.Seq.{get_or-append_right}
use Rattle.std.proofs.lemmas.List.{get_or-drop, get_or-replicate, get_or_append_left, length-append, length-drop, length-replicate}
use lib.Ieee.Bits.{is_true}
use Rattle.lists.specs.Lists.{below}
use Rattle.lists.proofs.Lists.{length-placed, get_d-placed}
use Rattle.lists.proofs.Tests.{is_false, less-or-not, below-low, below-high, below_in}
use Rattle.levels.specs.Columns.{changed}

pub changed-length : (f : ℕ → Float → Float) (from to : ℕ) (l : List Float) → length (changed f from to l) ≡ length l
unfolding changed
changed-length f from to l = length-placed (λ j old. cond (below from to j) (f j old) old) 0 l

changed-at : (f : ℕ → Float → Float) (from to : ℕ) (l : List Float) (j : ℕ) → j < length l
    → get_or (changed f from to l) j nan ≡ cond (below from to j) (f j (get_or l j nan)) (get_or l j nan)
unfolding changed
changed-at f from to l j h =
    get_d-placed (λ j old. cond (below from to j) (f j old) old) 0 l j nan h
    ∙ ap (λ (n : ℕ). cond (below from to n) (f n (get_or l j nan)) (get_or l j nan)) (zero-add j)

module _ (f : ℕ → Float → Float) (from to : ℕ) (l : List Float) (j : ℕ) (h : j < length l) where
  pub changed-in : from ≤ j → j < to → get_or (changed f from to l) j nan ≡ f j (get_or l j nan)
  changed-in a b =
      changed-at f from to l j h
      ∙ ap (λ (t : Bool). cond t (f j (get_or l j nan)) (get_or l j nan)) (is_true (below from to j) (below_in from to j a b))

  pub changed-out : ((from ≤ j) → (j < to) → ⊥) → get_or (changed f from to l) j nan ≡ get_or l j nan
  changed-out n =
      changed-at f from to l j h
      ∙ ap (λ (t : Bool). cond t (f j (get_or l j nan)) (get_or l j nan)) (is_false (below from to j) (λ t. n (below-low from to j t) (below-high from to j t)))

-- two lists that are equal wherever a place is in the range and wherever it is not
by-range : (from to : ℕ) (l m : List Float) → length l ≡ length m
    → ((j : ℕ) → j < length l → from ≤ j → j < to → get_or l j nan ≡ get_or m j nan)
    → ((j : ℕ) → j < length l → ((from ≤ j) → (j < to) → ⊥) → get_or l j nan ≡ get_or m j nan) → l ≡ m
by-range from to l m e p q = ext_get_or nan l m e each
  where
    each : (j : ℕ) → j < length l → get_or l j nan ≡ get_or m j nan
    each j h =
        elim (less-or-not j from) [
          | inl a ↦ q j h (λ b _. omega arith)
          | inr a ↦ elim (less-or-not j to) [ inl b ↦ p j h a b | inr b ↦ q j h (λ _ c. omega arith) ]
        ]

-- no place
pub changed-none : (f : ℕ → Float → Float) (n : ℕ) (l : List Float) → changed f n n l ≡ l
changed-none f n l =
    by-range n n (changed f n n l) l (changed-length f n n l) (λ j h a b. absurd (omega arith))
    (λ j h o. changed-out f n n l j (omega (arith, changed-length f n n l)) o)

-- one place more
module _ (f : ℕ → Float → Float) (from i : ℕ) (l : List Float) (low : from ≤ i) (high : i < length l) where
  abbrev before : List Float
  before = changed f from i l

  old-here : get_or before i nan ≡ get_or l i nan
  old-here = changed-out f from i l i high (λ a b. omega arith)

  pub changed-more : set (changed f from i l) i (f i (get_or (changed f from i l) i nan)) ≡ changed f from (i + 1) l
  changed-more = by-range from (i + 1) new (changed f from (i + 1) l) (sizes ∙ sym (changed-length f from (i + 1) l)) inside outside
    where
      new : List Float
      new = set before i (f i (get_or before i nan))

      sizes : length new ≡ length l
      sizes = length-set before i (f i (get_or before i nan)) ∙ changed-length f from i l

      held : i < length before
      held = omega (arith, changed-length f from i l)

      inside : (j : ℕ) → j < length new → from ≤ j → j < i + 1 → get_or new j nan ≡ get_or (changed f from (i + 1) l) j nan
      inside j h a b =
          let within : j < length l = omega (arith, sizes) in
          elim (less-or-not j i) [
            | inl c ↦
                get_or-set_other before i j (f i (get_or before i nan)) nan (λ e. omega (arith, e)) ∙ changed-in f from i l j within a c
                ∙ sym (changed-in f from (i + 1) l j within a b)
            | inr c ↦
                let e : j ≡ i = omega arith in
                rw e (get_or-set_same before i (f i (get_or before i nan)) nan held ∙ ap (f i) old-here
                ∙ sym (changed-in f from (i + 1) l i high low (omega arith)))
          ]

      outside : (j : ℕ) → j < length new → ((from ≤ j) → (j < i + 1) → ⊥) → get_or new j nan ≡ get_or (changed f from (i + 1) l) j nan
      outside j h o =
          let within : j < length l = omega (arith, sizes) in
          get_or-set_other before i j (f i (get_or before i nan)) nan (λ e. o (omega (arith, e)) (omega (arith, e)))
          ∙ changed-out f from i l j within (λ a b. o a (omega arith))
          ∙ sym (changed-out f from (i + 1) l j within o)

-- one run after the other
pub changed-on : (f : ℕ → Float → Float) (from mid to : ℕ) (l : List Float) → from ≤ mid → mid ≤ to → changed f mid to (changed f from mid l) ≡ changed f from to l
changed-on f from mid to l a b = by-range from to both (changed f from to l) (sizes ∙ sym (changed-length f from to l)) inside outside
  where
    first : List Float
    first = changed f from mid l

    both : List Float
    both = changed f mid to first

    kept : length first ≡ length l
    kept = changed-length f from mid l

    sizes : length both ≡ length l
    sizes = changed-length f mid to first ∙ kept

    inside : (j : ℕ) → j < length both → from ≤ j → j < to → get_or both j nan ≡ get_or (changed f from to l) j nan
    inside j h c d =
        let within : j < length l = omega (arith, sizes) in
        let there : j < length first = omega (arith, kept) in
        elim (less-or-not j mid) [
          | inl e ↦
              changed-out f mid to first j there (λ x y. omega arith) ∙ changed-in f from mid l j within c e ∙ sym (changed-in f from to l j within c d)
          | inr e ↦
              changed-in f mid to first j there e d ∙ ap (f j) (changed-out f from mid l j within (λ x y. omega arith))
              ∙ sym (changed-in f from to l j within c d)
        ]

    outside : (j : ℕ) → j < length both → ((from ≤ j) → (j < to) → ⊥) → get_or both j nan ≡ get_or (changed f from to l) j nan
    outside j h o =
        let within : j < length l = omega (arith, sizes) in
        let there : j < length first = omega (arith, kept) in
        changed-out f mid to first j there (λ x y. o (omega arith) y) ∙ changed-out f from mid l j within (λ x y. o x (omega arith))
        ∙ sym (changed-out f from to l j within o)

-- the same changes
pub changed-same : (f g : ℕ → Float → Float) (from to : ℕ) (l : List Float) → ((j : ℕ) → from ≤ j → j < to → f j (get_or l j nan) ≡ g j (get_or l j nan))
    → changed f from to l ≡ changed g from to l
changed-same f g from to l same =
    by-range from to (changed f from to l) (changed g from to l) (changed-length f from to l ∙ sym (changed-length g from to l))
    (λ j h a b.
    let within : j < length l = omega (arith, changed-length f from to l) in
    changed-in f from to l j within a b ∙ same j a b ∙ sym (changed-in g from to l j within a b))
    (λ j h o.
    let within : j < length l = omega (arith, changed-length f from to l) in
    changed-out f from to l j within o ∙ sym (changed-out g from to l j within o))

-- two changes, one after the other, at the same places
pub changed-twice : (f g : ℕ → Float → Float) (from to : ℕ) (l : List Float) → changed g from to (changed f from to l) ≡ changed (λ j old. g j (f j old)) from to l
changed-twice f g from to l =
    by-range from to (changed g from to first) (changed both from to l) (sizes ∙ sym (changed-length both from to l))
    (λ j h a b.
    let within : j < length l = omega (arith, sizes) in
    changed-in g from to first j (omega (arith, kept)) a b ∙ ap (g j) (changed-in f from to l j within a b) ∙ sym (changed-in both from to l j within a b))
    (λ j h o.
    let within : j < length l = omega (arith, sizes) in
    changed-out g from to first j (omega (arith, kept)) o ∙ changed-out f from to l j within o ∙ sym (changed-out both from to l j within o))
  where
    first : List Float
    first = changed f from to l

    both : ℕ → Float → Float
    both j old = g j (f j old)

    kept : length first ≡ length l
    kept = changed-length f from to l

    sizes : length (changed g from to first) ≡ length l
    sizes = changed-length g from to first ∙ kept

-- no change
pub changed-still : (n : ℕ) (l : List Float) → changed (λ _ old. old) 0 n l ≡ l
changed-still n l =
    by-range 0 n (changed same 0 n l) l (changed-length same 0 n l)
    (λ j h a b. changed-in same 0 n l j (omega (arith, changed-length same 0 n l)) a b)
    (λ j h o. changed-out same 0 n l j (omega (arith, changed-length same 0 n l)) o)
  where
    same : ℕ → Float → Float
    same j old = old

-- one number at the first n places
pub changed-alike : (x : Float) (n : ℕ) (l : List Float) → n ≤ length l → replicate n x ++ drop n l ≡ changed (λ _ _. x) 0 n l
changed-alike x n l room = by-range 0 n new (changed f 0 n l) (sizes ∙ sym (changed-length f 0 n l)) inside outside
  where
    f : ℕ → Float → Float
    f _ _ = x

    new : List Float
    new = replicate n x ++ drop n l

    sizes : length new ≡ length l
    sizes = omega (arith, length-append (replicate n x) (drop n l), length-replicate n x, length-drop n l)

    inside : (j : ℕ) → j < length new → 0 ≤ j → j < n → get_or new j nan ≡ get_or (changed f 0 n l) j nan
    inside j h a b =
        get_or_append_left (replicate n x) (drop n l) nan j (omega (arith, length-replicate n x)) ∙ get_or-replicate n j x nan b
        ∙ sym (changed-in f 0 n l j (omega (arith, sizes)) a b)

    outside : (j : ℕ) → j < length new → ((0 ≤ j) → (j < n) → ⊥) → get_or new j nan ≡ get_or (changed f 0 n l) j nan
    outside j h o =
        elim (less-or-not j n) [
          | inl c ↦ absurd (o zero-le c)
          | inr c ↦
              let back : n + (j - length (replicate n x)) ≡ j = omega (arith, length-replicate n x) in
              get_or-append_right (replicate n x) (drop n l) j nan (omega (arith, length-replicate n x))
              ∙ get_or-drop n l (j - length (replicate n x)) nan ∙ ap (λ (i : ℕ). get_or l i nan) back
              ∙ sym (changed-out f 0 n l j (omega (arith, sizes)) o)
        ]
