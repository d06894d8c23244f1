-- The small general functions on lists that the rules are written with: a run of numbers, what a test keeps, how many pass it,
-- lists joined, a place in a list. Definitions only. Assumes nothing.
use Rattle.std.specs.Prelude.{ℕ, zero, suc, ◌+◌, ◌-◌, Bool, true, false, ◌&&◌, ◌||◌, cond, List, [], ◌∷◌, ◌++◌, map, leb, ltb, length, drop}

-- 1 for a test that passes, 0 for one that fails
abbrev pub one : Bool → ℕ
one true = 1
one false = 0

-- 0, 1, .. n - 1
unfoldable pub run : ℕ → List ℕ
run zero = []
run (suc n) = run n ++ (n ∷ [])

-- from, from + 1, .. to - 1: none where `to` is not above `from`
unfoldable pub up_to : ℕ → ℕ → List ℕ
up_to from to = map (λ k. from + k) (run (to - from))

-- the elements that pass the test, in their order
unfoldable pub keep : {A : Type 0} → (A → Bool) → List A → List A
keep f [] = []
keep f (x ∷ xs) = cond (f x) (x ∷ keep f xs) (keep f xs)

-- how many elements pass the test
unfoldable pub many : {A : Type 0} → (A → Bool) → List A → ℕ
many f [] = 0
many f (x ∷ xs) = one (f x) + many f xs

-- whether some element passes the test
unfoldable pub some : {A : Type 0} → (A → Bool) → List A → Bool
some f [] = false
some f (x ∷ xs) = f x || some f xs

-- what f gives for each element, one list after the other
unfoldable pub joined : {A B : Type 0} → (A → List B) → List A → List B
joined f [] = []
joined f (x ∷ xs) = f x ++ joined f xs

-- how many elements stand before the first that passes the test: all of them where none does
unfoldable pub place : {A : Type 0} → (A → Bool) → List A → ℕ
place f [] = 0
place f (x ∷ xs) = cond (f x) 0 (suc (place f xs))

-- the list with f of its place and itself for each element; the first has the place n
unfoldable pub placed : {A : Type 0} → (ℕ → A → A) → ℕ → List A → List A
placed f n [] = []
placed f n (x ∷ xs) = f n x ∷ placed f (suc n) xs

-- the new numbers over the first of the old ones, the rest kept
abbrev pub over : {A : Type 0} → List A → List A → List A
over new old = new ++ drop (length new) old

-- from low up to high, high left out
abbrev pub below : ℕ → ℕ → ℕ → Bool
below low high n = leb low n && ltb n high
