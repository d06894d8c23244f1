-- The floats that the distances of a lent list mean (document 02, request 5): those of a part of a grid are that part of the grid's. From the law of a type of
-- distances alone, that the floats of a list are those of its numbers. Assumes nothing.
use Prim.Native.Nat.{ℕ, ◌-◌, ◌≤◌, ◌<◌, ◌^◌}
use native.Mathlib.Nat.{le_trans, le_of_eq}
use native.Mathlib.Omega.{arith}
use mathlib.Core.List.{List, map}
use mathlib.Core.Path.{◌≡◌, sym, ap, ◌∙◌}
use lib.ListN.{length, get_or, take, drop, length-map}
use Rattle.std.proofs.lemmas.List.{take-map, drop-map}
use Rattle.rules.proofs.Seen.{one_at}

-- a part of a list of this length, short enough that its bytes can be counted
pub record Range (from to size : ℕ) : Type 0 where
  pub ordered : from ≤ to
  pub within : to ≤ size
  pub few : to ≤ 1073741824

module _ {A B : Type 0} {floats : List A → List B} {value : A → B} (are : (l : List A) → floats l ≡ map value l) (l : List A) where
  -- as many as the numbers
  pub as-long : length (floats l) ≡ length l
  as-long = ap length (are l) ∙ length-map l value

  -- a list that is lent has fewer than 2^64 elements, and so many distances
  pub grid-counted : length l < 2 ^ 64 → length (floats l) < 2 ^ 64
  grid-counted h = omega (arith, as-long)

  -- what stands at a place of the list, as it is read, and its float
  pub float-at : {i : ℕ} (r : A) (d : B) → i < length (floats l) → r ≡ get_or l i r → value r ≡ get_or (floats l) i d
  float-at {i} r d h e = ap value e ∙ sym (one_at value l i d r (le_trans h (le_of_eq as-long))) ∙ ap (λ m. get_or m i d) (sym (are l))

  -- the part from a to e, as `&l[a..e]` lends it
  pub part-of-grid : (a e : ℕ) → floats (take (e - a) (drop a l)) ≡ take (e - a) (drop a (floats l))
  part-of-grid a e =
      are (take (e - a) (drop a l)) ∙ sym (take-map value (e - a) (drop a l)) ∙ ap (take (e - a)) (sym (drop-map value a l))
      ∙ ap (λ m. take (e - a) (drop a m)) (sym (are l))

  -- all that is left from e on, as `&l[e..]` lends it
  pub rest-of-grid : (e : ℕ) → floats (take (length l - e) (drop e l)) ≡ take (length (floats l) - e) (drop e (floats l))
  rest-of-grid e = part-of-grid e (length l) ∙ ap (λ (n : ℕ). take (n - e) (drop e (floats l))) (sym as-long)
