-- A surface cell has 3 to 12 crossed edges, never 10 or 11, and as many points are averaged. From the definitions of Cell, by one computed test over
-- the 256 rows of eight signs. Cases has a grid whose cells show each number that is left. Assumes nothing.
use Prim.Native.Nat.{ℕ, zero, suc, ◌≤◌}
use mathlib.Core.Bool.{Bool, true, false, not, ◌&&◌, ◌||◌}
use mathlib.Core.List.{List, [], ◌∷◌, map}
use mathlib.Core.Logic.{◌⊎◌, inl, inr}
use mathlib.Core.Path.{◌≡◌, sym, ◌∙◌}
use native.Mathlib.Omega.{arith}
use native.Mathlib.Nat.{suc_inj, suc-ne-zero}
use lib.Dec.{T, leb, eqb, leb→le, eqb→eq}
use lib.ListN.{length, get_or, length-map, get_or-map}
use lib.Ieee.{Float, nan, unlike, lt}
use lib.Ieee.Fits.{and_l, and_r}
use Rattle.lists.specs.Lists.{keep, many}
use Rattle.rules.specs.Cell.{CubeEdge, cube_edges, negative, negatives, surface, crosses, crossings, crossing_point, crossing_points}
use Rattle.lists.proofs.Lists.{length-keep, many-map}

pub crossings-points : (d : List Float) → crossings d ≡ length (crossing_points d)
unfolding crossings crossing_points
crossings-points d = sym (length-map (keep (crosses d) cube_edges) (crossing_point d) ∙ length-keep (crosses d) cube_edges)

-- ---- the signs alone decide

inside : List Bool → ℕ
inside s = many (λ (b : Bool). b) s

turns : List Bool → ℕ
turns s = many (λ (e : CubeEdge). unlike (get_or s e.a false) (get_or s e.b false)) cube_edges

inside_is : (d : List Float) → inside (map negative d) ≡ negatives d
unfolding inside
inside_is d = many-map (λ (b : Bool). b) negative d

sign_at : (d : List Float) (i : ℕ) → get_or (map negative d) i false ≡ negative (get_or d i nan)
unfolding lt
sign_at d i = get_or-map negative d i nan

turns-is : (d : List Float) → turns (map negative d) ≡ crossings d
unfolding turns crossings
turns-is d = simp sign_at

-- ---- the 256 rows

-- the test passes at every row of n signs
every_row : ℕ → (List Bool → Bool) → Bool
every_row zero f = f []
every_row (suc n) f = every_row n (λ (s : List Bool). f (true ∷ s)) && every_row n (λ (s : List Bool). f (false ∷ s))

at_row : (n : ℕ) (f : List Bool → Bool) → T (every_row n f) → (s : List Bool) → length s ≡ n → T (f s)
unfolding every_row
at_row zero f t [] e = t
at_row zero f t (b ∷ s) e = absurd (suc-ne-zero (length s) e)
at_row (suc n) f t [] e = absurd (suc-ne-zero n (sym e))
at_row (suc n) f t (true ∷ s) e = at_row n (λ (r : List Bool). f (true ∷ r))
    (and_l (every_row n (λ (r : List Bool). f (true ∷ r))) (every_row n (λ (r : List Bool). f (false ∷ r))) t) s (suc_inj e)
at_row (suc n) f t (false ∷ s) e = at_row n (λ (r : List Bool). f (false ∷ r))
    (and_r (every_row n (λ (r : List Bool). f (true ∷ r))) (every_row n (λ (r : List Bool). f (false ∷ r))) t) s (suc_inj e)

-- 3 to 9, or 12
abbrev possible : ℕ → Bool
possible n = leb 3 n && (leb n 9 || eqb n 12)

-- a row with 1 to 7 signs set has 3 to 9 edges whose ends differ, or 12
abbrev few_or_many : List Bool → Bool
few_or_many s = not (leb 1 (inside s) && leb (inside s) 7) || possible (turns s)

rows_pass : T (every_row 8 few_or_many)
unfolding every_row inside turns many
rows_pass = tt

implied : (a b : Bool) → T (not a || b) → T a → T b
implied true b t s = t
implied false b t s = absurd s

-- document 02, request 13: "their number, 3 to 12"; and of these it is never 10 or 11
pub record Possible (n : ℕ) : Type 0 where
  pub least : 3 ≤ n
  pub most : n ≤ 12
  pub not_ten : n ≡ 10 → ⊥
  pub not_eleven : n ≡ 11 → ⊥

either : (a b : Bool) → T (a || b) → T a ⊎ T b
either true b t = inl t
either false b t = inr t

possible-is : (n : ℕ) → T (possible n) → Possible n
possible-is n t = go (either (leb n 9) (eqb n 12) (and_r (leb 3 n) (leb n 9 || eqb n 12) t))
  where
    low : 3 ≤ n
    low = leb→le 3 n (and_l (leb 3 n) (leb n 9 || eqb n 12) t)

    go : T (leb n 9) ⊎ T (eqb n 12) → Possible n
    go (inl h) = let k = leb→le n 9 h in record { least = low; most = omega arith; not_ten = λ e. omega arith; not_eleven = λ e. omega arith }
    go (inr h) = let k = eqb→eq n 12 h in record { least = low; most = omega arith; not_ten = λ e. omega arith; not_eleven = λ e. omega arith }

pub crossings-possible : (d : List Float) → length d ≡ 8 → T (surface d) → Possible (crossings d)
crossings-possible d e t =
    let row : T (few_or_many (map negative d)) = at_row 8 few_or_many rows_pass (map negative d) (length-map d negative ∙ e) in
    let both : T (not (surface d) || possible (crossings d)) = rw (inside_is, turns-is) at row in
    possible-is (crossings d) (implied (surface d) (possible (crossings d)) both t)

pub three-to-twelve : (d : List Float) → length d ≡ 8 → T (surface d) → (3 ≤ crossings d) × (crossings d ≤ 12)
three-to-twelve d e t = let p = crossings-possible d e t in (p.least, p.most)
