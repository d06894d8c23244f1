-- The corners of an accepted list, and its triangles three by three. Assumes nothing.
use Prim.Native.Nat.{ℕ, zero, suc, ◌+◌, ◌*◌, ◌/◌, ◌≤◌, ◌<◌}
use native.Mathlib.Omega.{arith}
use mathlib.Core.Bool.{Bool, false, not}
use mathlib.Core.List.{List, []}
use mathlib.Core.Path.{◌≡◌, refl, sym, ap, subst, ◌∙◌}
use borrow.Author.Tests.{leb-false}
use lib.Dec.{T}
use lib.ListN.{length, get_or, drop}
use lib.Ieee.{Float, nan}
use Rattle.std.specs.Simd.{first_chunks}
use Rattle.std.proofs.lemmas.List.{get_or-drop, get_or-take}
use Rattle.lists.specs.Lists.{some}
use Rattle.lists.proofs.Searching.{none-at}
use Rattle.volume.specs.Steps.{past, outside}
use Rattle.volume.specs.Volume.{Near, corner_at}
use Rattle.volume.specs.Answers.{no_vertex}
use Rattle.volume.proofs.Coordinate.{steps-near, within}
use Rattle.volume.proofs.Searching.{none_either}

-- a coordinate of an accepted list
pub inside : (n : ℕ) (p : List Float) → some (past n) p ≡ false → (i : ℕ) → i < length p → T (not (past n (get_or p i nan)))
inside n p e i h = subst (λ (t : Bool). T (not t)) (sym (none-at (past n) nan p e i h)) tt

pub all_within : (p : List Float) → some outside p ≡ false → some (past 16777216) p ≡ false
all_within p e = none_either (past 128) (past 16777216) within p e

pub near_corner : (p : List Float) (v : ℕ) → 3 * v + 3 ≤ length p → some outside p ≡ false → Near (corner_at p v)
near_corner p v h e = record {
  x = steps-near _ (inside 128 p e (3 * v) (omega arith));
  y = steps-near _ (inside 128 p e (3 * v + 1) (omega arith));
  z = steps-near _ (inside 128 p e (3 * v + 2) (omega arith));
}

-- a number of the k-th triangle is the list's
chunk_at : (l : List ℕ) (n k j : ℕ) → k < n → j < 3 → get_or (get_or (first_chunks 3 n l) k []) j 0 ≡ get_or l (3 * k + j) 0
chunk_at l zero k j h b = absurd (omega arith)
chunk_at l (suc n) zero j h b =
    let e : j ≡ 3 * 0 + j = omega arith in
    get_or-take 3 l j 0 b ∙ ap (λ (m : ℕ). get_or l m 0) e
chunk_at l (suc n) (suc k) j h b =
    let e : 3 + (3 * k + j) ≡ 3 * suc k + j = omega arith in
    chunk_at (drop 3 l) n k j (omega arith) b ∙ get_or-drop 3 l (3 * k + j) 0 ∙ ap (λ (m : ℕ). get_or l m 0) e

pub chunk_read : (l : List ℕ) {ts : List (List ℕ)} (k j i : ℕ) → ts ≡ first_chunks 3 (length l / 3) l → k < length l / 3 → j < 3 → 3 * k + j ≡ i
    → get_or (get_or ts k []) j 0 ≡ get_or l i 0
chunk_read l k j i e h b f =
    ap (λ (t : List (List ℕ)). get_or (get_or t k []) j 0) e ∙ chunk_at l (length l / 3) k j h b ∙ ap (λ (m : ℕ). get_or l m 0) f

pub none_in_chunk : (f : ℕ → Bool) (l : List ℕ) {ts : List (List ℕ)} (k j : ℕ) → some f l ≡ false → ts ≡ first_chunks 3 (length l / 3) l → k < length l / 3
    → j < 3 → f (get_or (get_or ts k []) j 0) ≡ false
none_in_chunk f l k j e t h b = ap f (chunk_read l k j (3 * k + j) t h b refl) ∙ none-at f 0 l e (3 * k + j) (omega arith)

-- and so is its vertex
pub vertex_in_chunk : (n : ℕ) (l : List ℕ) {ts : List (List ℕ)} (k j : ℕ) → some (no_vertex (n / 3)) l ≡ false → ts ≡ first_chunks 3 (length l / 3) l
    → k < length l / 3 → j < 3 → 3 * get_or (get_or ts k []) j 0 + 3 ≤ n
vertex_in_chunk n l {ts} k j e t h b =
    let f : get_or (get_or ts k []) j 0 < n / 3 = leb-false (n / 3) _ (none_in_chunk (no_vertex (n / 3)) l k j e t h b) in
    omega arith
