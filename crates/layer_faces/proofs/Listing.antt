-- A list of edges by their numbers: each number is listed behind those before it if its edge gives a face, and the edges that the list's numbers say are
-- the batch's. Assumes nothing.
use Rattle.std.proofs.Common.{◌≡◌, ℕ, zero, suc, ◌+◌, ◌*◌, ◌/◌, ◌%◌, ◌<◌, ◌≤◌, Bool, cond, T, List, [], ◌∷◌, ◌++◌, map, length, get_or, take, drop, sym, refl, ap, ◌∙◌, ap₂, append_assoc, add-one, arith, length-append, length-drop, get_or-drop, take-suc}
use mathlib.Core.List.{map-append}
use lib.ListN.{length-map}
use Rattle.lists.specs.Lists.{run, keep, joined}
use Rattle.rules.specs.Grid.{GridPoint, Box, Field}
use Rattle.rules.specs.Vertices.{layer_vertices}
use Rattle.rules.specs.Faces.{Flags, Edge, edge, edges_at, gives, cell_edges}
use Rattle.lists.proofs.Lists.{All, all_append, all_then, all_keep, none, more, joined_snoc, keep_append, keep-map, keep-joined, length-keep, many-most}
use Rattle.layer_faces.specs.Quads.{axis_of, cell_at, edge_at, listed, some_edges}

-- ---- a run of numbers

length_run : (n : ℕ) → length (run n) ≡ n
unfolding run
length_run zero = refl
length_run (suc n) = length-append (run n) (n ∷ []) ∙ omega (arith, length_run n)

run-all : (n : ℕ) → All (λ k. k < n) (run n)
unfolding run
run-all zero = none
run-all (suc n) = all_append (grown (run-all n)) (more (omega arith) none)
  where
    grown : {l : List ℕ} → All (λ k. k < n) l → All (λ k. k < suc n) l
    grown p = all_then (λ k h. omega arith) p

-- ---- the numbers that a test keeps

module _ (t : ℕ → Bool) where
  pub kept-few : (e : ℕ) → length (keep t (run e)) ≤ e
  kept-few e = omega (arith, length-keep t (run e), many-most t (run e), length_run e)

  pub kept_more : (e : ℕ) → keep t (run (e + 1)) ≡ keep t (run e) ++ cond (t e) (e ∷ []) []
  unfolding run keep
  kept_more e = ap (λ (n : ℕ). keep t (run n)) (add-one e) ∙ keep_append t (run e) (e ∷ [])

-- ---- the edges that the numbers say

-- the numbers 3 n, 3 n + 1 and 3 n + 2 are the three edges of the n-th vertex
pub edge-at : (cs : List ℕ) (z from n a : ℕ) {e : ℕ} → a < 3 → e ≡ 3 * n + a → edge (axis_of a) (cell_at cs z (from + n)) ≡ edge_at cs z from e
edge-at cs z from n a {e} h k =
    let axis : a ≡ e % 3 = omega arith in
    let vertex : n ≡ e / 3 = omega arith in
    λ i. edge (axis_of (axis i)) (cell_at cs z (from + vertex i))

three-on : {A : Type 0} (l : List A) (x y z : A) → ((l ++ (x ∷ [])) ++ (y ∷ [])) ++ (z ∷ []) ≡ l ++ (x ∷ y ∷ z ∷ [])
three-on l x y z = simp append_assoc

module _ (vs : List GridPoint) (cs : List ℕ) (z from : ℕ) (is : (v : ℕ) → v < length vs → cell_at cs z v ≡ get_or vs v (cell_at cs z v)) where
  three : (n : ℕ) → map (edge_at cs z from) (run (3 * suc n)) ≡ map (edge_at cs z from) (run (3 * n)) ++ edges_at (cell_at cs z (from + n))
  unfolding run
  three n =
      let e : 3 * suc n ≡ suc (suc (suc (3 * n))) = omega arith in
      let f = edge_at cs z from in
      let r = run (3 * n) in
      ap (λ (k : ℕ). map f (run k)) e
      ∙ map-append f ((r ++ (3 * n ∷ [])) ++ (suc (3 * n) ∷ [])) (suc (suc (3 * n)) ∷ [])
      ∙ ap (λ (l : List Edge). l ++ (f (suc (suc (3 * n))) ∷ [])) (map-append f (r ++ (3 * n ∷ [])) (suc (3 * n) ∷ []) ∙ ap (λ (l : List Edge). l ++ (f (suc (3 * n)) ∷ []))
      (map-append f r (3 * n ∷ [])))
      ∙ three-on (map f r) (f (3 * n)) (f (suc (3 * n))) (f (suc (suc (3 * n))))
      ∙ sym (λ i. map f r ++ (edge-at cs z from n 0 {e = 3 * n} (omega arith) (omega arith) i ∷ edge-at cs z from n 1 {e = suc (3 * n)} (omega arith) (omega arith) i ∷
      edge-at cs z from n 2 {e = suc (suc (3 * n))} (omega arith) (omega arith) i ∷ []))

  numbered : (n : ℕ) → from + n ≤ length vs → map (edge_at cs z from) (run (3 * n)) ≡ joined edges_at (take n (drop from vs))
  unfolding run joined
  numbered zero h = refl
  numbered (suc n) h =
      let c = cell_at cs z (from + n) in
      let long : n < length (drop from vs) = simp length-drop (omega arith) in
      let at : c ≡ get_or (drop from vs) n c = is (from + n) (omega arith) ∙ sym (get_or-drop from vs n c) in
      three n
      ∙ ap₂ {A = List Edge} ◌++◌ (numbered n (omega arith)) (ap edges_at at)
      ∙ sym (joined_snoc edges_at (take n (drop from vs)) (get_or (drop from vs) n c))
      ∙ ap (joined edges_at) (sym (take-suc (drop from vs) n c long))

-- ---- a batch's list

module _ (g : Field) (b : Box) (m : Flags) (z from n : ℕ) (cs : List ℕ) (within : from + n ≤ length (layer_vertices g b z))
    (is : (v : ℕ) → v < length (layer_vertices g b z) → cell_at cs z v ≡ get_or (layer_vertices g b z) v (cell_at cs z v)) where
  abbrev codes : List ℕ
  codes = listed g b m cs z from (3 * n)

  pub listed-edges : map (edge_at cs z from) (listed g b m cs z from (3 * n)) ≡ some_edges g b m z from n
  unfolding listed cell_edges
  listed-edges =
      let vs = layer_vertices g b z in
      sym (keep-map (gives g b m) (edge_at cs z from) (run (3 * n)))
      ∙ ap (keep (gives g b m)) (numbered vs cs z from is n within)
      ∙ keep-joined (gives g b m) edges_at (take n (drop from vs))

  pub listed-length : length (listed g b m cs z from (3 * n)) ≡ length (some_edges g b m z from n)
  listed-length = sym (length-map codes (edge_at cs z from)) ∙ ap length listed-edges

  pub listed-few : length (listed g b m cs z from (3 * n)) ≤ 3 * n
  unfolding listed
  listed-few = kept-few (λ (e : ℕ). gives g b m (edge_at cs z from e)) (3 * n)

  pub listed-all : All (λ (e : ℕ). (e < 3 * n) × T (gives g b m (edge_at cs z from e))) (listed g b m cs z from (3 * n))
  unfolding listed
  listed-all = all_keep (λ (e : ℕ). gives g b m (edge_at cs z from e)) (all_then (λ e low t. (low, t)) (run-all (3 * n)))
