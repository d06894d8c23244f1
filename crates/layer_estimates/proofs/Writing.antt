-- Vertices written one run after the other: two runs that follow each other are one, a vertex by its own stores is a run of one, and the lists keep their
-- lengths. From the law of stores in a row. Assumes nothing.
use Prim.Native.Nat.{ℕ, ◌+◌, ◌*◌, ◌≤◌, zero-le}
use native.Mathlib.Numerals.{add-one}
use native.Mathlib.Omega.{arith}
use mathlib.Core.List.{List, [], ◌∷◌, ◌++◌, map, map-append, map-map}
use mathlib.Core.Path.{◌≡◌, sym, ap, ◌∙◌}
use lib.ListN.{length, set, length-map}
use lib.Seq.{sets, length-sets}
use lib.Ieee.{Float}
use Rattle.lists.specs.Lists.{up_to, joined}
use Rattle.lists.proofs.Lists.{joined-append}
use Rattle.lists.proofs.Runs.{up_to-last, up_to-split}
use Rattle.rules.specs.Grid.{GridPoint, Field}
use Rattle.rules.specs.Cell.{Vector}
use Rattle.rules.specs.Vertices.{vertex_position, vertex_normal, vertex_crossings}
use Rattle.rules.specs.Call.{flat_vectors}
use Rattle.rules.specs.Cutting.{Vertex, vertex_of}
use Rattle.rules.proofs.Seen.{length-vectors}
use Rattle.grid.proofs.Order.{length-up_to}
use Rattle.stores.proofs.Runs.{sets-on}
use Rattle.layer_estimates.specs.Estimates.{RoomFor, Lists, lists, written}

-- the vertices vs, written to s from a place on, leave s'
pub record Wrote (place : ℕ) (s : Lists) (vs : List Vertex) (s' : Lists) : Type 0 where
  pub same : s' ≡ written place vs s

pub record SameLengths (s t : Lists) : Type 0 where
  pub positions : length s.positions ≡ length t.positions
  pub normals : length s.normals ≡ length t.normals
  pub crossings : length s.crossings ≡ length t.crossings

-- ---- none, and one

pub wrote_none : {place : ℕ} {s : Lists} {vs : List Vertex} → vs ≡ [] → Wrote place s vs s
unfolding written joined
wrote_none {place} {s} e = record { same = ap (λ (vs : List Vertex). written place vs s) (sym e) }

pub wrote_one : {place : ℕ} {s : Lists} (v : Vertex) {positions normals : List Float} {crossings : List ℕ}
    → positions ≡ sets s.positions (3 * place) (v.position.x ∷ v.position.y ∷ v.position.z ∷ [])
    → normals ≡ sets s.normals (3 * place) (v.normal.x ∷ v.normal.y ∷ v.normal.z ∷ [])
    → crossings ≡ set s.crossings place v.crossings → Wrote place s (v ∷ []) (lists positions normals crossings)
unfolding written joined
wrote_one v p n x = record { same = λ i. record { positions = p i; normals = n i; crossings = x i } }

-- ---- some more

module _ (place p : ℕ) (us vs : List Vertex) (e : p ≡ place + length us) where
  vectors-on : (f : Vertex → Vector) (l : List Float)
      → sets (sets l (3 * place) (flat_vectors (map f us))) (3 * p) (flat_vectors (map f vs)) ≡ sets l (3 * place) (flat_vectors (map f (us ++ vs)))
  vectors-on f l =
      sets-on l (3 * place) (3 * p) (flat_vectors (map f us)) (flat_vectors (map f vs)) (omega (arith, length-vectors f us))
      ∙ ap (sets l (3 * place)) (sym (ap flat_vectors (map-append f us vs) ∙ joined-append (λ (v : Vector). v.x ∷ v.y ∷ v.z ∷ []) (map f us) (map f vs)))

  numbers_on : (f : Vertex → ℕ) (l : List ℕ) → sets (sets l place (map f us)) p (map f vs) ≡ sets l place (map f (us ++ vs))
  numbers_on f l =
      sets-on l place p (map f us) (map f vs) (omega (arith, length-map us f)) ∙ ap (sets l place) (sym (map-append f us vs))

  written_on : (s : Lists) → written p vs (written place us s) ≡ written place (us ++ vs) s
  unfolding written
  written_on s =
      λ i.
      record {
        positions = vectors-on (λ (v : Vertex). v.position) s.positions i;
        normals = vectors-on (λ (v : Vertex). v.normal) s.normals i;
        crossings = numbers_on (λ (v : Vertex). v.crossings) s.crossings i;
      }

pub wrote-more : {place p : ℕ} {s s' s'' : Lists} {us vs all : List Vertex}
    → Wrote place s us s' → Wrote p s' vs s'' → p ≡ place + length us → all ≡ us ++ vs → Wrote place s all s''
wrote-more {place} {p} {s} {us = us} {vs = vs} h k e f =
    record { same = k.same ∙ ap (written p vs) h.same ∙ written_on place p us vs e s ∙ ap (λ (l : List Vertex). written place l s) (sym f) }

-- ---- runs of numbers: one more at the end, and some more

run_length : (f : ℕ → Vertex) (n : ℕ) → length (map f (up_to 0 n)) ≡ n
run_length f n = length-map (up_to 0 n) f ∙ length-up_to 0 n ∙ omega arith

module _ {place : ℕ} {s s' s'' : Lists} (f : ℕ → Vertex) where
  pub wrote-next : (j : ℕ) → Wrote place s (map f (up_to 0 j)) s' → Wrote (place + j) s' (f j ∷ []) s'' → Wrote place s (map f (up_to 0 (j + 1))) s''
  wrote-next j h k =
      wrote-more h k (ap (λ (n : ℕ). place + n) (sym (run_length f j)))
      (ap (λ (n : ℕ). map f (up_to 0 n)) (add-one j) ∙ ap (map f) (up_to-last 0 j zero-le) ∙ map-append f (up_to 0 j) (j ∷ []))

  pub wrote-run : (j n : ℕ) → Wrote place s (map f (up_to 0 j)) s' → Wrote (place + j) s' (map f (up_to j (j + n))) s'' → Wrote place s (map f (up_to 0 (j + n))) s''
  wrote-run j n h k =
      wrote-more h k (ap (λ (n : ℕ). place + n) (sym (run_length f j)))
      (ap (map f) (up_to-split 0 j (j + n) zero-le (omega arith)) ∙ map-append f (up_to 0 j) (up_to j (j + n)))

pub wrote-up : {place : ℕ} {s s' : Lists} (f : ℕ → Vertex) {j n : ℕ} → Wrote place s (map f (up_to 0 j)) s' → j ≡ n → Wrote place s (map f (up_to 0 n)) s'
wrote-up {place} {s} f h e = record { same = h.same ∙ ap (λ (m : ℕ). written place (map f (up_to 0 m)) s) e }

-- ---- lengths

pub wrote-lengths : {place : ℕ} {s s' : Lists} {vs : List Vertex} → Wrote place s vs s' → SameLengths s' s
unfolding written
wrote-lengths {place} {s} {vs = vs} h =
    record {
      positions = ap (λ (t : Lists). length t.positions) h.same ∙ length-sets s.positions (3 * place) (flat_vectors (map (λ (v : Vertex). v.position) vs));
      normals = ap (λ (t : Lists). length t.normals) h.same ∙ length-sets s.normals (3 * place) (flat_vectors (map (λ (v : Vertex). v.normal) vs));
      crossings = ap (λ (t : Lists). length t.crossings) h.same ∙ length-sets s.crossings place (map (λ (v : Vertex). v.crossings) vs);
    }

-- the room that is left for some of n
pub room-left : {n p : ℕ} {s s' : Lists} → RoomFor n s.positions s.normals s.crossings → SameLengths s' s → p ≤ n
    → RoomFor p s'.positions s'.normals s'.crossings
room-left r l h =
    record { positions = omega (arith, r.positions, l.positions); normals = omega (arith, r.normals, l.normals); crossings = omega (arith, r.crossings, l.crossings) }

-- ---- the vertices that cells define

pub wrote-cells : {place : ℕ} {s s' : Lists} {vs : List Vertex} (g : Field) (cs : List GridPoint) → Wrote place s vs s' → vs ≡ map (vertex_of g) cs
    → (s'.positions ≡ sets s.positions (3 * place) (flat_vectors (map (vertex_position g) cs)))
    × ((s'.normals ≡ sets s.normals (3 * place) (flat_vectors (map (vertex_normal g) cs)))
    × (s'.crossings ≡ sets s.crossings place (map (vertex_crossings g) cs)))
unfolding written
wrote-cells {place} {s} {s'} g cs h e =
    let same : s' ≡ written place (map (vertex_of g) cs) s = h.same ∙ ap (λ (l : List Vertex). written place l s) e in (
      ap (λ (t : Lists). t.positions) same
          ∙ ap (λ (l : List Vector). sets s.positions (3 * place) (flat_vectors l)) (map-map (λ (v : Vertex). v.position) (vertex_of g) cs),
      (
        ap (λ (t : Lists). t.normals) same
            ∙ ap (λ (l : List Vector). sets s.normals (3 * place) (flat_vectors l)) (map-map (λ (v : Vertex). v.normal) (vertex_of g) cs),
        ap (λ (t : Lists). t.crossings) same ∙ ap (sets s.crossings place) (map-map (λ (v : Vertex). v.crossings) (vertex_of g) cs),
      ),
    )
