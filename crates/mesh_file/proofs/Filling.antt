-- The loops that fill lists and write records, one turn each: what stands there after k turns, and after one more. Assumes nothing.
use Prim.Native.Nat.{ℕ, zero, suc, ◌+◌, ◌*◌, ◌<◌, ◌≤◌, zero-le}
use native.Mathlib.Nat.{zero-add, add-zero}
use mathlib.Core.Path.{◌≡◌, refl, sym, ap, ◌∙◌}
use mathlib.Core.List.{List, [], ◌∷◌}
use lib.ListN.{length, get_or, drop}
use lib.Seq.{get_or-take, get_or-drop}
use Rattle.std.specs.Simd.{first_chunks}
use lib.Ieee.{Float}
use native.Mathlib.Omega.{arith}
use borrow.Rule.Slice.PartMut.{put_mid}
use Rattle.mesh_file.specs.Record.{record_of, each, laid}
use Rattle.mesh_file.specs.Mesh.{vertex_words, vertex_record, triangle_record}
use Rattle.mesh_file.specs.Reading.{three_at, numbers_at, indices_of}
use Rattle.mesh_record.proofs.Laying.{mid-laid, loop-laid}
use Rattle.mesh_record.proofs.Recording.{record-length}
use Rattle.mesh_file.proofs.Parts.{each_same}

-- ---- numbers read

pub three-next : {A : Type 0} (of : ℕ → A) (f : List ℕ) (first k n : ℕ) (old cur : List A) → n ≡ 3 → cur ≡ laid (each (λ i. three_at of f (32 * i + first)) k) 0 old
    → put_mid (3 * k) n cur (three_at of f (32 * k + first)) ≡ laid (each (λ i. three_at of f (32 * i + first)) (k + 1)) 0 old
three-next of f first k n old cur e i =
    mid-laid (3 * k) n (three_at of f (32 * k + first)) cur e
    ∙ loop-laid (λ i. three_at of f (32 * i + first)) 3 (λ k. refl) 0 k (3 * k) old cur zero-le (sym (zero-add (3 * k))) i

-- the indices of the triangles after v vertices
pub indices-after : (f : List ℕ) (v t : ℕ) → each (λ k. three_at (λ w. w) f (32 * k + (32 * v + 4))) t ≡ indices_of f v t
unfolding indices_of
indices-after f v t = each_same _ _ t (λ k l. ap (numbers_at f) (omega arith))

-- ---- vertices and triangles written

pub vertices-next : (p n : List Float) (k : ℕ) (old cur new : List ℕ) → cur ≡ laid (each (vertex_record p n) k) 0 old → new ≡ laid (vertex_words p n (3 * k)) (32 * k) cur
    → new ≡ laid (each (vertex_record p n) (k + 1)) 0 old
vertices-next p n k old cur new i e = e ∙ loop-laid (vertex_record p n) 32 (λ k. record-length _ _ _ _ _ _ _) 0 k (32 * k) old cur zero-le (sym (zero-add (32 * k))) i

pub triangles-next : (is : List ℕ) (k at : ℕ) (old cur new : List ℕ) → at ≤ length old → cur ≡ laid (each (triangle_record is) k) at old → new ≡ laid (triangle_record is k)
    (at + 32 * k) cur
    → new ≡ laid (each (triangle_record is) (k + 1)) at old
triangles-next is k at old cur new h i e = e ∙ loop-laid (triangle_record is) 32 (λ k. record-length _ _ _ _ _ _ _) at k (at + 32 * k) old cur h refl i

-- the j-th number of the k-th three
chunk-at : (xs : List ℕ) (n k j : ℕ) → k < n → j < 3 → get_or (get_or (first_chunks 3 n xs) k []) j 0 ≡ get_or xs (3 * k + j) 0
chunk-at xs zero k j h l = absurd (omega arith)
chunk-at xs (suc n) zero j h l = get_or-take 3 xs j 0 l ∙ ap (λ (i : ℕ). get_or xs i 0) (omega arith)
chunk-at xs (suc n) (suc k) j h l = chunk-at (drop 3 xs) n k j (omega arith) l ∙ get_or-drop 3 xs (3 * k + j) 0 ∙ ap (λ (i : ℕ). get_or xs i 0) (omega arith)

pub triangle-chunk : (is : List ℕ) (n k : ℕ) (ts : List (List ℕ)) → ts ≡ first_chunks 3 n is → k < n
    → record_of (2 ∷ get_or (get_or ts k []) 0 0 ∷ get_or (get_or ts k []) 1 0 ∷ get_or (get_or ts k []) 2 0 ∷ 0 ∷ 0 ∷ 0 ∷ []) ≡ triangle_record is k
triangle-chunk is n k ts e h =
    rw (e, chunk-at is n k 0 h (omega arith), chunk-at is n k 1 h (omega arith), chunk-at is n k 2 h (omega arith), add-zero) refl
