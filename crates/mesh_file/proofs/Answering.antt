-- The writer's answers: which condition gives which, what a refusal leaves, and that the three parts it writes are the file. Assumes nothing.
use Prim.Native.Nat.{ℕ, ◌+◌, ◌*◌, ◌/◌, ◌%◌, ◌^◌, ◌≤◌, ◌<◌, zero-le}
use native.Mathlib.Omega.{arith}
use mathlib.Core.Path.{◌≡◌, refl, sym, ap, ◌∙◌}
use mathlib.Core.Bool.{Bool, true, false, not, ◌||◌, cond}
use mathlib.Core.List.{List, ◌++◌, append_assoc}
use borrow.Author.Tests.{ltb-false, leb-false, lt-leb, eqb-true, eq-eqb, ne_eqb, not-false}
use lib.Dec.{leb, ltb, eqb}
use lib.ListN.{length, length-append}
use Rattle.lists.specs.Lists.{over}
use Rattle.mesh_file.specs.Record.{each, laid}
use Rattle.mesh_file.specs.Mesh.{Mesh, vertex_count, triangle_count, vertex_record, triangle_record, closing_record, file_of, file_length}
use Rattle.mesh_file.specs.Writing.{not_threes, bad_lengths, bad_lists, bad_indices, bad_floats, write_answer, wrote, writing, written}
use Rattle.mesh_record.proofs.Laying.{laid-after, over-laid, each-length}
use Rattle.mesh_record.proofs.Recording.{record-length}
use Rattle.lists.proofs.Either.{or_left, or_right}
use Rattle.mesh_record.proofs.Told.{cond-zero}

-- ---- the lengths

pub record Lengths (p n i : ℕ) : Type 0 where
  pub threes : p % 3 ≡ 0
  pub sixes : i % 3 ≡ 0
  pub same : n ≡ p
  pub few : p / 3 < 2 ^ 32
  pub fewer : i / 3 < 2 ^ 32

pub good-lengths : (p n i : ℕ) → bad_lengths p n i ≡ false → Lengths p n i
good-lengths p n i h =
    let h₁ = or_left (not_threes p || not_threes n || not_threes i || not (eqb n p) || leb (2 ^ 32) (p / 3)) (leb (2 ^ 32) (i / 3)) h in
    let h₂ = or_left (not_threes p || not_threes n || not_threes i || not (eqb n p)) (leb (2 ^ 32) (p / 3)) h₁ in
    let h₃ = or_left (not_threes p || not_threes n || not_threes i) (not (eqb n p)) h₂ in
    let h₄ = or_left (not_threes p || not_threes n) (not_threes i) h₃ in
    let h₅ = or_left (not_threes p) (not_threes n) h₄ in
    record {
      threes = eqb-true (p % 3) 0 (not-false (eqb (p % 3) 0) h₅);
      sixes = eqb-true (i % 3) 0 (not-false (eqb (i % 3) 0) (or_right (not_threes p || not_threes n) (not_threes i) h₃));
      same = eqb-true n p (not-false (eqb n p) (or_right (not_threes p || not_threes n || not_threes i) (not (eqb n p)) h₂));
      few = leb-false (2 ^ 32) (p / 3) (or_right (not_threes p || not_threes n || not_threes i || not (eqb n p)) (leb (2 ^ 32) (p / 3)) h₁);
      fewer = leb-false (2 ^ 32) (i / 3) (or_right (not_threes p || not_threes n || not_threes i || not (eqb n p) || leb (2 ^ 32) (p / 3)) (leb (2 ^ 32) (i / 3)) h);
    }

-- and the other way
pub lengths-good : (p n i : ℕ) → Lengths p n i → bad_lengths p n i ≡ false
lengths-good p n i l =
    let threes : n % 3 ≡ 0 = omega arith in
    rw (eq-eqb _ _ l.threes, eq-eqb _ _ threes, eq-eqb _ _ l.sixes, eq-eqb _ _ l.same, lt-leb _ _ l.few, lt-leb _ _ l.fewer) refl

-- ---- the answers

-- the answer 0 says that nothing was refused
pub answered-zero : (m : Mesh) (room : ℕ) → (writing m room).answer ≡ 0 → write_answer m room ≡ 0
unfolding writing
answered-zero m room = go (eqb (write_answer m room) 0) refl
  where
    go : (b : Bool) → eqb (write_answer m room) 0 ≡ b → (cond b (wrote 0 (file_length m)) (wrote (write_answer m room) 0)).answer ≡ 0 → write_answer m room ≡ 0
    go true q e = eqb-true (write_answer m room) 0 q
    go false q e = e

-- and another answer that something was
pub answered-other : (m : Mesh) (room : ℕ) → ((writing m room).answer ≡ 0 → ⊥) → write_answer m room ≡ 0 → ⊥
unfolding writing
answered-other m room n e = n (rw e refl)

-- the condition of each refusal fails where none answers
pub record Passed (m : Mesh) (room : ℕ) : Type 0 where
  pub lists : bad_lists m ≡ false
  pub indices : bad_indices m ≡ false
  pub floats : bad_floats m ≡ false
  pub roomy : file_length m ≤ room

pub passed : (m : Mesh) (room : ℕ) → write_answer m room ≡ 0 → Passed m room
unfolding write_answer
passed m room e =
    let e₁ = cond-zero (bad_lists m) 29 _ e in
    let e₂ = cond-zero (bad_indices m) 25 _ e₁.1 in
    let e₃ = cond-zero (bad_floats m) 26 _ e₂.1 in
    let e₄ = cond-zero (ltb room (file_length m)) 28 _ e₃.1 in
    record { lists = e₁.0; indices = e₂.0; floats = e₃.0; roomy = ltb-false room (file_length m) e₄.0 }

-- ---- the lent file afterwards

module _ (m : Mesh) (f : List ℕ) where
  pub written_over : write_answer m (length f) ≡ 0 → written m f ≡ over (file_of m) f
  unfolding written
  written_over e = rw e refl

  pub refused-writes-nothing : (write_answer m (length f) ≡ 0 → ⊥) → written m f ≡ f
  unfolding written
  refused-writes-nothing n = rw (ne_eqb _ _ n) refl

-- ---- the three parts

pub file-laid : (m : Mesh) (f₀ f₁ f₂ f₃ : List ℕ) → f₁ ≡ laid (each (vertex_record m.positions m.normals) (vertex_count m)) 0 f₀
    → f₂ ≡ laid (each (triangle_record m.indices) (triangle_count m)) (32 * vertex_count m) f₁
    → f₃ ≡ laid (closing_record (vertex_count m) (triangle_count m)) (32 * vertex_count m + 32 * triangle_count m) f₂ → f₃ ≡ over (file_of m) f₀
unfolding file_of
file-laid m f₀ f₁ f₂ f₃ e₁ e₂ e₃ =
    let v = each (vertex_record m.positions m.normals) (vertex_count m) in
    let t = each (triangle_record m.indices) (triangle_count m) in
    let c = closing_record (vertex_count m) (triangle_count m) in
    let nv : length v ≡ 32 * vertex_count m = each-length (vertex_record m.positions m.normals) 32 (λ k. record-length _ _ _ _ _ _ _) (vertex_count m) in
    let nt : length t ≡ 32 * triangle_count m = each-length (triangle_record m.indices) 32 (λ k. record-length _ _ _ _ _ _ _) (triangle_count m) in
    let p₂ : 32 * vertex_count m ≡ 0 + length v = omega arith in
    let p₃ : 32 * vertex_count m + 32 * triangle_count m ≡ 0 + length (v ++ t) = omega (arith, length-append v t) in
    let q₂ = laid-after v t 0 (32 * vertex_count m) f₀ f₁ f₂ p₂ zero-le e₁ e₂ in
    let q₃ = laid-after (v ++ t) c 0 (32 * vertex_count m + 32 * triangle_count m) f₀ f₂ f₃ p₃ zero-le q₂ e₃ in
    q₃ ∙ (ap (λ (x : List ℕ). laid x 0 f₀) (append_assoc v t c) ∙ sym (over-laid (v ++ (t ++ c)) f₀))
