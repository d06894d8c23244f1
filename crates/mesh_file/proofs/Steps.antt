-- The way back: a record that tells what a good one tells is a good step, and a file of such records reads as a whole mesh. A shorter beginning of
-- it is a cut file. Assumes nothing.
use Prim.Native.Nat.{ℕ, zero, suc, ◌+◌, ◌*◌, ◌≤◌, ◌<◌}
use native.Mathlib.Nat.{add-zero, add-suc}
use native.Mathlib.Omega.{arith}
use mathlib.Core.Path.{◌≡◌, refl, ap, ◌∙◌}
use mathlib.Core.Bool.{false, not}
use mathlib.Core.List.{List}
use borrow.Author.Tests.{eq-eqb, le-ltb}
use lib.Dec.{ltb}
use lib.ListN.{length, take, length-take}
use lib.Seq.{get_or-take}
use Rattle.mesh_file.specs.Record.{word_at}
use Rattle.mesh_file.specs.Reading.{
  words_at,
  bad_sum,
  bad_kind,
  bad_zero,
  bad_counts,
  bad_index,
  bad_float,
  bad_end,
  Found,
  found_at,
  seen,
  reading,
  whole,
  refused,
  counted,
  after,
  read_of,
}
use Rattle.mesh_record.specs.declared.Counts.{Counts}
use Rattle.mesh_record.proofs.OneStep.{found-cut}
use Rattle.mesh_file.proofs.Progressing.{after_next, after_none, read_is}
use Rattle.mesh_record.proofs.Told.{NoFault, good-found, Sum, VertexTold, TriangleTold, ClosingTold}

-- ---- one record

good-sum : (f : List ℕ) (at : ℕ) → Sum f at → bad_sum (words_at f at) ≡ false
unfolding bad_sum
good-sum f at e = ap not (eq-eqb _ _ e)

pub vertex-step : (f : List ℕ) (at : ℕ) (s : Counts) → VertexTold f at s → (found_at f at s).kind ≡ 1
unfolding bad_kind bad_zero bad_counts bad_index bad_float bad_end
vertex-step f at s g =
    let k = g.kind in
    let n : NoFault (words_at f at) s (ltb (at + 32) (length f)) =
    record {
      sum = good-sum f at g.sum;
      kind = rw (k, g.first) refl;
      zero = rw k refl;
      counts = rw k refl;
      index = rw k refl;
      float = rw (k, g.floats) refl;
      last = rw k refl;
    } in
    ap (λ (x : Found). x.kind) (good-found f at s g.room n) ∙ k

pub triangle-step : (f : List ℕ) (at : ℕ) (s : Counts) → TriangleTold f at s → (found_at f at s).kind ≡ 2
unfolding bad_kind bad_zero bad_counts bad_index bad_float bad_end
triangle-step f at s g =
    let k = g.kind in
    let n : NoFault (words_at f at) s (ltb (at + 32) (length f)) =
    record {
      sum = good-sum f at g.sum;
      kind = rw k refl;
      zero = rw (k, g.zeros) refl;
      counts = rw k refl;
      index = rw (k, g.below) refl;
      float = rw k refl;
      last = rw k refl;
    } in
    ap (λ (x : Found). x.kind) (good-found f at s g.room n) ∙ k

pub closing-step : (f : List ℕ) (at : ℕ) (s : Counts) → ClosingTold f at s → (found_at f at s).kind ≡ 3
unfolding bad_kind bad_zero bad_counts bad_index bad_float bad_end
closing-step f at s g =
    let k = g.kind in
    let l = g.length in
    let h : at + 32 ≤ length f = omega arith in
    let n : NoFault (words_at f at) s (ltb (at + 32) (length f)) =
    record {
      sum = good-sum f at g.sum;
      kind = rw k refl;
      zero = rw (k, g.zeros) refl;
      counts = rw (k, eq-eqb _ _ g.vertices, eq-eqb _ _ g.triangles) refl;
      index = rw k refl;
      float = rw k refl;
      last = rw (k, le-ltb (at + 32) (length f) (omega arith)) refl;
    } in
    ap (λ (x : Found). x.kind) (good-found f at s h n) ∙ k

-- ---- many records

module _ (f : List ℕ) where
  pub reads-vertices : (v : ℕ) → ((j : ℕ) → j < v → (found_at f (32 * j) (seen j 0)).kind ≡ 1) → after f v ≡ reading v 0
  reads-vertices zero h = after_none f
  reads-vertices (suc v) h =
      after_next f v v 0 (reads-vertices v (λ j l. h j (omega arith))) ∙ rw (h v (omega arith)) refl

  pub reads-triangles : (v t : ℕ) → after f v ≡ reading v 0 → ((j : ℕ) → j < t → (found_at f (32 * (v + j)) (seen v j)).kind ≡ 2) → after f (v + t) ≡ reading v t
  reads-triangles v zero e h = ap (after f) (add-zero v) ∙ e
  reads-triangles v (suc t) e h =
      ap (after f) (add-suc v t) ∙ (after_next f (v + t) v t (reads-triangles v t e (λ j l. h j (omega arith))) ∙ rw (h t (omega arith)) refl)

  pub reads_whole : (v t : ℕ) → ((j : ℕ) → j < v → (found_at f (32 * j) (seen j 0)).kind ≡ 1) → ((j : ℕ) → j < t → (found_at f (32 * (v + j)) (seen v j)).kind ≡ 2)
      → (found_at f (32 * (v + t)) (seen v t)).kind ≡ 3 → 32 * (v + t) ≤ length f → read_of f ≡ whole v t
  reads_whole v t a b c h =
      read_is f (v + t) (whole v t) tt h (after_next f (v + t) v t (reads-triangles v t (reads-vertices v a) b) ∙ rw c refl)

  -- good records, and then the end of the file inside one
  pub reads-cut : (k v t : ℕ) → after f k ≡ reading v t → 32 * k ≤ length f → length f < 32 * k + 32 → read_of f ≡ refused 21
  reads-cut k v t e h l = read_is f k (refused 21) tt h (after_next f k v t e ∙ ap (λ (x : Found). counted x v t) (found-cut f (32 * k) (seen v t) l))

-- ---- a shorter beginning

module _ (f : List ℕ) (n : ℕ) where
  pub word-before : (at : ℕ) → at + 4 ≤ n → word_at (take n f) at ≡ word_at f at
  unfolding word_at
  word-before at h =
      let h₀ : at < n = omega arith in
      let h₁ : at + 1 < n = omega arith in
      let h₂ : at + 2 < n = omega arith in
      let h₃ : at + 3 < n = omega arith in
      rw (get_or-take n f at 0 h₀, get_or-take n f (at + 1) 0 h₁, get_or-take n f (at + 2) 0 h₂, get_or-take n f (at + 3) 0 h₃) refl

  room-before : (at : ℕ) → at + 32 ≤ n → at + 32 ≤ length f → at + 32 ≤ length (take n f)
  room-before at h l = rw length-take (omega arith)

  pub vertex-before : (at : ℕ) (s : Counts) → at + 32 ≤ n → VertexTold f at s → VertexTold (take n f) at s
  vertex-before at s h g =
      let w₀ = word-before at (omega arith) in
      let w₁ = word-before (at + 4) (omega arith) in
      let w₂ = word-before (at + 8) (omega arith) in
      let w₃ = word-before (at + 12) (omega arith) in
      let w₄ = word-before (at + 16) (omega arith) in
      let w₅ = word-before (at + 20) (omega arith) in
      let w₆ = word-before (at + 24) (omega arith) in
      let w₇ = word-before (at + 28) (omega arith) in
      record {
        room = room-before at h g.room;
        kind = w₀ ∙ g.kind;
        sum = rw (w₀, w₁, w₂, w₃, w₄, w₅, w₆, w₇) g.sum;
        first = g.first;
        floats = rw (w₁, w₂, w₃, w₄, w₅, w₆) g.floats;
      }

  pub triangle-before : (at : ℕ) (s : Counts) → at + 32 ≤ n → TriangleTold f at s → TriangleTold (take n f) at s
  triangle-before at s h g =
      let w₀ = word-before at (omega arith) in
      let w₁ = word-before (at + 4) (omega arith) in
      let w₂ = word-before (at + 8) (omega arith) in
      let w₃ = word-before (at + 12) (omega arith) in
      let w₄ = word-before (at + 16) (omega arith) in
      let w₅ = word-before (at + 20) (omega arith) in
      let w₆ = word-before (at + 24) (omega arith) in
      let w₇ = word-before (at + 28) (omega arith) in
      record {
        room = room-before at h g.room;
        kind = w₀ ∙ g.kind;
        sum = rw (w₀, w₁, w₂, w₃, w₄, w₅, w₆, w₇) g.sum;
        zeros = rw (w₄, w₅, w₆) g.zeros;
        below = rw (w₁, w₂, w₃) g.below;
      }
