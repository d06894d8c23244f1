-- Laws of lists laid over others: a part written over lays a list, one list laid after another is the two joined, and a loop that lays its k-th
-- part at its k-th turn lays them all. Assumes nothing.
use Rattle.std.proofs.Common.{◌≡◌, ℕ, zero, suc, ◌+◌, ◌*◌, ◌≤◌, List, [], ◌++◌, length, take, drop, sym, refl, ap, ◌∙◌, append_assoc, add-zero, add_assoc, mul-zero, zero-add, mul-suc, add-one, arith, length-append, take-append-drop, length-take, drop-drop, take_at}
use lib.Seq.{drop-append-add}
use borrow.Rule.Slice.PartMut.{put_mid}
use Rattle.lists.specs.Lists.{over}
use Rattle.mesh_record.specs.Record.{each, laid}

module _ {A : Type 0} where
  pub laid_none : (at : ℕ) (old : List A) → laid [] at old ≡ old
  laid_none at old = rw add-zero (take-append-drop at old)

  pub laid-laid : (a b : List A) (at : ℕ) (old : List A) → at ≤ length old → laid b (at + length a) (laid a at old) ≡ laid (a ++ b) at old
  laid-laid a b at old h =
      let n : length (take at old ++ a) ≡ at + length a = simp (length-append, length-take) (omega arith) in
      let t : take (at + length a) (take at old ++ (a ++ drop (at + length a) old)) ≡ take at old ++ a = rw (← append_assoc)
      (take_at (take at old ++ a) (drop (at + length a) old) (at + length a) n) in
      let d : drop (at + length a + length b) (take at old ++ (a ++ drop (at + length a) old)) ≡ drop (at + length (a ++ b)) old =
      rw (← append_assoc, ← n, drop-append-add, drop-drop) (rw (n, length-append, add_assoc) refl) in
      rw (t, d) (simp append_assoc)

  -- a part written over
  pub mid-laid : (at k : ℕ) (new old : List A) → k ≡ length new → put_mid at k old new ≡ laid new at old
  mid-laid at k new old e = rw (e, drop-drop) refl

  pub over-laid : (new old : List A) → over new old ≡ laid new 0 old
  over-laid new old = rw zero-add refl

  -- parts of one length
  pub each-length : (g : ℕ → List A) (w : ℕ) → ((k : ℕ) → length (g k) ≡ w) → (n : ℕ) → length (each g n) ≡ w * n
  unfolding each
  each-length g w e zero = sym (mul-zero w)
  each-length g w e (suc n) = length-append (each g n) (g n) ∙ (rw (each-length g w e n, e n) (sym (mul-suc w n)))

  pub loop-none : (g : ℕ → List A) (at : ℕ) (old : List A) → old ≡ laid (each g 0) at old
  unfolding each
  loop-none g at old = sym (laid_none at old)

  pub loop-laid : (g : ℕ → List A) (w : ℕ) → ((k : ℕ) → length (g k) ≡ w) → (at k p : ℕ) (old now : List A) → at ≤ length old → p ≡ at + w * k
      → now ≡ laid (each g k) at old → laid (g k) p now ≡ laid (each g (k + 1)) at old
  unfolding each
  loop-laid g w e at k p old now h q i =
      let j : p ≡ at + length (each g k) = q ∙ ap (λ (x : ℕ). at + x) (sym (each-length g w e k)) in
      rw (i, j, add-one) (laid-laid (each g k) (g k) at old h)

  -- a second list laid where the first ends
  pub laid-after : (x y : List A) (at p : ℕ) (old one two : List A) → p ≡ at + length x → at ≤ length old → one ≡ laid x at old → two ≡ laid y p one → two ≡ laid (x ++ y) at old
  laid-after x y at p old one two q h e₁ e₂ = rw (e₂, e₁, q) (laid-laid x y at old h)
