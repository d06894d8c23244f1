-- The loop that fills a list with marks from the front, over any step from a mark to the next: what it keeps from turn to turn, and that in the
-- end the list is the marks. Assumes nothing.
use Rattle.std.proofs.Common.{◌≡◌, ℕ, suc, ◌+◌, ◌-◌, ◌<◌, ◌≤◌, List, ◌∷◌, ◌++◌, length, take, set, ◌∙◌, append-nil, add-one, arith, length-set, take_all, take-suc-set}
use lib.Seq.{append_snoc}
use Rattle.marks.specs.Marks.{marks}

module _ {A : Type 0} (f : A → A) where
  -- of n marks those from place j on are the mark at j, and those after it
  pub marks-more : (m : A) (n j : ℕ) → j < n → marks f m (n - j) ≡ m ∷ marks f (f m) (n - (j + 1))
  unfolding marks
  marks-more m n j l = let e : n - j ≡ suc (n - (j + 1)) = omega arith in rw e

  -- of the list as lent, `old`, the places before j are filled, and `next` is the mark at j: with the marks from there on, the filled places are
  -- the marks from `first` on
  pub record Filled (first : A) (old : List A) (next : A) (j : ℕ) (list : List A) : Type 0 where
    pub within : j ≤ length old
    pub long : length list ≡ length old
    pub held : take j list ++ marks f next (length old - j) ≡ marks f first (length old)

  pub fill_more : {first : A} {old : List A} {m m' : A} {j : ℕ} {list : List A} → Filled first old m j list → j < length old → m' ≡ f m
      → Filled first old m' (j + 1) (set list j m)
  fill_more {first} {old} {m} {m'} {j} {list} h l e =
      let in_list : j < length list = omega arith in
      record {
        within = omega arith;
        long = length-set list j m ∙ h.long;
        held = rw (e, add-one, take-suc-set, append_snoc, ← add-one, ← marks-more) h.held;
      }

  pub fill-all : {first : A} {old : List A} {m : A} {j : ℕ} {list : List A} → Filled first old m j list → length old ≤ j → list ≡ marks f first (length old)
  unfolding marks
  fill-all {first} {old} {m} {j} {list} h l =
      let none : length old - j ≡ 0 = omega arith in
      let whole : length list ≤ j = omega arith in
      rw (none, take_all, append-nil) at h.held
