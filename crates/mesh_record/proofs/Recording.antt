-- Words written in a row: four of them, and a record of seven and their sum; and a record written where there is room, or refused. Assumes nothing.
use Rattle.std.proofs.Common.{◌≡◌, ℕ, ◌+◌, ◌*◌, ◌<◌, ◌≤◌, List, [], ◌∷◌, ◌++◌, length, get_or, take, refl, ap, ◌∙◌, arith, length-append, length-take, le-ltb, lt-ltb}
use Rattle.std.proofs.lemmas.List.{take_more}
use lib.Seq.{take_all}
use Rattle.lists.proofs.Lists.{joined_snoc, joined_length}
use Rattle.lists.specs.Lists.{joined}
use Rattle.mesh_record.specs.Record.{bytes_of, sum_of, record_of, laid}
use Rattle.mesh_record.specs.Written.{record_answer, record_written}
use Rattle.mesh_record.proofs.Laying.{laid-after}

pub record-length : (k a b c d e g : ℕ) → length (record_of (k ∷ a ∷ b ∷ c ∷ d ∷ e ∷ g ∷ [])) ≡ 32
unfolding record_of joined bytes_of
record-length k a b c d e g = refl

bytes-length : (w : ℕ) → length (bytes_of w) ≡ 4
unfolding bytes_of
bytes-length w = refl

words-length : (ws : List ℕ) → length (joined bytes_of ws) ≡ 4 * length ws
words-length ws = joined_length bytes_of 4 bytes-length ws

-- a record of any seven words
pub seven-length : (ws : List ℕ) → length ws ≡ 7 → length (record_of ws) ≡ 32
unfolding record_of
seven-length ws n = words-length (ws ++ (sum_of ws ∷ [])) ∙ omega (arith, n, length-append ws (sum_of ws ∷ []))

-- one word more
pub word-laid : (ws : List ℕ) (k at : ℕ) (old cur new : List ℕ) → k < length ws → at ≤ length old → cur ≡ laid (joined bytes_of (take k ws)) at old
    → new ≡ laid (bytes_of (get_or ws k 0)) (at + 4 * k) cur → new ≡ laid (joined bytes_of (take (k + 1) ws)) at old
word-laid ws k at old cur new l h i e =
    let p : at + 4 * k ≡ at + length (joined bytes_of (take k ws)) = omega (arith, words-length (take k ws), length-take k ws) in
    rw (take_more ws k 0 l, joined_snoc) (laid-after (joined bytes_of (take k ws)) (bytes_of (get_or ws k 0)) at (at + 4 * k) old cur new p h i e)

-- and the sum after all
pub sum-laid : (ws : List ℕ) (k at s : ℕ) (old cur new : List ℕ) → length ws ≡ 7 → length ws ≤ k → at ≤ length old → cur ≡ laid (joined bytes_of (take k ws)) at old
    → s ≡ sum_of ws → new ≡ laid (bytes_of s) (at + 28) cur → new ≡ laid (record_of ws) at old
unfolding record_of
sum-laid ws k at s old cur new n l h i q e =
    let p : at + 28 ≡ at + length (joined bytes_of ws) = omega (arith, words-length ws) in
    let j : cur ≡ laid (joined bytes_of ws) at old = i ∙ ap (λ xs. laid (joined bytes_of xs) at old) (take_all k ws l) in
    rw (← q, joined_snoc) (laid-after (joined bytes_of ws) (bytes_of s) at (at + 28) old cur new p h j e)

-- ---- a record at any place

module _ (ws : List ℕ) (at : ℕ) (f : List ℕ) where
  -- where it would end past the lent bytes
  pub record-refused : length f < at + 32 → (record_answer at f ≡ 29) × (record_written ws at f ≡ f)
  record-refused h = rw (lt-ltb (length f) (at + 32) h) (refl, refl)

  -- and where there is room
  pub record-done : at + 32 ≤ length f → (record_answer at f ≡ 0) × (record_written ws at f ≡ laid (record_of ws) at f)
  record-done h = rw (le-ltb (length f) (at + 32) h) (refl, refl)
