-- The parts of a list that was made of parts of one length, and a record's words and bytes: the words that were put into a record are read from it,
-- and 32 bytes are the record of their words. Assumes nothing.
use Prim.Native.Nat.{ℕ, zero, suc, ◌+◌, ◌*◌, ◌/◌, ◌%◌, ◌^◌, ◌≤◌, ◌<◌}
use native.Mathlib.Nat.{add-zero, add-suc, add_assoc, mul-zero, mul-suc, mul-le-mul_left, div-div-eq-div-mul, div-add-mod, mod-eq_of_lt, le_of_eq}
use native.Mathlib.Numerals.{add-one, add-two, add-three}
use native.Mathlib.Omega.{arith}
use mathlib.Core.Path.{◌≡◌, refl, sym, ap, ◌∙◌}
use mathlib.Core.Logic.{⊎_elim}
use mathlib.Core.List.{List, [], ◌∷◌, ◌++◌, append_assoc, append-nil}
use lib.ListN.{length, get_or, take, drop, length-drop}
use lib.Seq.{take-append-le, drop-append-le, drop-append-add, take_all, take-add, drop-drop, drop-cons, get_or-take, get_or-drop, take-length}
use Rattle.lists.specs.Lists.{joined}
use Rattle.mesh_file.specs.Record.{bytes_of, word_at, sum_of, record_of, each}
use Rattle.mesh_file.specs.Reading.{Bytes}
use Rattle.mesh_record.proofs.Laying.{each-length}
use Rattle.mesh_file.proofs.History.{last-or-before}

-- ---- parts of lists

module _ {A : Type 0} where
  abbrev pub part : ℕ → ℕ → List A → List A
  part w p l = take w (drop p l)

  pub part_left : (a x : List A) (w p : ℕ) → p + w ≤ length a → part w p (a ++ x) ≡ part w p a
  part_left a x w p h =
      let h₁ : p ≤ length a = omega arith in
      let h₂ : w ≤ length (drop p a) = rw length-drop (omega arith) in
      rw (drop-append-le p a x h₁) (take-append-le w (drop p a) x h₂)

  pub part_right : (a x : List A) (w p q : ℕ) → q ≡ length a + p → part w q (a ++ x) ≡ part w p x
  part_right a x w p q e = rw (e, drop-append-add a x p) refl

  pub each_part : (g : ℕ → List A) (w : ℕ) → ((k : ℕ) → length (g k) ≡ w) → (n k : ℕ) → k < n → part w (w * k) (each g n) ≡ g k
  unfolding each
  each_part g w e zero k h = absurd (omega arith)
  each_part g w e (suc n) k h = ⊎_elim (before (each_part g w e n k)) here (last-or-before k n h)
    where
      before : (k < n → part w (w * k) (each g n) ≡ g k) → k < n → part w (w * k) (each g n ++ g n) ≡ g k
      before ih l =
          let b : w * k + w ≤ length (each g n) = rw (each-length g w e n) (rw (← mul-suc) (mul-le-mul_left w l)) in
          part_left (each g n) (g n) w (w * k) b ∙ ih l

      here : k ≡ n → part w (w * k) (each g n ++ g n) ≡ g k
      here q =
          rw q (part_right (each g n) (g n) w 0 (w * n) (sym (add-zero (length (each g n)) ∙ each-length g w e n)) ∙ take_all w (g n) (le_of_eq (e n)))

  -- a list of so many parts is those parts
  pub each-of-parts : (l : List A) (w n : ℕ) → length l ≡ w * n → each (λ k. part w (w * k) l) n ≡ l
  unfolding each
  each-of-parts l w n h = go n ∙ rw (← h) (take-length l)
    where
      go : (m : ℕ) → each (λ k. part w (w * k) l) m ≡ take (w * m) l
      go zero = rw mul-zero refl
      go (suc m) = rw (mul-suc, take-add) (ap (λ (x : List A). x ++ part w (w * m) l) (go m))

  pub each_same : (g h : ℕ → List A) (n : ℕ) → ((k : ℕ) → k < n → g k ≡ h k) → each g n ≡ each h n
  unfolding each
  each_same g h zero e = refl
  each_same g h (suc n) e = rw (each_same g h n (λ k l. e k (omega arith)), e n (omega arith)) refl

  pub each-split : (g : ℕ → List A) (m n : ℕ) → each g (m + n) ≡ each g m ++ each (λ k. g (m + k)) n
  unfolding each
  each-split g m zero = rw (add-zero, append-nil) refl
  each-split g m (suc n) = rw (add-suc, each-split g m n) (append_assoc (each g m) (each (λ k. g (m + k)) n) (g (m + n)))

-- ---- words

pub word_in : (f : List ℕ) (at j : ℕ) → j + 4 ≤ 32 → word_at f (at + j) ≡ word_at (part 32 at f) j
unfolding word_at
word_in f at j h =
    let b : (i : ℕ) → i < 32 → get_or (part 32 at f) i 0 ≡ get_or f (at + i) 0 = λ i l. get_or-take 32 (drop at f) i 0 l ∙ get_or-drop at f i 0 in
    rw (b j (omega arith), b (j + 1) (omega arith), b (j + 2) (omega arith), b (j + 3) (omega arith)) (simp add_assoc)

digits : (w x y z a b c d : ℕ) → w ≡ 256 * x + a → x ≡ 256 * y + b → y ≡ 256 * z + c → z ≡ d → a + 256 * b + 65536 * c + 16777216 * d ≡ w
digits w x y z a b c d p q r s = omega arith

pub word-of-bytes : (w : ℕ) → w < 2 ^ 32 → w % 256 + 256 * (w / 256 % 256) + 65536 * (w / 65536 % 256) + 16777216 * (w / 16777216 % 256) ≡ w
word-of-bytes w h =
    let q : w / 256 / 256 ≡ w / 65536 = div-div-eq-div-mul w 256 256 in
    let r : w / 65536 / 256 ≡ w / 16777216 = div-div-eq-div-mul w 65536 256 in
    let z : w / 16777216 < 256 = omega arith in
    digits w (w / 256) (w / 65536) (w / 16777216) (w % 256) (w / 256 % 256) (w / 65536 % 256) (w / 16777216 % 256)
    (sym (div-add-mod w 256))
    (sym (ap (λ (x : ℕ). 256 * x + w / 256 % 256) (sym q) ∙ div-add-mod (w / 256) 256))
    (sym (ap (λ (x : ℕ). 256 * x + w / 65536 % 256) (sym r) ∙ div-add-mod (w / 65536) 256))
    (sym (mod-eq_of_lt z))

pub total-below : (ws : List ℕ) → sum_of ws < 2 ^ 32
unfolding sum_of
total-below ws = omega arith

-- the words of a record
module _ (k a b c d e g : ℕ) where
  abbrev rec : List ℕ
  rec = record_of (k ∷ a ∷ b ∷ c ∷ d ∷ e ∷ g ∷ [])

  pub word-0 : k < 2 ^ 32 → word_at rec 0 ≡ k
  unfolding record_of joined bytes_of word_at
  word-0 h = word-of-bytes k h

  pub word-4 : a < 2 ^ 32 → word_at rec 4 ≡ a
  unfolding record_of joined bytes_of word_at
  word-4 h = word-of-bytes a h

  pub word-8 : b < 2 ^ 32 → word_at rec 8 ≡ b
  unfolding record_of joined bytes_of word_at
  word-8 h = word-of-bytes b h

  pub word-12 : c < 2 ^ 32 → word_at rec 12 ≡ c
  unfolding record_of joined bytes_of word_at
  word-12 h = word-of-bytes c h

  pub word-16 : d < 2 ^ 32 → word_at rec 16 ≡ d
  unfolding record_of joined bytes_of word_at
  word-16 h = word-of-bytes d h

  pub word-20 : e < 2 ^ 32 → word_at rec 20 ≡ e
  unfolding record_of joined bytes_of word_at
  word-20 h = word-of-bytes e h

  pub word-24 : g < 2 ^ 32 → word_at rec 24 ≡ g
  unfolding record_of joined bytes_of word_at
  word-24 h = word-of-bytes g h

  pub word-28 : word_at rec 28 ≡ sum_of (k ∷ a ∷ b ∷ c ∷ d ∷ e ∷ g ∷ [])
  unfolding record_of joined bytes_of word_at
  word-28 = word-of-bytes (sum_of (k ∷ a ∷ b ∷ c ∷ d ∷ e ∷ g ∷ [])) (total-below (k ∷ a ∷ b ∷ c ∷ d ∷ e ∷ g ∷ []))

-- ---- bytes

byte-digits : (a b c d : ℕ) → a < 256 → b < 256 → c < 256 → d < 256 → (x : ℕ) → x ≡ a + 256 * b + 65536 * c + 16777216 * d
    → (x % 256 ≡ a) × (x / 256 % 256 ≡ b) × (x / 65536 % 256 ≡ c) × (x / 16777216 % 256 ≡ d)
byte-digits a b c d ha hb hc hd x e = (omega arith, omega arith, omega arith, omega arith)

pub word_below : (f : List ℕ) → Bytes f → (at : ℕ) → at + 4 ≤ length f → word_at f at < 2 ^ 32
unfolding word_at
word_below f h at l = omega (arith, h at (omega arith), h (at + 1) (omega arith), h (at + 2) (omega arith), h (at + 3) (omega arith))

-- four bytes are those of their word
pub bytes-of-word : (f : List ℕ) → Bytes f → (at : ℕ) → at + 4 ≤ length f → bytes_of (word_at f at) ≡ part 4 at f
unfolding bytes_of word_at
bytes-of-word f h at l =
    let p = byte-digits (get_or f at 0) (get_or f (at + 1) 0) (get_or f (at + 2) 0) (get_or f (at + 3) 0) (h at (omega arith)) (h (at + 1) (omega arith)) (h (at + 2) (omega arith))
    (h (at + 3) (omega arith)) _ refl in
    let l₀ : at < length f = omega arith in
    let l₁ : suc at < length f = omega arith in
    let l₂ : suc (suc at) < length f = omega arith in
    let l₃ : suc (suc (suc at)) < length f = omega arith in
    rw (p.0, p.1, p.2, p.3, add-one, add-two, add-three)
    (sym (rw (drop-cons f at 0 l₀, drop-cons f (suc at) 0 l₁, drop-cons f (suc (suc at)) 0 l₂, drop-cons f (suc (suc (suc at))) 0 l₃) refl))

word-off : (f : List ℕ) → Bytes f → (r p q : ℕ) → q ≡ p + 4 → p + 4 ≤ length f → part (4 + r) p f ≡ bytes_of (word_at f p) ++ part r q f
word-off f h r p q e l = take-add 4 r (drop p f) ∙ rw (drop-drop 4 p f, ← e) (ap (λ (x : List ℕ). x ++ part r q f) (sym (bytes-of-word f h p l)))

-- 32 bytes whose last word is the sum of the others are the record of their words
pub record-of-bytes : (f : List ℕ) → Bytes f → (at : ℕ) → at + 32 ≤ length f → (k a b c d e g : ℕ) → word_at f at ≡ k → word_at f (at + 4) ≡ a → word_at f (at + 8) ≡ b → word_at f
    (at + 12) ≡ c
    → word_at f (at + 16) ≡ d → word_at f (at + 20) ≡ e → word_at f (at + 24) ≡ g → word_at f (at + 28) ≡ sum_of (k ∷ a ∷ b ∷ c ∷ d ∷ e ∷ g ∷ []) → part 32 at f ≡ record_of
    (k ∷ a ∷ b ∷ c ∷ d ∷ e ∷ g ∷ [])
unfolding record_of joined
record-of-bytes f h at l k a b c d e g p₀ p₁ p₂ p₃ p₄ p₅ p₆ p₇ =
    let q₀ = word-off f h 28 at (at + 4) refl (omega arith) in
    let q₁ = word-off f h 24 (at + 4) (at + 8) (omega arith) (omega arith) in
    let q₂ = word-off f h 20 (at + 8) (at + 12) (omega arith) (omega arith) in
    let q₃ = word-off f h 16 (at + 12) (at + 16) (omega arith) (omega arith) in
    let q₄ = word-off f h 12 (at + 16) (at + 20) (omega arith) (omega arith) in
    let q₅ = word-off f h 8 (at + 20) (at + 24) (omega arith) (omega arith) in
    let q₆ = word-off f h 4 (at + 24) (at + 28) (omega arith) (omega arith) in
    let q₇ = word-off f h 0 (at + 28) (at + 32) (omega arith) (omega arith) in
    q₀ ∙ rw (q₁, q₂, q₃, q₄, q₅, q₆, q₇) (rw (p₀, p₁, p₂, p₃, p₄, p₅, p₆, p₇) refl)

-- ---- the words that a part of a file has, where that part is a record

pub record Holds (f : List ℕ) (at k a b c d e g : ℕ) : Type 0 where
  pub w₀ : word_at f at ≡ k
  pub w₁ : word_at f (at + 4) ≡ a
  pub w₂ : word_at f (at + 8) ≡ b
  pub w₃ : word_at f (at + 12) ≡ c
  pub w₄ : word_at f (at + 16) ≡ d
  pub w₅ : word_at f (at + 20) ≡ e
  pub w₆ : word_at f (at + 24) ≡ g
  pub w₇ : word_at f (at + 28) ≡ sum_of (k ∷ a ∷ b ∷ c ∷ d ∷ e ∷ g ∷ [])

pub holds : (f : List ℕ) (at k a b c d e g : ℕ) → part 32 at f ≡ record_of (k ∷ a ∷ b ∷ c ∷ d ∷ e ∷ g ∷ []) → k < 2 ^ 32 → a < 2 ^ 32 → b < 2 ^ 32 → c < 2 ^ 32 → d < 2 ^ 32 → e <
    2 ^ 32 → g < 2 ^ 32
    → Holds f at k a b c d e g
holds f at k a b c d e g p hk ha hb hc hd he hg =
    let at-0 : word_at f at ≡ word_at (part 32 at f) 0 = ap (word_at f) (sym (add-zero at)) ∙ word_in f at 0 (omega arith) in
    record {
      w₀ = at-0 ∙ (ap (λ (x : List ℕ). word_at x 0) p ∙ word-0 k a b c d e g hk);
      w₁ = word_in f at 4 (omega arith) ∙ (ap (λ (x : List ℕ). word_at x 4) p ∙ word-4 k a b c d e g ha);
      w₂ = word_in f at 8 (omega arith) ∙ (ap (λ (x : List ℕ). word_at x 8) p ∙ word-8 k a b c d e g hb);
      w₃ = word_in f at 12 (omega arith) ∙ (ap (λ (x : List ℕ). word_at x 12) p ∙ word-12 k a b c d e g hc);
      w₄ = word_in f at 16 (omega arith) ∙ (ap (λ (x : List ℕ). word_at x 16) p ∙ word-16 k a b c d e g hd);
      w₅ = word_in f at 20 (omega arith) ∙ (ap (λ (x : List ℕ). word_at x 20) p ∙ word-20 k a b c d e g he);
      w₆ = word_in f at 24 (omega arith) ∙ (ap (λ (x : List ℕ). word_at x 24) p ∙ word-24 k a b c d e g hg);
      w₇ = word_in f at 28 (omega arith) ∙ (ap (λ (x : List ℕ). word_at x 28) p ∙ word-28 k a b c d e g);
    }

-- ---- three numbers of a flat list

module _ {A : Type 0} (z : A) where
  pub three-at : (l : List A) (at : ℕ) → at + 3 ≤ length l → part 3 at l ≡ get_or l at z ∷ get_or l (at + 1) z ∷ get_or l (at + 2) z ∷ []
  three-at l at h =
      let l₀ : at < length l = omega arith in
      let l₁ : suc at < length l = omega arith in
      let l₂ : suc (suc at) < length l = omega arith in
      rw (add-one, add-two, drop-cons l at z l₀, drop-cons l (suc at) z l₁, drop-cons l (suc (suc at)) z l₂) refl

  -- the j-th number of the k-th part
  pub each_at : (g : ℕ → List A) (w : ℕ) → ((k : ℕ) → length (g k) ≡ w) → (n k j : ℕ) → k < n → j < w → get_or (each g n) (w * k + j) z ≡ get_or (g k) j z
  each_at g w e n k j h l = sym (get_or-take w (drop (w * k) (each g n)) j z l ∙ get_or-drop (w * k) (each g n) j z) ∙ ap (λ (x : List A). get_or x j z) (each_part g w e n k h)
