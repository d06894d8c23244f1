-- Blocks by twelve words each: they are those of the words, their refusals are, and what is known where nothing is refused: their corners all lie near.
-- Assumes nothing.
use Prim.Native.Nat.{ℕ, zero, suc, ◌+◌, ◌-◌, ◌*◌, ◌%◌, ◌≤◌, ◌<◌}
use native.Mathlib.Omega.{arith}
use mathlib.Core.Bool.{Bool, true, false, not, ◌||◌, cond}
use mathlib.Core.List.{List, [], ◌∷◌, ◌++◌, map}
use mathlib.Core.Logic.{◌⊎◌, inl, inr}
use mathlib.Core.Path.{◌≡◌, refl, sym, ap, ap₂, ◌∙◌}
use borrow.Author.Tests.{eq-eqb, ne_eqb, eqb-true}
use lib.Dec.{T, ltb, eqb, nltb→le}
use lib.ListN.{length, get_or, take, drop}
use Rattle.std.specs.Simd.{first_chunks}
use Rattle.std.proofs.lemmas.List.{get_or-take, get_or-drop, get_or_past}
use Rattle.std.proofs.Math.Seq.{take-suc, take-length}
use mathlib.Core.List.{map-append}
use Rattle.lists.specs.Lists.{up_to}
use Rattle.lists.proofs.Tests.{less-or-not, nor-left, nor-right}
use Rattle.lists.proofs.Runs.{up_to-last, up_to-none}
use Rattle.rules.specs.Grid.{Axis, axis_x, axis_y, axis_z}
use Rattle.rules.specs.Cutting.{Piece}
use Rattle.plan.specs.declared.Block.{Block}
use Rattle.plan.specs.Plan.{piece, block, bad_side, bad_piece, bad_block, plan_answer}
use Rattle.plan.specs.Region.{owned_of}
use Rattle.plan.specs.Words.{block_of}
use Rattle.witness.specs.Steps.{far, region_of, block_at, piece_at}
use Rattle.witness.specs.Witness.{block_in, piece_in, count_in, pieces_in, refusal}
use Rattle.witness.proofs.Walk.{Bounded}

-- ---- the blocks of the words

length-chunks : (n : ℕ) (words : List ℕ) → length (first_chunks 12 n words) ≡ n
length-chunks zero words = refl
length-chunks (suc n) words = ap suc (length-chunks n (drop 12 words))

within : (n : ℕ) (words : List ℕ) (i k : ℕ) → i < n → k < 12 → get_or (get_or (first_chunks 12 n words) i []) k 0 ≡ get_or words (12 * i + k) 0
within zero words i k h l = absurd (omega arith)
within (suc n) words zero k h l = get_or-take 12 words k 0 l ∙ ap (λ (j : ℕ). get_or words j 0) (omega arith)
within (suc n) words (suc i) k h l =
    within n (drop 12 words) i k (omega arith) l ∙ get_or-drop 12 words (12 * i + k) 0 ∙ ap (λ (j : ℕ). get_or words j 0) (omega arith)

abbrev pub chunks : List ℕ → List (List ℕ)
chunks words = first_chunks 12 (count_in words) words

module _ (words : List ℕ) (twelves : length words % 12 ≡ 0) where
  word-at : (i k : ℕ) → k < 12 → get_or (get_or (chunks words) i []) k 0 ≡ get_or words (12 * i + k) 0
  word-at i k h = go (less-or-not i (count_in words))
    where
      go : (i < count_in words) ⊎ (count_in words ≤ i) → get_or (get_or (chunks words) i []) k 0 ≡ get_or words (12 * i + k) 0
      go (inl l) = within (count_in words) words i k l h
      go (inr l) =
          ap (λ (c : List ℕ). get_or c k 0) (get_or_past (chunks words) i [] (omega (arith, l, length-chunks (count_in words) words)))
          ∙ sym (get_or_past words (12 * i + k) 0 (omega (arith, l, twelves)))

  same-block : (i : ℕ) → block_at (chunks words) i ≡ block_in words i
  same-block i =
      λ j. block (w3 j) (w4 j) (w5 j) (w6 j) (w7 j) (w8 j) (not (eqb (w9 j) 0)) (not (eqb (w10 j) 0)) (not (eqb (w11 j) 0))
    where
      w3 : get_or (get_or (chunks words) i []) 3 0 ≡ get_or words (12 * i + 3) 0
      w3 = word-at i 3 (omega arith)

      w4 : get_or (get_or (chunks words) i []) 4 0 ≡ get_or words (12 * i + 4) 0
      w4 = word-at i 4 (omega arith)

      w5 : get_or (get_or (chunks words) i []) 5 0 ≡ get_or words (12 * i + 5) 0
      w5 = word-at i 5 (omega arith)

      w6 : get_or (get_or (chunks words) i []) 6 0 ≡ get_or words (12 * i + 6) 0
      w6 = word-at i 6 (omega arith)

      w7 : get_or (get_or (chunks words) i []) 7 0 ≡ get_or words (12 * i + 7) 0
      w7 = word-at i 7 (omega arith)

      w8 : get_or (get_or (chunks words) i []) 8 0 ≡ get_or words (12 * i + 8) 0
      w8 = word-at i 8 (omega arith)

      w9 : get_or (get_or (chunks words) i []) 9 0 ≡ get_or words (12 * i + 9) 0
      w9 = word-at i 9 (omega arith)

      w10 : get_or (get_or (chunks words) i []) 10 0 ≡ get_or words (12 * i + 10) 0
      w10 = word-at i 10 (omega arith)

      w11 : get_or (get_or (chunks words) i []) 11 0 ≡ get_or words (12 * i + 11) 0
      w11 = word-at i 11 (omega arith)

  pub same-pieces : piece_at (chunks words) ≡ piece_in words
  same-pieces = λ j i. piece (same-block i j)

  pub count-chunks : length (chunks words) ≡ count_in words
  count-chunks = length-chunks (count_in words) words

  -- the first n of a list, by their numbers
  by_numbers : {A B : Type 0} (f : ℕ → B) (g : A → B) (d : A) (l : List A) (n : ℕ) → n ≤ length l → ((i : ℕ) → i < n → f i ≡ g (get_or l i d)) → map f (up_to 0 n) ≡ map g (take n l)
  by_numbers f g d l zero h e = rw (up_to-none 0 0 (omega arith)) refl
  by_numbers f g d l (suc n) h e =
      ap (map f) (up_to-last 0 n (omega arith)) ∙ map-append f (up_to 0 n) (n ∷ [])
      ∙ ap₂ ◌++◌ (by_numbers f g d l n (omega arith) (λ i k. e i (omega arith))) (ap (λ b. b ∷ []) (e n (omega arith)))
      ∙ sym (ap (map g) (take-suc l n d (omega arith)) ∙ map-append g (take n l) (get_or l n d ∷ []))

  abbrev pub piece_of : List ℕ → Piece
  piece_of c = piece (block_of c)

  pieces-chunks : pieces_in words ≡ map piece_of (chunks words)
  pieces-chunks =
      by_numbers (piece_in words) piece_of [] (chunks words) (count_in words) (omega (arith, count-chunks)) (λ i h. sym (ap piece (same-block i)))
      ∙ ap (λ (n : ℕ). map piece_of (take n (chunks words))) (sym count-chunks) ∙ ap (map piece_of) (take-length (chunks words))

  pub number-in : (w : Piece) → plan_answer (map piece_of (chunks words)) w ≡ refusal words w
  unfolding refusal
  number-in w = sym (rw (eq-eqb (length words % 12) 0 twelves) (ap (λ (l : List Piece). plan_answer l w) pieces-chunks))

pub number-40 : (words : List ℕ) (w : Piece) → (length words % 12 ≡ 0 → ⊥) → 40 ≡ refusal words w
unfolding refusal
number-40 words w h = sym (rw (ne_eqb (length words % 12) 0 h) refl)

-- nothing is refused: the words are in twelves
pub in-twelves : (words : List ℕ) (w : Piece) → 0 ≡ refusal words w → length words % 12 ≡ 0
unfolding refusal
in-twelves words w e = go (eqb (length words % 12) 0) refl e
  where
    go : (t : Bool) → eqb (length words % 12) 0 ≡ t → ◌≡◌ {A = ℕ} 0 (cond t (plan_answer (pieces_in words) w) 40) → length words % 12 ≡ 0
    go true f e = eqb-true (length words % 12) 0 f
    go false f e = absurd (omega (arith, e))

-- ---- no corner of a block that is not refused lies far out

good-high : (low high : ℕ) → T (not (bad_side low high)) → high ≤ 16777216
good-high low high t = nltb→le 16777216 high (nor-right (ltb 16777216 low) (ltb 16777216 high) (nor-right (ltb high low) (ltb 16777216 low || ltb 16777216 high) t))

pub good-bounded : (a : Axis) (b : Block) → T (not (bad_block b)) → Bounded (region_of a b)
unfolding bad_piece region_of owned_of
good-bounded a b t = go a
  where
    X : Bool
    X = bad_side b.min_x b.max_x

    Y : Bool
    Y = bad_side b.min_y b.max_y

    Z : Bool
    Z = bad_side b.min_z b.max_z

    hx : b.max_x ≤ 16777216
    hx = good-high b.min_x b.max_x (nor-left X (Y || Z) t)

    hy : b.max_y ≤ 16777216
    hy = good-high b.min_y b.max_y (nor-left Y Z (nor-right X (Y || Z) t))

    hz : b.max_z ≤ 16777216
    hz = good-high b.min_z b.max_z (nor-right Y Z (nor-right X (Y || Z) t))

    short : (f : Bool) (h : ℕ) → h ≤ 16777216 → cond f h (h - 1) ≤ far
    short true h l = omega arith
    short false h l = omega arith

    go : (a : Axis) → Bounded (region_of a b)
    go axis_x = (short b.max_plane_x b.max_x hx, short true b.max_y hy, short true b.max_z hz)
    go axis_y = (short true b.max_x hx, short b.max_plane_y b.max_y hy, short true b.max_z hz)
    go axis_z = (short true b.max_x hx, short true b.max_y hy, short b.max_plane_z b.max_z hz)
