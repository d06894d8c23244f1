-- A list of two layers: its halves lie beside one another, and what is put into one half is found there and leaves the other alone. Assumes nothing.
use Prim.Native.Nat.{ℕ, ◌+◌, ◌-◌, ◌*◌, ◌%◌, ◌≤◌, ◌<◌}
use native.Mathlib.Nat.{mod-lt}
use native.Mathlib.Omega.{arith}
use mathlib.Core.List.{List, ◌++◌, append_assoc}
use mathlib.Core.Logic.{◌⊎◌, inl, inr}
use mathlib.Core.Path.{◌≡◌, sym, ap, ◌∙◌}
use lib.Dec.{lit<}
use lib.ListN.{length, take, drop, length-append, length-drop, take-append-drop}
use lib.Seq.{sets, sets-eq, length-take-le, take_at, drop_at, take-append-le, drop-append-le, drop-drop}
use Rattle.lists.proofs.Tests.{less-or-not}
use Rattle.grid.specs.declared.Block.{Block}
use Rattle.layers.specs.Memory.{plane, half, half_of, put_half}

-- ---- numbers stored in a row

module _ {A : Type 0} (l new : List A) (a : ℕ) (fits : a + length new ≤ length l) where
  -- are found where they were stored
  pub sets-part : (n : ℕ) → length new ≡ n → take n (drop a (sets l a new)) ≡ new
  sets-part n e =
      let rest = drop (a + length new) l in
      ap (λ (s : List A). take n (drop a s)) (sets-eq new l a fits ∙ append_assoc (take a l) new rest)
      ∙ ap (take n) (drop_at (take a l) (new ++ rest) a (length-take-le a l (omega arith)))
      ∙ take_at new rest n e

  -- and leave what lies before them, and what comes right after
  pub sets-before : (b n : ℕ) → b + n ≤ a → take n (drop b (sets l a new)) ≡ take n (drop b l)
  sets-before b n h =
      let front = length-take-le a l (omega arith) in
      let part : (rest : List A) → take n (drop b (take a l ++ rest)) ≡ take n (drop b (take a l)) =
      λ rest. ap (take n) (drop-append-le b (take a l) rest (omega arith)) ∙ take-append-le n (drop b (take a l)) rest (omega (arith, length-drop b (take a l))) in
      ap (λ (s : List A). take n (drop b s)) (sets-eq new l a fits ∙ append_assoc (take a l) new (drop (a + length new) l))
      ∙ part (new ++ drop (a + length new) l)
      ∙ sym (part (drop a l))
      ∙ ap (λ (s : List A). take n (drop b s)) (take-append-drop a l)

  pub sets-after : (b : ℕ) → b ≡ a + length new → drop b (sets l a new) ≡ drop b l
  sets-after b e =
      ap (drop b) (sets-eq new l a fits)
      ∙ drop_at (take a l ++ new) (drop (a + length new) l) b (length-append (take a l) new ∙ omega (arith, length-take-le a l (omega arith)))
      ∙ ap (λ (n : ℕ). drop n l) (sym e)

  -- a part that is put back is stored in a row
  pub part-stored : (e : ℕ) → e ≡ a + length new → take a l ++ (new ++ drop (e - a) (drop a l)) ≡ sets l a new
  part-stored e h =
      let n : a + (e - a) ≡ a + length new = omega arith in
      ap (λ (s : List A). take a l ++ (new ++ s)) (drop-drop (e - a) a l ∙ ap (λ (m : ℕ). drop m l) n)
      ∙ sym (append_assoc (take a l) new (drop (a + length new) l))
      ∙ sym (sets-eq new l a fits)

-- from the first place on
pub front-stored : {A : Type 0} (l new : List A) → length new ≤ length l → (n : ℕ) → n ≡ length new → new ++ drop n l ≡ sets l 0 new
front-stored l new fits n e = ap (λ (m : ℕ). new ++ drop m l) (omega arith) ∙ sym (sets-eq new l 0 (omega arith))

pub sets-front : {A : Type 0} (l new : List A) → length new ≤ length l → (n : ℕ) → length new ≡ n → take n (sets l 0 new) ≡ new
sets-front l new h n e = sets-part l new 0 (omega arith) n e

-- ---- the halves

-- of two layers in a row one stands first and the other after it
pub data Sides (k : Block) (t : ℕ) : Type 0 where
  lower : half k t ≡ 0 → half k (t + 1) ≡ plane k → Sides k t
  upper : half k t ≡ plane k → half k (t + 1) ≡ 0 → Sides k t

pub sides : (k : Block) (t : ℕ) → Sides k t
sides k t = go (less-or-not (t % 2) 1)
  where
    go : (t % 2 < 1) ⊎ (1 ≤ t % 2) → Sides k t
    go (inl h) =
        let here : t % 2 ≡ 0 = omega arith in
        let there : (t + 1) % 2 ≡ 1 = omega arith in
        lower (ap (λ (n : ℕ). plane k * n) here ∙ omega arith) (ap (λ (n : ℕ). plane k * n) there ∙ omega arith)
    go (inr h) =
        let here : t % 2 ≡ 1 = omega (arith, mod-lt t (lit< {m = 0} {n = 2} tt)) in
        let there : (t + 1) % 2 ≡ 0 = omega arith in
        upper (ap (λ (n : ℕ). plane k * n) here ∙ omega arith) (ap (λ (n : ℕ). plane k * n) there ∙ omega arith)

pub half-ends : (k : Block) (t : ℕ) → half k t + plane k ≤ 2 * plane k
half-ends k t = go (sides k t)
  where
    go : Sides k t → half k t + plane k ≤ 2 * plane k
    go (lower h _) = omega arith
    go (upper h _) = omega arith

-- two layers on is the same half
pub half-again : (k : Block) (t : ℕ) → half k (t + 2) ≡ half k t
half-again k t = ap (λ (n : ℕ). plane k * n) (let e : (t + 2) % 2 ≡ t % 2 = omega arith in e)

module _ {A : Type 0} (k : Block) (t : ℕ) (l : List A) (long : 2 * plane k ≤ length l) where
  pub half_length : length (half_of k t l) ≡ plane k
  half_length = length-take-le (plane k) (drop (half k t) l) (omega (arith, half-ends k t, length-drop (half k t) l))

  module _ (new : List A) (e : length new ≡ plane k) where
    fits : half k t + length new ≤ length l
    fits = omega (arith, half-ends k t)

    pub half-here : half_of k t (put_half k t new l) ≡ new
    half-here = sets-part l new (half k t) fits (plane k) e

    pub half-apart : half_of k (t + 1) (put_half k t new l) ≡ half_of k (t + 1) l
    half-apart = go (sides k t)
      where
        go : Sides k t → half_of k (t + 1) (put_half k t new l) ≡ half_of k (t + 1) l
        go (lower h u) = ap (take (plane k)) (sets-after l new (half k t) fits (half k (t + 1)) (omega arith))
        go (upper h u) = sets-before l new (half k t) fits (half k (t + 1)) (plane k) (omega arith)
