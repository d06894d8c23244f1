-- The ends of the cube's edges where several edges in a row have the same: the rules' list computed there. Assumes nothing.
use Rattle.std.proofs.Common.{◌≡◌, ℕ, zero, suc, ◌+◌, ◌<◌, ◌≤◌, Bool, ◌&&◌, T, eqb, ltb, ◌⊎◌, sym, ap, ◌∙◌, inl, inr, arith, eqb→eq, ltb→lt}
use lib.Ieee.Fits.{and_l, and_r}
use Rattle.rules.specs.Cell.{CubeEdge}
use Rattle.lists.proofs.Tests.{less-or-not}
use Rattle.cube.specs.AsRules.{edge_at}

-- whether the n edges from `low` on have the corner r at that end
abbrev alike : (CubeEdge → ℕ) → ℕ → ℕ → ℕ → Bool
alike end r low zero = ltb r 8
alike end r low (suc n) = eqb r (end (edge_at (low + n))) && alike end r low n

pub ends-alike : (end : CubeEdge → ℕ) (r low n : ℕ) → T (alike end r low n) → (k : ℕ) → low ≤ k → k < low + n → (r ≡ end (edge_at k)) × (r < 8)
ends-alike end r low zero t k h i = absurd (omega arith)
ends-alike end r low (suc n) t k h i = at (less-or-not k (low + n)) (ends-alike end r low n rest k h)
  where
    rest : T (alike end r low n)
    rest = and_r (eqb r (end (edge_at (low + n)))) (alike end r low n) t

    corner : (m : ℕ) → T (alike end r low m) → r < 8
    corner zero s = ltb→lt r 8 s
    corner (suc m) s = corner m (and_r (eqb r (end (edge_at (low + m)))) (alike end r low m) s)

    last : k ≡ low + n → (r ≡ end (edge_at k)) × (r < 8)
    last e = (eqb→eq r (end (edge_at (low + n))) (and_l (eqb r (end (edge_at (low + n)))) (alike end r low n) t) ∙ ap (λ (j : ℕ). end (edge_at j)) (sym e), corner n rest)

    at : (k < low + n) ⊎ (low + n ≤ k) → (k < low + n → (r ≡ end (edge_at k)) × (r < 8)) → (r ≡ end (edge_at k)) × (r < 8)
    at (inl j) before = before j
    at (inr j) before = last (omega arith)

-- an edge by its number
pub end-at : (end : CubeEdge → ℕ) (r n : ℕ) → T (alike end r n 1) → (k : ℕ) → k ≡ n → (r ≡ end (edge_at k)) × (r < 8)
end-at end r n t k e = ends-alike end r n 1 t k (omega arith) (omega arith)

-- ---- what an arm knows of the arms before it

pub neither : {A B : Type 0} → (A ⊎ B → ⊥) → (A → ⊥) × (B → ⊥)
neither f = (λ a. f (inl a), λ b. f (inr b))

pub past : (n k : ℕ) → n ≤ k → (k ≡ n → ⊥) → n + 1 ≤ k
past n k h i = omega arith
