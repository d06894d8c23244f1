-- Lists of triangles that differ only in ways that matter little or plainly: every triangle turned round, some turned in place, the triangles
-- in another order. Definitions only. Assumes nothing.
use Rattle.std.specs.Prelude.{ℕ, List, [], ◌∷◌}

-- every triangle turned round: abc to acb
unfoldable pub turned_round : List ℕ → List ℕ
turned_round [] = []
turned_round (i ∷ []) = i ∷ []
turned_round (i ∷ j ∷ []) = i ∷ j ∷ []
turned_round (i ∷ j ∷ k ∷ is) = i ∷ k ∷ j ∷ turned_round is

-- some triangles turned in place, abc to bca, and the others kept
pub data Rolled : List ℕ → List ℕ → Type 0 where
  same : {s : List ℕ} → Rolled s s
  kept : {i j k : ℕ} {s t : List ℕ} → Rolled s t → Rolled (i ∷ j ∷ k ∷ s) (i ∷ j ∷ k ∷ t)
  rolled : {i j k : ℕ} {s t : List ℕ} → Rolled s t → Rolled (i ∷ j ∷ k ∷ s) (j ∷ k ∷ i ∷ t)

-- the three numbers of one triangle
pub record Triangle : Type 0 where
  pub first : ℕ
  pub second : ℕ
  pub third : ℕ

unfoldable pub triangles : List ℕ → List Triangle
triangles [] = []
triangles (i ∷ []) = []
triangles (i ∷ j ∷ []) = []
triangles (i ∷ j ∷ k ∷ is) = record { first = i; second = j; third = k } ∷ triangles is
