-- The level of a column by the words: from its highest point below zero, and -1.0 where it has none. Nothing here goes from the lowest point up, as the
-- definition does. Definitions only. Assumes nothing.
use Rattle.std.specs.Prelude.{ℕ, ◌+◌, ◌≤◌, ◌<◌, cond, ◌⊎◌, ◌≡◌, T, eqb, Float}
use Rattle.rounding.specs.Values.{Between}
use Rattle.rules.specs.Cell.{◌⊕◌, float, negative, fraction}
use Rattle.levels.specs.Column.{no_level}

-- z is the highest of the points from low to high that are below zero
pub record Highest (d : ℕ → Float) (low high z : ℕ) : Type 0 where
  pub from : low ≤ z
  pub to : z ≤ high
  pub negative-here : T (negative (d z))
  pub none_above : (k : ℕ) → z < k → k ≤ high → T (negative (d k)) → ⊥

-- none of them is
abbrev pub NoneBelow : (ℕ → Float) → ℕ → ℕ → Type 0
NoneBelow d low high = (k : ℕ) → low ≤ k → k ≤ high → T (negative (d k)) → ⊥

-- the level that the highest point tells: its z at the top of the box, and else z + f, rounded once
abbrev pub told_from : (ℕ → Float) → ℕ → ℕ → Float
told_from d high z = cond (eqb z high) (float z) (float z ⊕ fraction (d z) (d (z + 1)))

-- a level is told from a point: it is that point's, and as a fraction it is from z to z + 1
pub record ToldFrom (d : ℕ → Float) (low high : ℕ) (level : Float) : Type 0 where
  pub z : ℕ
  pub highest : Highest d low high z
  pub same : level ≡ told_from d high z
  pub within : Between z (z + 1) level

-- or none is below zero, and it is -1.0
pub record NoneTold (d : ℕ → Float) (low high : ℕ) (level : Float) : Type 0 where
  pub none_below : NoneBelow d low high
  pub same : level ≡ no_level

abbrev pub Told : (ℕ → Float) → ℕ → ℕ → Float → Type 0
Told d low high level = NoneTold d low high level ⊎ ToldFrom d low high level
