-- A whole mesh is lent from vertex 0 on. Assumes nothing.
use Prim.Native.Nat.{ℕ, ◌-◌}
use native.Mathlib.Omega.{arith}
use mathlib.Core.Path.{◌≡◌}
use mathlib.Core.List.{List}
use lib.Ieee.{Float}
use Rattle.volume.specs.declared.Corner.{Corner}
use Rattle.volume.specs.Volume.{corner_at}
use Rattle.weigh.specs.Sums.{corner_from}

less_none : (v : ℕ) → v - 0 ≡ v
less_none v = omega arith

pub from_zero : (p : List Float) → ◌≡◌ {A = ℕ → Corner} (corner_from p 0) (corner_at p)
from_zero p = λ i v. corner_at p (less_none v i)
