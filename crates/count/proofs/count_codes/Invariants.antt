-- The invariant: the counts are those of the first j cells, and each at most j, so that it fits 32 bits. Assumes nothing.
use Prim.Native.Nat.{◌≤◌}
use mathlib.Core.Path.{◌≡◌}
use Rattle.lists.specs.Lists.{many, run}
use Rattle.count.specs.Kept.{surface_code, x_code, y_code, z_code}
use Rattle.count.proofs.count_codes.Given as goal

abbrev pub invariant-loop-j : goal.invariant-loop-j
invariant-loop-j l = (l.j ≤ l.n)
    × ((l.surface ≤ l.j) × (l.x ≤ l.j) × (l.y ≤ l.j) × (l.z ≤ l.j))
    × (l.surface ≡ many (surface_code l.codes l.here l.there) (run l.j))
    × (l.x ≡ many (x_code l.codes l.here) (run l.j))
    × (l.y ≡ many (y_code l.codes l.here l.there) (run l.j))
    × (l.z ≡ many (z_code l.codes l.here) (run l.j))
