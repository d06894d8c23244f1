-- How the code keeps its numbers without a sign: within which bounds, and with which bias. Nothing here is in a public contract. Definitions only.
-- Assumes nothing.
use Rattle.std.specs.Prelude.{◌≡◌, ℕ, ◌+◌, ◌*◌, ◌^◌, ◌<◌, ◌≤◌, pos, ◌-ℤ◌}
use Rattle.volume.specs.declared.Corner.{Corner}
use Rattle.weigh.specs.Sums.{shadow_of, pillar_of}
use Rattle.weigh.specs.declared.total.Total.{Total}

-- a corner of an accepted list: from 0 to 16,777,216 is from 0 to 2^32 steps
pub record Low (a : Corner) : Type 0 where
  pub x : a.x ≤ 2 ^ 32
  pub y : a.y ≤ 2 ^ 32
  pub z : a.z ≤ 2 ^ 32

-- at most 512 steps apart
pub record Close (m n : ℕ) : Type 0 where
  pub up : n ≤ m + 512
  pub down : m ≤ n + 512
  pub low : n ≤ 2 ^ 32

-- the sum that a total keeps in two words
abbrev pub kept : Total → ℕ
kept t = t.high * 2 ^ 32 + t.low

-- what n triangles leave: each adds at most 2^57 to the sum, and at most 2^22 to the shadow
pub record Holds (n : ℕ) (t : Total) : Type 0 where
  pub low : t.low < 2 ^ 32
  pub sum : kept t ≤ n * 2 ^ 57
  pub shadow : t.shadow ≤ n * 2 ^ 22

-- a triangle's terms, each with its bias, added to a total
pub record Adds (a b c : Corner) (t r : Total) : Type 0 where
  pub low : r.low < 2 ^ 32
  pub sum : kept r ≤ kept t + 2 ^ 57
  pub shadow : r.shadow ≤ t.shadow + 2 ^ 22
  pub pillar-is : pos (kept r) -ℤ pos (kept t + 2 ^ 55) ≡ pillar_of a b c
  pub shadow-is : pos r.shadow -ℤ pos (t.shadow + 2 ^ 21) ≡ shadow_of a b c
