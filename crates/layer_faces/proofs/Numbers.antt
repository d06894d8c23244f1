-- The numbers of a turn: places in lists and counts of edges are numbers of their widths, and lie within. Over bare numbers, so that no need of a function
-- looks for them. Assumes nothing.
use Rattle.std.proofs.Common.{◌≡◌, ℕ, ◌+◌, ◌-◌, ◌*◌, ◌<◌, ◌≤◌, arith, w32, w64, Fits}

-- ---- the edges of a vertex listed

-- no axis has more edges than there are vertices
pub record Few (j x y z : ℕ) : Type 0 where
  pub along-x : x ≤ j
  pub along-y : y ≤ j
  pub along-z : z ≤ j

-- a turn, in which a, b and c edges along the three axes count
pub record OfTurn (j n x y z all a b c : ℕ) : Type 0 where
  pub vertex : Fits w32 j
  pub low_x : x < 32
  pub low-y : y < 32
  pub low-z : z < 32
  pub entry-x : x < 96
  pub place-y : Fits w64 (32 + y)
  pub entry-y : 32 + y < 96
  pub place-z : Fits w64 (64 + z)
  pub entry-z : 64 + z < 96
  pub one-y : Fits w64 b
  pub one-z : Fits w64 c
  pub more-y : Fits w64 (y + b)
  pub more-z : Fits w64 (z + c)
  pub all-x : Fits w32 (all + a)
  pub all-y : Fits w32 (all + a + b)
  pub all-z : Fits w32 (all + a + b + c)
  pub few : Few (j + 1) (x + a) (y + b) (z + c)
  pub next : Fits w64 (j + 1)
  pub taken : j + 1 ≤ n
  pub less : n - (j + 1) < n - j

pub of-turn : {j n x y z all a b c : ℕ} → j < n → n ≤ 32 → Few j x y z → all ≤ 3 * j → a ≤ 1 → b ≤ 1 → c ≤ 1 → OfTurn j n x y z all a b c
of-turn h l f e la lb lc =
    let fx = f.along-x in
    let fy = f.along-y in
    let fz = f.along-z in
    record {
      vertex = omega arith;
      low_x = omega arith;
      low-y = omega arith;
      low-z = omega arith;
      entry-x = omega arith;
      place-y = omega arith;
      entry-y = omega arith;
      place-z = omega arith;
      entry-z = omega arith;
      one-y = omega arith;
      one-z = omega arith;
      more-y = omega arith;
      more-z = omega arith;
      all-x = omega arith;
      all-y = omega arith;
      all-z = omega arith;
      few = record { along-x = omega arith; along-y = omega arith; along-z = omega arith };
      next = omega arith;
      taken = omega arith;
      less = omega arith;
    }

-- ---- a batch

pub along-0 : 0 < 3
along-0 = omega arith

pub along-1 : 1 < 3
along-1 = omega arith

pub along-2 : 2 < 3
along-2 = omega arith

pub word_below : {x : ℕ} → Fits w32 x → x < 4294967296
word_below h = omega arith

pub room-same : (at : ℕ) {edges listed indices : ℕ} → at + 6 * edges ≤ indices → listed ≡ edges → at + 6 * listed ≤ indices
room-same at h e = omega arith

pub room_of : {room indices long : ℕ} → room ≤ indices → long ≡ indices → room ≤ long
room_of h e = omega arith
