-- What the code says of itself: how many points a box of points has, as high · 2^24 + low, and when two such sums are equal.
-- Definitions only. Assumes nothing.
use Rattle.std.specs.Prelude.{ℕ, ◌+◌, ◌-◌, ◌*◌, ◌/◌, ◌%◌, ◌≤◌, Bool, ◌&&◌, eqb}
use Rattle.plan.specs.declared.region.Span.{Span}
use Rattle.plan.specs.Triples.{Region}
use Rattle.plan.specs.Triples.{Owned}
use Rattle.plan.specs.declared.size.Sum.{Sum}
use Rattle.plan.specs.Triples.{Sums}

abbrev pub side_of : Span → ℕ
side_of a = a.to - a.from

-- no side above 2^24
abbrev pub Small : Region → Type 0
Small r = (side_of r.x ≤ 16777216) × (side_of r.y ≤ 16777216) × (side_of r.z ≤ 16777216)

unfoldable pub size_of : Region → Sum
size_of r =
    record {
      high = (side_of r.x * side_of r.y) / 16777216 * side_of r.z;
      low = (side_of r.x * side_of r.y) % 16777216 * side_of r.z;
    }

abbrev pub SmallAll : Owned → Type 0
SmallAll o = Small o.x × Small o.y × Small o.z

abbrev pub sizes_of : Owned → Sums
sizes_of o = record { x = size_of o.x; y = size_of o.y; z = size_of o.z }

abbrev pub added : Sum → Sum → Sum
added a b = record { high = a.high + b.high; low = a.low + b.low }

abbrev pub added_all : Sums → Sums → Sums
added_all a b = record { x = added a.x b.x; y = added a.y b.y; z = added a.z b.z }

-- both words at most n
abbrev pub Most : ℕ → Sum → Type 0
Most n a = (a.high ≤ n) × (a.low ≤ n)

abbrev pub MostAll : ℕ → Sums → Type 0
MostAll n a = Most n a.x × Most n a.y × Most n a.z

-- carried once
unfoldable pub same_sum : Sum → Sum → Bool
same_sum a b = eqb (a.low % 16777216) (b.low % 16777216) && eqb (a.high + a.low / 16777216) (b.high + b.low / 16777216)

abbrev pub same_sums : Sums → Sums → Bool
same_sums a b = (same_sum a.x b.x && same_sum a.y b.y) && same_sum a.z b.z

-- the number of a sum
abbrev pub value : Sum → ℕ
value a = a.high * 16777216 + a.low
