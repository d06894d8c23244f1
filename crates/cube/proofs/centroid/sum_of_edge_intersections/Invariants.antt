-- `cube::centroid::sum_of_edge_intersections` meets its contract. The invariant: the sum and the count are those of the edges passed.
-- Assumes nothing.
use Rattle.std.proofs.Common.{◌≡◌, ℕ, ◌≤◌, List, map, take}
use lib.Ieee.{Float}
use Rattle.lists.specs.Lists.{many, keep}
use Rattle.rules.specs.Cell.{Vector, cube_edges, crosses, crossing_point, zero_vector, summed}
use Rattle.cube.specs.AsRules.{vector}
use Rattle.cube.proofs.centroid.sum_of_edge_intersections.Given as goal

-- the sum and the number of the crossings on the first e edges
abbrev pub sum_to : List Float → ℕ → Vector
sum_to d e = summed zero_vector (map (crossing_point d) (keep (crosses d) (take e cube_edges)))

abbrev pub count_to : List Float → ℕ → ℕ
count_to d e = many (crosses d) (take e cube_edges)

abbrev pub invariant-loop-e : goal.invariant-loop-e
invariant-loop-e l = record { few : l.count ≤ l.e; sum_is : vector l.sum ≡ sum_to l.d l.e; count_is : l.count ≡ count_to l.d l.e }
