-- How the code's values are read as the rules' own: a point as a vector, an edge's answer as no crossing or its fraction. Definitions only.
-- Assumes nothing.
use Rattle.std.specs.Prelude.{ℕ, Bool, true, false, Option, Some, None, slice_index_or, Float}
use Rattle.std.proofs.Math.Option.{Option as Maybe, none, some}
use Rattle.std.specs.Float.Ieee.{unlike}
use Rattle.rules.specs.Grid.{GridPoint}
use Rattle.rules.specs.Cell.{Vector, CubeEdge, cube_edge, cube_edges, negative, fraction}
use Rattle.cube.specs.declared.point.Point.{Point}

-- a point's three floats
abbrev pub vector : Point → Vector
vector p = record { x = p.x; y = p.y; z = p.z }

-- a cell by its lowest corner's coordinates
abbrev pub grid_point : ℕ → ℕ → ℕ → GridPoint
grid_point x y z = record { x = x; y = y; z = z }

-- the edge with a number, from 0
abbrev pub edge_at : ℕ → CubeEdge
edge_at e = slice_index_or cube_edges e (cube_edge 0 0)

-- document 01, "an edge answers no crossing, or a crossing with its fraction": what each case of the code's option says
abbrev pub fraction_of : Option Float → Maybe Float
fraction_of None = none
fraction_of (Some f) = some f

abbrev pub pick_fraction : Bool → Float → Maybe Float
pick_fraction true f = some f
pick_fraction false f = none

-- "Edge a-b crosses if exactly one end is negative": with its fraction, and otherwise no crossing
abbrev pub crossing_of : Float → Float → Maybe Float
crossing_of da db = pick_fraction (unlike (negative da) (negative db)) (fraction da db)
