-- Sludge lies on the floor of a tank and against its walls, so that its skin is an open sheet. A border of far points closes it: one layer at min and two
-- at max on each axis, so that every negative point lies "from min + 1 to max - 2 on each axis" (document 02, request 8). Definitions only. Assumes nothing.
use Rattle.std.specs.Prelude.{ℕ, ◌+◌, ◌-◌, ◌*◌, Bool, ◌&&◌, cond, List, map, Float, get_or}
use Rattle.std.specs.Float.{nan}
use Rattle.lists.specs.Lists.{run}
use Rattle.rules.specs.Grid.{GridPoint, Field, point_at, between, value}

-- the open grid: its dimensions and its distances
abbrev pub open_field : GridPoint → List Float → Field
open_field d sdf = record { dims = d; dist = λ i. get_or sdf i nan }

-- three more points on each axis
abbrev pub closed_dims : GridPoint → GridPoint
closed_dims d = record { x = d.x + 3; y = d.y + 3; z = d.z + 3 }

-- how many points a grid of these dimensions has, and a layer of it
abbrev pub point_count : GridPoint → ℕ
point_count d = d.x * d.y * d.z

abbrev pub layer_count : GridPoint → ℕ
layer_count d = d.x * d.y

-- a point of the closed grid that the open one, of dimensions d, has too: from 1 to the dimension on each axis
abbrev pub in_open : GridPoint → GridPoint → Bool
in_open d p = between 1 d.x p.x && (between 1 d.y p.y && between 1 d.z p.z)

-- where the open grid has it
abbrev pub open_point : GridPoint → GridPoint
open_point p = record { x = p.x - 1; y = p.y - 1; z = p.z - 1 }

-- the old distance at (x + 1, y + 1, z + 1), and the wall's value everywhere else
unfoldable pub closed_value : Field → Float → GridPoint → Float
closed_value g wall p = cond (in_open g.dims p) (value g (open_point p)) wall

abbrev pub closed_field : Field → Float → Field
closed_field g wall = record { dims = closed_dims g.dims; dist = λ i. closed_value g wall (point_at (closed_dims g.dims) i) }

-- as the list of all its distances
unfoldable pub closed_list : Field → Float → List Float
closed_list g wall = map (closed_field g wall).dist (run (point_count (closed_dims g.dims)))

-- ---- one layer at a time

-- a grid of dimensions d of which the layer z alone is known
abbrev pub layer_field : GridPoint → ℕ → List Float → Field
layer_field d z layer = record { dims = d; dist = λ i. get_or layer (i - layer_count d * z) nan }

-- the layer z of the closed grid, where `layer` is the layer z - 1 of the open one
unfoldable pub closed_layer : GridPoint → Float → ℕ → List Float → List Float
closed_layer d wall z layer =
    map (λ i. (closed_field (layer_field d (z - 1) layer) wall).dist (layer_count (closed_dims d) * z + i)) (run (layer_count (closed_dims d)))
