-- Document 02, request 1, the memory that is lent between layers: "two layers (2·X·Y), two layers of map (2·X·Y) and the last cell layer's vertex
-- positions (3·X·Y)". The layer number t of the box stands in the half t mod 2, so that nothing is moved when a layer comes. Definitions only.
-- Assumes nothing.
use Rattle.std.specs.Prelude.{ℕ, ◌*◌, ◌%◌, Bool, ◌||◌, cond, List, ltb, length, take, drop, Float}
use Rattle.std.proofs.lemmas.List.Edits.{sets}
use Rattle.rules.specs.Call.{bad_dimensions, bad_box}
use Rattle.grid.specs.declared.Block.{Block}
use Rattle.grid.specs.Block.{point, box_of}

-- the three lists
pub record Memory : Type 0 where
  pub distances : List Float
  pub map : List ℕ
  pub positions : List Float

abbrev pub memory : List Float → List ℕ → List Float → Memory
memory distances map positions = record { distances = distances; map = map; positions = positions }

-- their lengths
pub record Lengths : Type 0 where
  pub distances : ℕ
  pub map : ℕ
  pub positions : ℕ

abbrev pub lengths : Memory → Lengths
lengths m = record { distances = length m.distances; map = length m.map; positions = length m.positions }

-- X·Y
abbrev pub plane : Block → ℕ
plane k = k.dims.x * k.dims.y

-- 4: "if that memory is shorter"
unfoldable pub bad_memory : Block → Lengths → Bool
bad_memory k r = ltb r.distances (2 * plane k) || (ltb r.map (2 * plane k) || ltb r.positions (3 * plane k))

-- where the layer number t begins in a list of two layers
abbrev pub half : Block → ℕ → ℕ
half k t = plane k * (t % 2)

-- its numbers, and the list with others in their place
abbrev pub half_of : {A : Type 0} → Block → ℕ → List A → List A
half_of k t l = take (plane k) (drop (half k t) l)

abbrev pub put_half : {A : Type 0} → Block → ℕ → List A → List A → List A
put_half k t new l = sets l (half k t) new

-- ---- the start

-- "The start [..] gives 1, 2 and, if that memory is shorter, 4"
unfoldable pub start_answer : Block → Lengths → ℕ
start_answer k r = cond (bad_dimensions (point k.dims)) 1 (cond (bad_box (point k.dims) (box_of k)) 2 (cond (bad_memory k r) 4 0))
