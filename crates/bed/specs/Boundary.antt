-- The twelve words with a grid as document 01's call, seven loose lengths as the room that is lent, and an answer number with two counts as its answer.
-- Definitions only. Assumes nothing.
use Rattle.std.specs.Prelude.{ℕ, List, Float}
use Rattle.rules.specs.Call.{Call, Room, Answer}
use Rattle.grid.specs.Block.{call_of}
use Rattle.bed.specs.Words12.{block_words}

abbrev pub asked : List Float → List ℕ → Call
asked grid words = call_of grid (block_words words)

-- the lengths of the seven lists, in the order of the call
abbrev pub room_asked : ℕ → ℕ → ℕ → ℕ → ℕ → ℕ → ℕ → Room
room_asked positions normals cells strides crossings map indices =
    record { positions = positions; normals = normals; cells = cells; strides = strides; crossings = crossings; map = map; indices = indices }

abbrev pub said : ℕ → ℕ → ℕ → Answer
said number vertices indices = record { number = number; vertices = vertices; indices = indices }
