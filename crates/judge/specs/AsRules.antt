-- The answer and the lengths of the lent lists as the rules have them. Definitions only. Assumes nothing.
use Rattle.std.specs.Prelude.{ℕ, Result, Ok, Err}
use Rattle.rules.specs.Call.{Answer, Room, answers}
use Rattle.grid.specs.Faults.{number_of as fault_number}
use Rattle.count.specs.declared.Tally.{Tally}
use Rattle.judge.specs.declared.Lengths.{Lengths}
use Rattle.judge.specs.declared.Refusal.{Refusal}
use Rattle.judge.specs.declared.Refusal.TheVariants.{Grid, Map, Distance, VertexRoom, IndexRoom}

-- document 01's number of a refusal
abbrev pub number_of : Refusal → ℕ
number_of (Grid f) = fault_number f
number_of Map = 4
number_of Distance = 5
number_of (VertexRoom _) = 6
number_of (IndexRoom _) = 7

-- V and I as they are said with a refusal: those for which there is too little room, and else none
abbrev pub counts_of : Refusal → Tally
counts_of (Grid _) = record { vertices = 0; indices = 0 }
counts_of Map = record { vertices = 0; indices = 0 }
counts_of Distance = record { vertices = 0; indices = 0 }
counts_of (VertexRoom t) = t
counts_of (IndexRoom t) = t

-- document 01's number and counts
abbrev pub answer_of : Result Tally Refusal → Answer
answer_of (Ok t) = answers 0 t.vertices t.indices
answer_of (Err r) = answers (number_of r) (counts_of r).vertices (counts_of r).indices

-- the lengths of the lent lists
abbrev pub room_of : Lengths → Room
room_of r =
    record {
      positions = r.positions;
      normals = r.normals;
      cells = r.cells;
      strides = r.strides;
      crossings = r.crossings;
      map = r.map;
      indices = r.indices;
    }
