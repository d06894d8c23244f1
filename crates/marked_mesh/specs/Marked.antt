-- Lists of 512 numbers, all marked, of which the first so many are lent to a call; and all their numbers after it. Definitions only. Assumes nothing.
use Rattle.std.specs.Prelude.{ℕ, cond, List, ◌++◌, ltb, take, drop, Float}
use Rattle.rules.specs.Cell.{float}
use Rattle.rules.specs.Call.{Answer, Buffers, answer, afterwards, room}
use Rattle.grid.specs.declared.Block.{Block}
use Rattle.grid.specs.Block.{call_of}
use Rattle.judge.specs.declared.Lengths.{Lengths}
use Rattle.marks.specs.Marks.{marks, word_marks, float_marks}
use Rattle.marked_mesh.specs.declared.Lists.{Lists}

abbrev pub size : ℕ
size = 512

-- a byte's marks are all alike
abbrev pub byte_marks : ℕ → ℕ → List ℕ
byte_marks mark n = marks (λ m. m) mark n

-- every list, before the call
abbrev pub marked : Buffers
marked =
    record {
      positions = float_marks (float 1000) size;
      normals = float_marks (float 2000) size;
      cells = word_marks 1358954496 size;
      strides = word_marks 1375731712 size;
      crossings = byte_marks 100 size;
      map = word_marks 1392508928 size;
      indices = word_marks 1409286144 size;
    }

-- as much as is asked, and no more than there is
abbrev pub lent_length : ℕ → ℕ
lent_length asked = cond (ltb asked size) asked size

-- what is lent: the first numbers of each list
unfoldable pub lent_marks : Lengths → Buffers
lent_marks n =
    record {
      positions = take (lent_length n.positions) marked.positions;
      normals = take (lent_length n.normals) marked.normals;
      cells = take (lent_length n.cells) marked.cells;
      strides = take (lent_length n.strides) marked.strides;
      crossings = take (lent_length n.crossings) marked.crossings;
      map = take (lent_length n.map) marked.map;
      indices = take (lent_length n.indices) marked.indices;
    }

-- all numbers afterwards: those that were lent, as the call left them, and behind them the marks that were not
abbrev pub rest : {A : Type 0} → ℕ → List A → List A → List A
rest asked marks lent = lent ++ drop (lent_length asked) marks

unfoldable pub behind : Lengths → Buffers → Buffers
behind n s =
    record {
      positions = rest n.positions marked.positions s.positions;
      normals = rest n.normals marked.normals s.normals;
      cells = rest n.cells marked.cells s.cells;
      strides = rest n.strides marked.strides s.strides;
      crossings = rest n.crossings marked.crossings s.crossings;
      map = rest n.map marked.map s.map;
      indices = rest n.indices marked.indices s.indices;
    }

-- what the call answers, and all seven lists after it
unfoldable pub answered : List Float → Block → Lengths → Answer
answered sdf k n = answer (call_of sdf k) (room (lent_marks n))

unfoldable pub left : List Float → Block → Lengths → Buffers
left sdf k n = behind n (afterwards (call_of sdf k) (lent_marks n))

-- the lists that come back
abbrev pub lists_after : Lists → Buffers
lists_after l =
    record {
      positions = l.positions;
      normals = l.normals;
      cells = l.cells;
      strides = l.strides;
      crossings = l.crossings;
      map = l.map;
      indices = l.indices;
    }
