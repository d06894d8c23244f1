-- Which marks a call has to leave: those past what an answer 0 writes, in the map those outside the box, and after a refusal all. Definitions only.
-- Assumes nothing.
use Rattle.std.specs.Prelude.{ℕ, ◌*◌, Bool, ◌&&◌, cond, List, eqb, ltb, length}
use Rattle.rules.specs.Cell.{float}
use Rattle.rules.specs.Call.{Answer, Buffers}
use Rattle.grid.specs.declared.Block.{Block}
use Rattle.grid.specs.Block.{point, box_of}
use Rattle.marks.specs.Marks.{kept_but, kept_words, kept_floats, kept_map}
use Rattle.marked_mesh.specs.Marked.{size, byte_marks}

-- how many an answer 0 writes, no list having more than 512; any other answer writes none
abbrev pub written : ℕ → ℕ → ℕ
written number count = cond (eqb number 0) (cond (ltb size count) size count) 0

-- every byte from `from` on is 100
abbrev pub kept_bytes : ℕ → List ℕ → Bool
kept_bytes from l = kept_but (λ j. eqb) (λ j. ltb j from) 0 l (byte_marks 100 (length l))

-- after an answer 0 the entries of the box's cells may be others, those of its other points are those of no cell, and all else is as it was
abbrev pub kept_map_after : ℕ → Block → List ℕ → Bool
kept_map_after number k map = cond (eqb number 0) (kept_map (point k.dims) (box_of k) 1392508928 map) (kept_words 0 1392508928 map)

-- the five lists of vertices, past v of them
unfoldable pub kept_vertices : ℕ → Buffers → Bool
kept_vertices v s =
    kept_floats (3 * v) (float 1000) s.positions
    && (kept_floats (3 * v) (float 2000) s.normals
    && (kept_words (3 * v) 1358954496 s.cells
    && (kept_words v 1375731712 s.strides
    && kept_bytes v s.crossings)))

unfoldable pub kept_after : Answer → Block → Buffers → Bool
kept_after a k s =
    kept_vertices (written a.number a.vertices) s
    && (kept_map_after a.number k s.map && kept_words (written a.number a.indices) 1409286144 s.indices)
