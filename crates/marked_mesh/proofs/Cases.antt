-- One room in numbers, written down by hand, each length another one: what is lent of each list, and how a list goes on behind what was lent.
-- 0x51000000 to 0x54000000 are oracle/stored/README.md's marks. Assumes nothing.
use mathlib.Core.Bool.{false}
use mathlib.Core.List.{[], ◌∷◌}
use mathlib.Core.Path.{◌≡◌, refl}
use lib.IntN.{pos}
use lib.Ieee.{fin, of_int, add}
use lib.ListN.{get_or, length}
use Rattle.judge.specs.declared.Lengths.{Lengths}
use Rattle.marks.specs.Marks.{marks}
use Rattle.marked_mesh.specs.Marked.{marked, lent_length, lent_marks, rest}

abbrev asked : Lengths
asked = record { positions = 3; normals = 1; cells = 2; strides = 0; crossings = 4; map = 511; indices = 513 }

-- 1000.0, 1001.0 and 1002.0: 125 times 8, 1001, and 501 times 2
pub lent-positions : (lent_marks asked).positions ≡ fin false 125 (pos 3) ∷ fin false 1001 (pos 0) ∷ fin false 501 (pos 1) ∷ []
unfolding lent_marks marks of_int add
lent-positions = refl

-- 2000.0: 125 times 16
pub lent-normals : (lent_marks asked).normals ≡ fin false 125 (pos 4) ∷ []
unfolding lent_marks marks of_int
lent-normals = refl

pub lent-cells : (lent_marks asked).cells ≡ 1358954496 ∷ 1358954497 ∷ []
unfolding lent_marks marks
lent-cells = refl

pub lent-strides : (lent_marks asked).strides ≡ []
unfolding lent_marks
lent-strides = refl

pub lent-crossings : (lent_marks asked).crossings ≡ 100 ∷ 100 ∷ 100 ∷ 100 ∷ []
unfolding lent_marks marks
lent-crossings = refl

-- all but the last, and no more than all
pub lent-lengths : (lent_length 511 ≡ 511) × (lent_length 512 ≡ 512) × (lent_length 513 ≡ 512)
lent-lengths = (refl, refl, refl)

-- two numbers that a call left, and the third mark, of 512
pub behind-two : (get_or (rest 2 marked.cells (7 ∷ 9 ∷ [])) 1 0 ≡ 9) × (get_or (rest 2 marked.cells (7 ∷ 9 ∷ [])) 2 0 ≡ 1358954498)
    × (length (rest 2 marked.cells (7 ∷ 9 ∷ [])) ≡ 512)
unfolding marks
behind-two = (refl, refl, refl)
