-- By the mark that stands at the cell's place: none, or the next number in its stead. Assumes nothing.
use native.Mathlib.Omega.{arith}
use Rattle.layer_vertices.specs.Cells.{RoomToFind, finds}
use Rattle.layer_vertices.proofs.Numbering.{cell-left, cell_room, cell-numbered}
use Rattle.layer_vertices.proofs.number_cell.Goals as goal
use Rattle.layer_vertices.proofs.number_cell.Goals.{Else-map-at}

room : (c : Else-map-at) → let a = c.args in RoomToFind a.next 1 (finds a.cells.now a.strides.now a.map.now)
room c = cell_room c.requires c.if-map-at.false

pub returns-then-map-at : goal.returns-then-map-at
returns-then-map-at c = cell-left c.requires c.if-map-at.true

pub put_cell-requires-clause-place_in_bounds : goal.put_cell-requires-clause-place_in_bounds
put_cell-requires-clause-place_in_bounds c =
    let r = room (goal.at.put_cell-requires-clause-place_in_bounds c).Else-map-at in (omega arith, omega arith)

pub overflow_add-result-2 : goal.overflow_add-result-2
overflow_add-result-2 c =
    let r = room (goal.at.overflow_add-result-2 c).Else-map-at in
    omega arith

pub returns : goal.returns
returns c =
    let cell = c.put_cell.ensures in
    cell-numbered c.requires c.if-map-at.false cell.cells_after cell.strides_after
