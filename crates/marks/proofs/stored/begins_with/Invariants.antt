-- `marks::stored::begins_with` meets its contract: its loop passes the places that hold their stored number (Begins). Assumes nothing.
use Rattle.std.proofs.Common.{◌≡◌, true}
use Rattle.marks.specs.Stored.{each_below, place_is}
use Rattle.marks.proofs.stored.begins_with.Given as goal

abbrev pub invariant-loop-j : goal.invariant-loop-j
invariant-loop-j g l = (other : _) → each_below (place_is g.M.Mark.bits other l.list l.stored) l.j ≡ true
