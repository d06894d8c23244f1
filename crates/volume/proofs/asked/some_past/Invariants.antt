-- Between two parts: what is left of the coordinates has one that is past exactly if all of them have. Assumes nothing.
use Rattle.std.proofs.Common.{◌≡◌}
use Rattle.std.specs.Slice.Iter.{chunks_rest, chunks_size}
use Rattle.lists.specs.Lists.{some}
use Rattle.volume.specs.Steps.{is_past}
use Rattle.volume.proofs.asked.some_past.Given as goal

abbrev pub invariant-loop-part : goal.invariant-loop-part
invariant-loop-part l =
    goal.iterator-loop-part.can_next l.part-iterator
    × goal.iterator-loop-part.is_finite l.part-iterator
    × (chunks_size l.part-iterator ≡ 1024)
    × (some (is_past l.fn.most) (chunks_rest l.part-iterator) ≡ some (is_past l.fn.most) l.fn.positions)
