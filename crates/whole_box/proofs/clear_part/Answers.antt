-- The part that is lent is the last layer's, and what comes back is that layer in the whole map. Assumes nothing.
use native.Mathlib.Omega.{arith}
use Rattle.whole_box.proofs.Last.{last-few, last_end, last-lent, last-back}
use Rattle.whole_box.proofs.clear_part.Goals as goal

pub overflow_mul-start : goal.overflow_mul-start
overflow_mul-start c = omega (arith, last-few c.requires)

pub overflow_add-end : goal.overflow_add-end
overflow_add-end c = omega (arith, last-few c.requires)

pub offset_bounds-map-start : goal.offset_bounds-map-start
offset_bounds-map-start c = omega (arith, last-few c.requires)

pub clear_layer-requires : goal.clear_layer-requires
clear_layer-requires c = last-lent c.requires

pub returns : goal.returns
returns c = last-back c.requires c.clear_layer.ensures

pub slice_bounds-clear_layer-end : goal.slice_bounds-clear_layer-end
slice_bounds-clear_layer-end c = omega (arith, last_end c.requires)
