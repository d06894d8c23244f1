-- `levels::rising::column_count` meets its contract: two counts, whose product is small. Assumes nothing.
use Rattle.grid.proofs.Walks.{end_fits}
use Rattle.levels.proofs.Rows.{row-span, point-span, columns-few}
use Rattle.levels.proofs.Layers.{few-fits}
use Rattle.levels.proofs.rising.column_count.Goals as goal

pub overflow_add-result : goal.overflow_add-result
overflow_add-result c = end_fits (row-span c.args.k c.requires)

pub overflow_sub-result : goal.overflow_sub-result
overflow_sub-result c = (row-span c.args.k c.requires).ordered

pub overflow_add-result-2 : goal.overflow_add-result-2
overflow_add-result-2 c = end_fits (point-span c.args.k c.requires)

pub overflow_sub-result-2 : goal.overflow_sub-result-2
overflow_sub-result-2 c = (point-span c.args.k c.requires).ordered

pub overflow_mul-result : goal.overflow_mul-result
overflow_mul-result c = few-fits (columns-few c.args.k c.requires)
