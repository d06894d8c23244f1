-- `mesh_file::check_all` meets its contract. The invariant is `SoFar`: so many vertices and triangles and no fault yet. A record that is not refused
-- is whole, so the place stays inside the file.
-- Assumes nothing.
use Rattle.std.proofs.Common.{◌-◌, length}
use Rattle.mesh_file.proofs.Progressing.{SoFar}
use Rattle.mesh_file.proofs.check_all.Given as goal

abbrev pub invariant-loop-counts : goal.invariant-loop-counts
invariant-loop-counts l = SoFar l.src l.counts.vertices l.counts.triangles l.at

abbrev pub decreases-loop-counts : goal.decreases-loop-counts
decreases-loop-counts l = length l.src - l.at
