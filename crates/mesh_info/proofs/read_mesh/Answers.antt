-- A file that is no longer than this has too few records to be refused for want of room (`enough`). Assumes nothing.
use Rattle.std.proofs.Common.{◌∙◌, rules}
use Rattle.mesh_info.proofs.Enough.{enough}
use Rattle.mesh_info.proofs.read_mesh.Goals as goal

pub returns : goal.returns
returns c = c.read_mesh.ensures.value ∙ enough _ _ _ _ c.requires (search rules) (search rules) (search rules)
