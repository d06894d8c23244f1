-- What a caller hands to the writer after a call of document 01: the first 3V, 3V and I numbers of the lists afterwards. Definitions only.
-- Assumes nothing.
use Rattle.std.specs.Prelude.{◌*◌, take}
use Rattle.mesh_file.specs.Mesh.{Mesh, mesh}
use Rattle.promises.specs.Served.{Served}

abbrev pub mesh_of : Served → Mesh
mesh_of u = mesh (take (3 * u.says.vertices) u.after.positions) (take (3 * u.says.vertices) u.after.normals) (take u.says.indices u.after.indices)
