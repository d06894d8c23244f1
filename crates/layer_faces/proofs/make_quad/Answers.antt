-- Four corners chosen by the diagonals' lengths, and their order by the facing: the six that are put are the quad's. Assumes nothing.
use Rattle.std.proofs.Common.{ap, ◌∙◌, ap₂}
use lib.Ieee.{lt}
use lib.Seq.{sets}
use Rattle.layer_faces.specs.Quads.{seen}
use Rattle.layer_faces.proofs.Chosen.{quad-picked}
use Rattle.layer_faces.proofs.make_quad.Goals as goal

pub returns : goal.returns
returns c =
    let a = c.args in
    c.put_six.ensures
    ∙ ap (sets a.indices.now a.at) (
    quad-picked (seen a.v1) (seen a.v2) (seen a.v3) (seen a.v4) a.n1
    (ap₂ lt c.squared_distance.ensures c.squared_distance-2.ensures)
    c.pick-a.ensures c.pick-b.ensures c.pick-c.ensures c.pick-d.ensures
    c.pick.ensures c.pick-2.ensures c.pick-3.ensures c.pick-4.ensures)
