-- `mesh_file::writer::write_triangles` meets its contract. After k turns the first k records are laid over the file. Assumes nothing.
use Rattle.std.proofs.Common.{ℕ, ◌+◌, ◌*◌, ◌/◌, ◌<◌, ◌≤◌, List, length, ap, ◌∙◌, arith}
use Rattle.mesh_record.proofs.Laying.{loop-none}
use Rattle.mesh_file.specs.Record.{laid}
use Rattle.mesh_file.specs.Mesh.{triangle_record}
use Rattle.mesh_file.proofs.Filling.{triangles-next, triangle-chunk}
use Rattle.mesh_file.proofs.writer.write_triangles.Goals as goal

pub loop-k-init : goal.loop-k-init
loop-k-init c = loop-none (triangle_record c.args.indices.now) c.args.at _

pub loop-k-preserved : goal.loop-k-preserved
loop-k-preserved c =
    let a = c.args in
    let l = c.loop-k in
    let h : a.at ≤ length a.file.now = omega (arith, c.requires) in
    let t : l.k < length a.indices.now / 3 = omega (arith, c.as_chunks.ensures.front_len, c.loop-k-test.true) in
    triangles-next a.indices.now l.k a.at a.file.now l.file _ h l.invariant
    (c.write_record.ensures
    ∙ ap (λ (r : List ℕ). laid r (a.at + 32 * l.k) l.file) (triangle-chunk a.indices.now (length a.indices.now / 3) l.k _ c.as_chunks.ensures.front t))
