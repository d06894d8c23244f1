-- `mesh_file::write_mesh` meets its contract: a refusal leaves the file, and otherwise the records are written over its start. Assumes nothing.
use Rattle.std.proofs.Common.{length, sym, ap, ◌∙◌}
use Rattle.mesh_record.proofs.OneStep.{refusal-numbered}
use Rattle.mesh_file.specs.Mesh.{mesh}
use Rattle.mesh_file.specs.Writing.{Wrote}
use Rattle.mesh_file.proofs.Answering.{answered-zero, answered-other, written_over, refused-writes-nothing}
use Rattle.mesh_file.proofs.write_mesh.Goals as goal

pub returns-in_err-bytes-clause-file_after : goal.returns-in_err-bytes-clause-file_after
returns-in_err-bytes-clause-file_after c =
    let a = c.args in
    let m = mesh a.positions.now a.normals.now a.indices.now in
    let n = ap (λ (r : Wrote). r.answer) c.in_err-bytes.ensures in
    sym (refused-writes-nothing m a.file.now (answered-other m (length a.file.now) (λ z. refusal-numbered c.in_err-bytes.field-0.0 (n ∙ z))))

pub write_all-requires : goal.write_all-requires
write_all-requires c =
    let e = c.in_ok-bytes.ensures in answered-zero _ _ (ap (λ (r : Wrote). r.answer) (sym e))

pub returns-clause-file_after : goal.returns-clause-file_after
returns-clause-file_after c =
    let e = c.in_ok-bytes.ensures in
    c.write_all.ensures ∙ sym (written_over _ _ (answered-zero _ _ (ap (λ (r : Wrote). r.answer) (sym e))))
