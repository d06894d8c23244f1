-- `mesh_file::fills::fill` meets its contract. After k turns the first k triples are laid over the list. Assumes nothing.
use Rattle.std.proofs.Common.{◌≡◌, ◌+◌, ◌-◌, ◌*◌, arith}
use Rattle.mesh_record.proofs.Laying.{loop-none}
use Rattle.mesh_file.specs.Reading.{three_at}
use Rattle.mesh_file.proofs.Filling.{three-next}
use Rattle.mesh_file.proofs.fills.fill.Goals as goal

pub loop-k-init : goal.loop-k-init
loop-k-init g c = loop-none (λ i. three_at g.S.Stored.of_word c.args.file.now (32 * i + c.args.first)) 0 _

pub loop-k-preserved : goal.loop-k-preserved
loop-k-preserved g c =
    let a = c.args in
    let l = c.loop-k in
    let n : 3 * l.k + 3 - 3 * l.k ≡ 3 = omega arith in
    let e : c.copy_from_slice.new.self ≡ three_at g.S.Stored.of_word a.file.now (32 * l.k + a.first) = cc in
    rw e (three-next g.S.Stored.of_word a.file.now a.first l.k (3 * l.k + 3 - 3 * l.k) a.out.now l.out n l.invariant)
