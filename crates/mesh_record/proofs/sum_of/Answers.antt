-- `mesh_record::sum_of` meets its contract. Sums modulo 2^32, one word after the other, are the sum of all modulo 2^32 (`fold-sum`). Assumes nothing.
use Rattle.std.proofs.Common.{rules, ◌≡◌, ◌+◌, ◌%◌, ◌^◌, ◌∙◌}
use Rattle.std.specs.List.{fold}
use Rattle.mesh_record.proofs.OneWord.{fold-sum}
use Rattle.mesh_record.proofs.sum_of.Goals as goal

pub returns : goal.returns
returns c =
    let e : c.fold.result ≡ fold (λ s w. (s + w) % 2 ^ 32) 0 c.args.words.now = search rules in
    e ∙ fold-sum _
