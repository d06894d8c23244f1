-- `mesh_record::write_record` meets its contract. After k turns the first k words are laid over the file; the last is the sum. Assumes nothing.
use Rattle.std.proofs.Common.{rules, ◌≡◌, ◌<◌, ◌≤◌, length, sym, arith}
use Rattle.lists.specs.Lists.{joined}
use Rattle.mesh_record.proofs.Laying.{laid_none}
use Rattle.mesh_record.proofs.Recording.{word-laid, sum-laid}
use Rattle.mesh_record.proofs.write_record.Goals as goal

pub loop-k-init : goal.loop-k-init
unfolding joined
loop-k-init c = sym (laid_none c.args.at c.args.file.now)

pub loop-k-preserved : goal.loop-k-preserved
loop-k-preserved c =
    let a = c.args in
    let n : length a.words ≡ 7 = search rules in
    let l : c.loop-k.k < length a.words = omega arith in
    let h : a.at ≤ length a.file.now = omega (arith, c.requires) in
    word-laid a.words _ a.at _ _ _ l h c.loop-k.invariant c.write_word.ensures

pub returns : goal.returns
returns c =
    let a = c.args in
    let n : length a.words ≡ 7 = search rules in
    let l : length a.words ≤ c.loop-k.k = omega arith in
    let h : a.at ≤ length a.file.now = omega (arith, c.requires) in
    sum-laid a.words _ a.at _ _ _ _ n l h c.loop-k.invariant c.sum_of.ensures c.write_word-2.ensures
