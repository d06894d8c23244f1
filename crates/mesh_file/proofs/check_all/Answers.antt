-- `mesh_file::check_all` meets its contract. The invariant is `SoFar`: so many vertices and triangles and no fault yet. A record that is not refused
-- is whole, so the place stays inside the file.
-- Assumes nothing.
use Rattle.std.proofs.Common.{◌+◌, ◌≤◌, length, refl, sym, ap, zero-le, arith}
use Rattle.std.proofs.lemmas.Result.{err_from_is_err_and}
use Rattle.mesh_file.specs.Reading.{checked}
use Rattle.mesh_file.proofs.Progressing.{after_none, good-whole, vertex-next, triangle-next, closed-read, refused-read}
use Rattle.mesh_file.proofs.check_all.Goals as goal
use Rattle.mesh_file.proofs.check_all.Goals.{in-Vertex, in-Triangle}

pub loop-counts-init : goal.loop-counts-init
loop-counts-init c = (refl, zero-le, after_none _)

pub returns-in_err-step_at : goal.returns-in_err-step_at
returns-in_err-step_at c =
    let p = err_from_is_err_and c.from_residual.result c.from_residual.ensures.1 in
    rw (p.1, p.2) (ap checked (sym (refused-read _ _ _ _ _ c.loop-counts.invariant c.in_err-step_at.ensures)))

pub returns-in-Closed : goal.returns-in-Closed
returns-in-Closed c =
    let s = rw c.in-Closed.is at c.in_ok-step_at.ensures in
    ap checked (sym (closed-read _ _ _ _ c.loop-counts.invariant s))

pub loop-counts-smaller : goal.loop-counts-smaller
loop-counts-smaller c =
    let a = c.args.src.now in
    let l = c.loop-counts in
    let s = c.in_ok-step_at.ensures in
    let h : l.at + 32 ≤ length a =
    elim c.match-branch-2.branch [
      | in-Vertex w ↦ good-whole _ _ _ _ 0 (rw w.in-Vertex.is at s)
      | in-Triangle w ↦ good-whole _ _ _ _ 1 (rw w.in-Triangle.is at s)
    ] in
    omega arith

pub loop-counts-preserved : goal.loop-counts-preserved
loop-counts-preserved c =
    let i = c.loop-counts.invariant in
    let s = c.in_ok-step_at.ensures in
    elim c.match-branch-2.branch [
      | in-Vertex w ↦ rw w.counts-is (vertex-next _ _ _ _ i (rw w.in-Vertex.is at s))
      | in-Triangle w ↦ rw w.counts-is (triangle-next _ _ _ _ i (rw w.in-Triangle.is at s))
    ]
