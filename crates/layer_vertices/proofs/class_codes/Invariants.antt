-- The invariant: the row's part of the map is what the first j cells leave. No code is above 9, so that the sum of four fits. Assumes nothing.
use Prim.Native.Nat.{◌≤◌, ◌-◌}
use mathlib.Core.Path.{◌≡◌}
use lib.Seq.{sets}
use Rattle.layer_vertices.specs.Cells.{code_classes}
use Rattle.layer_vertices.proofs.class_codes.Given as goal

abbrev pub invariant-loop-j : goal.invariant-loop-j
invariant-loop-j l = (l.j ≤ l.n) × (l.map ≡ sets l.initial.map l.at (code_classes l.codes l.here l.there l.j))

abbrev pub decreases-loop-j : goal.decreases-loop-j
decreases-loop-j l = l.n - l.j
