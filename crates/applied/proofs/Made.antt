-- A call with an outcome that fits its contract, made from lists: what a contract says of arguments and outcome is given, all else (where a list lies, how long
-- it is lent) is anything. Definitions only. Assumes nothing.
use Prim.Native.Nat.{ℕ}
use mathlib.Core.Bool.{Bool}
use mathlib.Core.List.{List, []}
use mathlib.Core.Path.{◌≡◌}
use contract.Lifetimes.{Lfts}
use denote.Bor.{Bor}
use denote.MutBor.{MutBor}
use lib.Ieee.{Float}
use Rattle.std.specs.Prelude.{Result}
use Rattle.rules.specs.Call.{Buffers, answer, afterwards, room}
use Rattle.grid.specs.declared.Extent.{Extent}
use Rattle.grid.specs.declared.EachAxis.{EachAxis}
use Rattle.grid.proofs.Instances.{DistanceType}
use Rattle.judge.specs.declared.Tally.{Tally}
use Rattle.judge.specs.declared.Refusal.{Refusal}
use Rattle.judge.specs.AsRules.{answer_of}
use Rattle.lists.specs.Floats.{Binary32}
use Rattle.surface_nets.specs.AsRules.{call_made}
use Rattle.bed.specs.Boundary.{asked, said}
use Rattle.promises.proofs.Runs.{RunOf, BedRun}
use Rattle.closed_mesh.proofs.Outcome.{MeshOf, Test}
use Rattle.skin.specs.declared.Refusal.{Refusal as Untested}
use Rattle.skin.specs.Answer.{answer_of as said_of_test}
use Rattle.skin.specs.Scan.{examined}

-- a list that is lent
abbrev pub to : {X : Type 0} → X → Bor X
to x = record { ref_ptr = (0, 0); now = x }

-- one that is lent to write to
abbrev pub to_mut : {X : Type 0} → X → MutBor X
to_mut x = record { ref_ptr = (0, 0); ghost_name = 0; now = x }

abbrev eight : Lfts 8
eight = ([], ([], ([], ([], ([], ([], ([], ([], tt))))))))

-- one more, of the type of the distances
abbrev nine : Lfts 9
nine = ([], eight)

module _ (D : DistanceType) (numbers : List D.type.Denot) (dims low high : Extent) (plane : EachAxis) (r : Result Tally Refusal) (before after : Buffers)
    (answered : answer_of r ≡ answer (call_made (D.distance.floats numbers) dims low high plane) (room before))
    (left : after ≡ afterwards (call_made (D.distance.floats numbers) dims low high plane) before) (told : D.distance.held numbers) where
  -- a call of surface_nets on numbers of a type
  abbrev pub run_on : RunOf D
  run_on =
      record {
        lifetimes = nine;
        args = (
          to numbers,
          (
            dims,
            (
              low,
              (
                high,
                (
                  plane,
                  (
                    to_mut before.positions,
                    (to_mut before.normals, (to_mut before.cells, (to_mut before.strides, (to_mut before.crossings, (to_mut before.map, (to_mut before.indices, tt)))))),
                  ),
                ),
              ),
            ),
          ),
        );
        outcome =
            record {
              result = r;
              last = (tt, (tt, (tt, (tt, (tt, (after.positions, (after.normals, (after.cells, (after.strides, (after.crossings, (after.map, (after.indices, tt))))))))))));
            };
        fits = (answered, (left, told));
      }

  -- the same as crate closed_mesh has it
  abbrev pub mesh_on : MeshOf D
  mesh_on =
      record {
        lifetimes = nine;
        args = run_on.args;
        result = r;
        exit = (
          to numbers,
          (
            dims,
            (
              low,
              (
                high,
                (
                  plane,
                  (
                    to_mut after.positions,
                    (to_mut after.normals, (to_mut after.cells, (to_mut after.strides, (to_mut after.crossings, (to_mut after.map, (to_mut after.indices, tt)))))),
                  ),
                ),
              ),
            ),
          ),
        );
        learnt = (answered, (left, told));
      }

-- a call of bed_surface_nets, on twelve words: V and I stand behind the last two parameters, where anything stood before
module _ (grid : List Float) (words : List ℕ) (n v i : ℕ) (before after : Buffers)
    (answered : said n v i ≡ answer (asked grid words) (room before)) (left : after ≡ afterwards (asked grid words) before) (numbers : Binary32 grid) where
  abbrev pub bed_run_of : BedRun
  bed_run_of =
      record {
        lifetimes = ([], ([], ([], eight)));
        args = (
          to grid,
          (
            to words,
            (
              to_mut before.positions,
              (
                to_mut before.normals,
                (to_mut before.cells, (to_mut before.strides, (to_mut before.crossings, (to_mut before.map, (to_mut before.indices, (to_mut 5, (to_mut 6, tt))))))),
              ),
            ),
          ),
        );
        outcome =
            record {
              result = n;
              last = (
                tt,
                (
                  tt,
                  (
                    after.positions,
                    (after.normals, (after.cells, (after.strides, (after.crossings, (after.map, (after.indices, (v, (i, tt)))))))),
                  ),
                ),
              );
            };
        fits = (answered, (left, numbers));
      }

-- a call of is_enclosed
abbrev pub test_of : (grid : List Float) (dims low high : Extent) (r : Result Bool Untested) → said_of_test r ≡ examined grid dims low high → Test
test_of grid dims low high r e =
    record {
      lifetimes = ([], ([], tt));
      args = (to grid, (dims, (low, (high, tt))));
      result = r;
      exit = (to grid, (dims, (low, (high, tt))));
      learnt = e;
    }
