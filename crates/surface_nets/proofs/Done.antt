-- What an answer of 0 says to the pass: the box lies in the grid, and the lists have room for all that is written. And that the lists after a refusal, and
-- after the pass, are those that the rules say. Assumes nothing.
use Prim.Native.Nat.{ℕ, zero, suc, ◌<◌}
use native.Mathlib.Omega.{arith}
use mathlib.Core.List.{List}
use mathlib.Core.Path.{◌≡◌, refl, sym, ◌∙◌}
use lib.Dec.{nltb→le}
use lib.ListN.{length}
use lib.Ieee.{Float}
use Rattle.rules.specs.Call.{Call, Buffers, room, answer, afterwards, written}
use Rattle.rules.proofs.Locality.{when-done, when-refused}
use Rattle.rules.proofs.Accepted.{done-accepted}
use Rattle.grid.specs.declared.Block.{Block}
use Rattle.grid.specs.Block.{box_of, flags_of, field_of, call_of}
use Rattle.grid.specs.Inside.{Inside}
use Rattle.judge.proofs.Judging.{done-enough}
use Rattle.whole_box.specs.LentLists.{Roomy}

module _ (grid : List Float) (k : Block) (s : Buffers) (e : (answer (call_of grid k) (room s)).number ≡ 0) where
  pub done-inside : Inside grid k
  done-inside = let a = done-accepted (call_of grid k) (room s) e in record { dims = a.dims; box = a.box; size = a.length }

  pub done-roomy : Roomy (field_of grid k) (box_of k) (flags_of k) (length grid) s
  done-roomy =
      let a = done-accepted (call_of grid k) (room s) e in
      let h = done-enough (call_of grid k) (room s) e in
      record {
        positions = h.positions;
        normals = h.normals;
        cells = h.cells;
        strides = h.strides;
        crossings = h.crossings;
        map = nltb→le (length s.map) (length grid) a.map;
        indices = h.indices;
      }

above_zero : {n : ℕ} → (n ≡ 0 → ⊥) → 0 < n
above_zero {n = zero} h = absurd (h refl)
above_zero {n = suc n} h = omega arith

module _ (c : Call) (s : Buffers) where
  pub refused-still : {n : ℕ} → n ≡ (answer c (room s)).number → (n ≡ 0 → ⊥) → s ≡ afterwards c s
  refused-still e other = sym (when-refused c s (above_zero (λ z. other (e ∙ z))))

  pub done-written : (answer c (room s)).number ≡ 0 → {t : Buffers} → t ≡ written c s → t ≡ afterwards c s
  done-written e w = w ∙ sym (when-done c s e)
