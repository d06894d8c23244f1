-- What an accepted call has written: its first I indices are the index list of the rules, and the cell that stands for the vertex v is the one
-- that has the number v. From document 01's `answer` and `afterwards`. Assumes nothing.
use Prim.Native.Nat.{ℕ, zero, suc, ◌+◌, ◌<◌}
use native.Mathlib.Omega.{arith}
use mathlib.Core.Bool.{Bool, true, false, ◌&&◌, cond}
use mathlib.Core.List.{List, [], ◌∷◌}
use mathlib.Core.Path.{◌≡◌, sym, ap, ◌∙◌}
use lib.ListN.{length, get_or, take, drop}
use lib.Seq.{take_at}
use lib.Ieee.Bits.{is_true}
use Rattle.lists.specs.Lists.{one, many, place, over}
use Rattle.rules.specs.Grid.{GridPoint, same_point, is_cell}
use Rattle.rules.specs.Vertices.{surface_cell, vertices}
use Rattle.rules.specs.Faces.{indices}
use Rattle.rules.specs.Call.{Call, Buffers, room, answer, flat_points, written, afterwards}
use Rattle.rules.specs.Cutting.{point_in}
use Rattle.lists.proofs.Tests.{one-most}
use Rattle.lists.proofs.Lists.{many-some}
use Rattle.rules.proofs.Counting.{same_point-itself, vertices-once}
use Rattle.rules.proofs.Accepted.{done-counted}
use Rattle.rules.proofs.Locality.{when-done}
use Rattle.rules.proofs.Seen.{ThreeAt, three-at, three-over, length-points}
use Rattle.skin.specs.Links.{number_of}

-- the cell of the vertex v, in a list of three numbers a vertex
abbrev pub cell_at : List ℕ → ℕ → GridPoint
cell_at = point_in

-- an element that a list holds once stands at its own place
module _ (d : GridPoint) where
  own-place : (l : List GridPoint) (v : ℕ) → v < length l → many (same_point (get_or l v d)) l < 2 → place (same_point (get_or l v d)) l ≡ v
  unfolding place many
  own-place [] v h k = absurd (omega arith)
  own-place (x ∷ xs) zero h k = ap (λ (t : Bool). cond t 0 (suc (place (same_point x) xs))) (is_true (same_point x x) (same_point-itself x))
  own-place (x ∷ xs) (suc v) h k = go (same_point (get_or xs v d) x) k (own-place xs v (omega arith))
    where
      f : GridPoint → Bool
      f = same_point (get_or xs v d)

      go : (t : Bool) → one t + many f xs < 2 → (many f xs < 2 → place f xs ≡ v) → cond t 0 (suc (place f xs)) ≡ suc v
      go true k r = absurd (omega (arith, many-some f xs v d (omega arith) (same_point-itself (get_or xs v d))))
      go false k r = ap suc (r (omega arith))

module _ (c : Call) (s : Buffers) (done : (answer c (room s)).number ≡ 0) where
  abbrev vs : List GridPoint
  vs = vertices c.grid c.box

  pub indices-written : take (answer c (room s)).indices (afterwards c s).indices ≡ indices c.grid c.box c.flags
  unfolding written
  indices-written =
      let is : List ℕ = indices c.grid c.box c.flags in
      rw (when-done c s done) (take_at is (drop (length is) s.indices) (answer c (room s)).indices (sym (done-counted c (room s) done).1))

  abbrev origin : GridPoint
  origin = record { x = 0; y = 0; z = 0 }

  vertex-within : (v : ℕ) → v < (answer c (room s)).vertices → v < length vs
  vertex-within v h = omega (arith, (done-counted c (room s) done).0)

  -- the first V cells are the vertices in their order
  cell-written : (v : ℕ) → v < (answer c (room s)).vertices → cell_at (afterwards c s).cells v ≡ get_or vs v origin
  unfolding written
  cell-written v h = rw (when-done c s done) (λ j. record { x = t.first j; y = t.second j; z = t.third j })
    where
      t : ThreeAt (λ (q : GridPoint). q.x) (λ (q : GridPoint). q.y) (λ (q : GridPoint). q.z) (over (flat_points vs) s.cells) v 0 (get_or vs v origin)
      t =
          three-over (λ (q : GridPoint). q.x) (λ (q : GridPoint). q.y) (λ (q : GridPoint). q.z) (flat_points vs) (drop (length (flat_points vs)) s.cells) v 0
          (get_or vs v origin) (omega (arith, vertex-within v h, length-points vs))
          (three-at (λ (q : GridPoint). q.x) (λ (q : GridPoint). q.y) (λ (q : GridPoint). q.z) vs v 0 origin (vertex-within v h))

  -- and each has the number at which it stands
  pub number-written : (v : ℕ) → v < (answer c (room s)).vertices → number_of c.grid c.box (cell_at (afterwards c s).cells v) ≡ v
  number-written v h =
      let p : GridPoint = get_or vs v origin in
      ap (number_of c.grid c.box) (cell-written v h)
      ∙ own-place origin vs v (vertex-within v h) (omega (arith, vertices-once c.grid c.box p, one-most (is_cell c.box p && surface_cell c.grid p)))
