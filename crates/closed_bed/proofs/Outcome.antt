-- Outcomes of the calls that close a grid, for any type of numbers, for floats, 16-bit and 8-bit ones, and for C: what went in, and what the contract then says,
-- as `Closes`. `Outcome` is that of crate closed_mesh. Assumes nothing.
use Prim.Native.Nat.{ℕ, ◌+◌, ◌-◌}
use mathlib.Core.List.{List, map}
use mathlib.Core.Path.{◌≡◌, refl, sym, ap, ◌∙◌}
use lib.Ieee.{Float, binary32, of_int}
use lib.ListN.{length, length-map, take}
use Rattle.grid.specs.declared.Extent.{Extent}
use Rattle.grid.specs.Block.{point}
use Rattle.grid.specs.Values.{as_floats, floats-themselves}
use Rattle.closing.specs.Closed.{closed_dims, point_count}
use Rattle.closing.specs.Answers.{close_answer}
use Rattle.closing.specs.Refused.{answer_of}
use Rattle.grid.proofs.Instances.{DistanceType, float-type, sixteen-type, eight-type}
use Rattle.grid.proofs.Places.{as-long}
use Rattle.closing.proofs.close.Kinds as close-kinds
use Rattle.closing.proofs.close.Reads as close
use Rattle.closing.proofs.close_layer.Kinds as layer-kinds
use Rattle.closing.proofs.close_layer.Reads as layer
use Rattle.bed.specs.Words12.{dims_asked}
use Rattle.bed.proofs.closed.bed_close.Kinds as bed-close-kinds
use Rattle.bed.proofs.closed.bed_close.Reads as bed-close
use Rattle.bed.proofs.closed.bed_close_i16.Kinds as bed-close-i16-kinds
use Rattle.bed.proofs.closed.bed_close_i16.Reads as bed-close-i16
use Rattle.bed.proofs.closed.bed_close_i8.Kinds as bed-close-i8-kinds
use Rattle.bed.proofs.closed.bed_close_i8.Reads as bed-close-i8
use Rattle.closed_mesh.proofs.Outcome.{Outcome, Input, input}
use Rattle.closed_bed.proofs.Values.{Closes}

-- the closed dimensions, and the corners of the closed grid's whole box, 0, 0, 0 and those dimensions less 1, as the calls take them
abbrev pub closed_extent : Extent → Extent
closed_extent e = record { x = e.x + 3; y = e.y + 3; z = e.z + 3 }

abbrev pub origin : Extent
origin = record { x = 0; y = 0; z = 0 }

abbrev pub far_corner : Extent → Extent
far_corner e = record { x = e.x + 3 - 1; y = e.y + 3 - 1; z = e.z + 3 - 1 }

-- what the mesher and the test are given after a grid of these dimensions was closed: the first of the room, and the whole box
abbrev pub closed_input : Extent → List Float → Input
closed_input dims exit = input (take (point_count (closed_dims (point dims))) exit) (closed_extent dims) origin (far_corner dims)

-- ---- close

-- the law of a type of distances: the floats of a list are those of its numbers
abbrev pub FloatsAre : DistanceType → Type 0
FloatsAre D = (l : List D.type.Denot) → D.distance.floats l ≡ map D.distance.value l

module _ (D : DistanceType) where
  abbrev pub CloseAt : Type 0
  CloseAt =
      Outcome 3 (close-kinds.ps D.type D.laws D.copy) (close-kinds.r D.type D.laws D.copy)
      (close.Learnt D.type D.laws D.copy D.distance D.distance_dict D.clone D.clone_dict)

  module _ (o : CloseAt) where
    abbrev pub close_dims_at : Extent
    close_dims_at = o.args.1.0

    abbrev pub close_exit_at : List Float
    close_exit_at = let (_, (_, (_, (closed, _)))) = o.exit in closed.now

    pub close-is-at : FloatsAre D → answer_of o.result ≡ 0
        → (let (sdf, (dims, (wall, (closed, _)))) = o.args in Closes (point dims) wall (D.distance.floats sdf.now) closed.now (answer_of o.result) close_exit_at)
    close-is-at are done =
        let (sdf, (dims, (wall, (closed, _)))) = o.args in
        record {
          said = o.learnt.0 ∙ ap (λ (n : ℕ). close_answer (point dims) n wall (length closed.now)) (sym (as-long are sdf.now));
          left = o.learnt.1;
          done = done;
        }

abbrev pub Close : Type 0
Close = CloseAt float-type

module _ (o : Close) where
  abbrev pub close_dims : Extent
  close_dims = close_dims_at float-type o

  abbrev pub close_exit : List Float
  close_exit = close_exit_at float-type o

  pub close-is : answer_of o.result ≡ 0
      → (let (sdf, (dims, (wall, (closed, _)))) = o.args in Closes (point dims) wall sdf.now closed.now (answer_of o.result) close_exit)
  close-is = close-is-at float-type o floats-themselves

abbrev pub Close16 : Type 0
Close16 = CloseAt sixteen-type

module _ (o : Close16) where
  abbrev pub close_dims16 : Extent
  close_dims16 = close_dims_at sixteen-type o

  abbrev pub close_exit16 : List Float
  close_exit16 = close_exit_at sixteen-type o

  pub close-is-16 : answer_of o.result ≡ 0
      → (let (sdf, (dims, (wall, (closed, _)))) = o.args in Closes (point dims) wall (as_floats sdf.now) closed.now (answer_of o.result) close_exit16)
  close-is-16 = close-is-at sixteen-type o (λ l. refl)

abbrev pub Close8 : Type 0
Close8 = CloseAt eight-type

module _ (o : Close8) where
  abbrev pub close_dims8 : Extent
  close_dims8 = close_dims_at eight-type o

  abbrev pub close_exit8 : List Float
  close_exit8 = close_exit_at eight-type o

  pub close-is-8 : answer_of o.result ≡ 0
      → (let (sdf, (dims, (wall, (closed, _)))) = o.args in Closes (point dims) wall (as_floats sdf.now) closed.now (answer_of o.result) close_exit8)
  close-is-8 = close-is-at eight-type o (λ l. refl)

-- ---- close_layer

abbrev pub CloseLayer : Type 0
CloseLayer =
    Outcome 3 (layer-kinds.ps float-type.type float-type.laws float-type.copy) (layer-kinds.r float-type.type float-type.laws float-type.copy)
    (layer.Learnt float-type.type float-type.laws float-type.copy float-type.distance float-type.distance_dict float-type.clone float-type.clone_dict)

module _ (o : CloseLayer) where
  abbrev pub layer_exit : List Float
  layer_exit = let (_, (_, (_, (_, (closed, _))))) = o.exit in closed.now

-- ---- bed_close

abbrev pub BedClose : Type 0
BedClose = Outcome 3 bed-close-kinds.ps bed-close-kinds.r bed-close.Learnt

module _ (o : BedClose) where
  abbrev pub bed_close_dims : Extent
  bed_close_dims = let (_, (words, _)) = o.args in dims_asked words.now

  abbrev pub bed_close_exit : List Float
  bed_close_exit = let (_, (_, (_, (closed, _)))) = o.exit in closed.now

  pub bed-close-is : o.result ≡ 0
      → (let (sdf, (words, (wall, (closed, _)))) = o.args in Closes (point (dims_asked words.now)) wall sdf.now closed.now o.result bed_close_exit)
  bed-close-is done = record { said = o.learnt.0; left = o.learnt.1; done = done }

-- ---- bed_close_i16

abbrev pub BedClose16 : Type 0
BedClose16 = Outcome 3 bed-close-i16-kinds.ps bed-close-i16-kinds.r bed-close-i16.Learnt

module _ (o : BedClose16) where
  abbrev pub bed_close_dims16 : Extent
  bed_close_dims16 = let (_, (words, _)) = o.args in dims_asked words.now

  abbrev pub bed_close_exit16 : List Float
  bed_close_exit16 = let (_, (_, (_, (closed, _)))) = o.exit in closed.now

  pub bed-close-is-16 : o.result ≡ 0
      → (let (sdf, (words, (wall, (closed, _)))) = o.args in Closes (point (dims_asked words.now)) wall (as_floats sdf.now) closed.now o.result bed_close_exit16)
  bed-close-is-16 done =
      let (sdf, (words, (wall, (closed, _)))) = o.args in
      record { said = o.learnt.0 ∙ ap (λ (n : ℕ). close_answer (point (dims_asked words.now)) n wall (length closed.now)) (sym (length-map sdf.now (of_int binary32))); left = o.learnt.1; done = done }

-- ---- bed_close_i8

abbrev pub BedClose8 : Type 0
BedClose8 = Outcome 3 bed-close-i8-kinds.ps bed-close-i8-kinds.r bed-close-i8.Learnt

module _ (o : BedClose8) where
  abbrev pub bed_close_dims8 : Extent
  bed_close_dims8 = let (_, (words, _)) = o.args in dims_asked words.now

  abbrev pub bed_close_exit8 : List Float
  bed_close_exit8 = let (_, (_, (_, (closed, _)))) = o.exit in closed.now

  pub bed-close-is-8 : o.result ≡ 0
      → (let (sdf, (words, (wall, (closed, _)))) = o.args in Closes (point (dims_asked words.now)) wall (as_floats sdf.now) closed.now o.result bed_close_exit8)
  bed-close-is-8 done =
      let (sdf, (words, (wall, (closed, _)))) = o.args in
      record { said = o.learnt.0 ∙ ap (λ (n : ℕ). close_answer (point (dims_asked words.now)) n wall (length closed.now)) (sym (length-map sdf.now (of_int binary32))); left = o.learnt.1; done = done }
