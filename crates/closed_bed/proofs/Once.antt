-- Two outcomes of each function of closing that fit its contract, at any type of a grid's numbers, and of its doubles for C, are equal: the answer, and what the
-- lent room holds. Each contract is an equation by what went in. Assumes nothing.
use Prim.Native.Nat.{ℕ}
use mathlib.Core.List.{List}
use mathlib.Core.Path.{◌≡◌, sym, ap, ◌∙◌}
use lib.IntN.{ℤ}
use lib.Ieee.{Float}
use lib.ListN.{length}
use Rattle.grid.specs.declared.Extent.{Extent}
use Rattle.grid.specs.Block.{point}
use Rattle.grid.specs.Values.{as_floats}
use Rattle.bed.specs.Words12.{dims_asked}
use Rattle.closing.specs.Answers.{close_answer, closed_room, layer_answer, layer_room}
use Rattle.closing.specs.Wall.{deepest, wall_for}
use Rattle.grid.proofs.Instances.{DistanceType, float-type, sixteen-type, eight-type}
use Rattle.closing.proofs.Numbers.{one-answer}
use Rattle.closed_mesh.proofs.Outcome.{Outcome}
use Rattle.closed_bed.proofs.Outcome.{CloseAt}
use Rattle.closing.proofs.close_layer.Kinds as close-layer-kinds
use Rattle.closing.proofs.close_layer.Reads as close-layer-reads
use Rattle.closing.proofs.deepest.Kinds as deepest-kinds
use Rattle.closing.proofs.deepest.Reads as deepest-reads
use Rattle.closing.proofs.wall_for.Kinds as wall-for-kinds
use Rattle.closing.proofs.wall_for.Reads as wall-for-reads
use Rattle.bed.proofs.closed.bed_close.Kinds as bed-close-kinds
use Rattle.bed.proofs.closed.bed_close.Reads as bed-close-reads
use Rattle.bed.proofs.closed.bed_close_i16.Kinds as bed-close-i16-kinds
use Rattle.bed.proofs.closed.bed_close_i16.Reads as bed-close-i16-reads
use Rattle.bed.proofs.closed.bed_close_i8.Kinds as bed-close-i8-kinds
use Rattle.bed.proofs.closed.bed_close_i8.Reads as bed-close-i8-reads
use Rattle.bed.proofs.closed.bed_close_layer.Kinds as bed-close-layer-kinds
use Rattle.bed.proofs.closed.bed_close_layer.Reads as bed-close-layer-reads
use Rattle.bed.proofs.closed.bed_close_layer_i16.Kinds as bed-close-layer-i16-kinds
use Rattle.bed.proofs.closed.bed_close_layer_i16.Reads as bed-close-layer-i16-reads
use Rattle.bed.proofs.closed.bed_close_layer_i8.Kinds as bed-close-layer-i8-kinds
use Rattle.bed.proofs.closed.bed_close_layer_i8.Reads as bed-close-layer-i8-reads
use Rattle.bed.proofs.closed.bed_deepest.Kinds as bed-deepest-kinds
use Rattle.bed.proofs.closed.bed_deepest.Reads as bed-deepest-reads
use Rattle.bed.proofs.closed.bed_deepest_i16.Kinds as bed-deepest-i16-kinds
use Rattle.bed.proofs.closed.bed_deepest_i16.Reads as bed-deepest-i16-reads
use Rattle.bed.proofs.closed.bed_deepest_i8.Kinds as bed-deepest-i8-kinds
use Rattle.bed.proofs.closed.bed_deepest_i8.Reads as bed-deepest-i8-reads
use Rattle.bed.proofs.closed.bed_wall_for.Kinds as bed-wall-for-kinds
use Rattle.bed.proofs.closed.bed_wall_for.Reads as bed-wall-for-reads

-- what goes into a call that closes: the distances, the dimensions, the wall, the room; and of a layer its height, which is 0 for the whole grid
pub record Given (A : Type 0) : Type 0 where
  pub numbers : List A
  pub dims : Extent
  pub z : ℕ
  pub wall : Float
  pub room : List Float

abbrev given : {A : Type 0} → List A → Extent → ℕ → Float → List Float → Given A
given numbers dims z wall room = record { numbers = numbers; dims = dims; z = z; wall = wall; room = room }

-- ---- close, close_layer and deepest, at any type of numbers

module _ (D : DistanceType) where
  module _ (o : CloseAt D) where
    abbrev pub given-close-at : Given D.type.Denot
    given-close-at = let (numbers, (dims, (wall, (closed, _)))) = o.args in given numbers.now (dims) 0 wall closed.now

    abbrev pub exit-close-at : List Float
    exit-close-at = let (_, (_, (_, (closed, _)))) = o.exit in closed.now

  pub close-at-once : (o o' : CloseAt D) → given-close-at o ≡ given-close-at o' → (o.result ≡ o'.result) × (exit-close-at o ≡ exit-close-at o')
  close-at-once o o' same = (
    one-answer o.result o'.result
        (o.learnt.0 ∙ ap (λ (g : Given D.type.Denot). close_answer (point g.dims) (length g.numbers) g.wall (length g.room)) same ∙ sym o'.learnt.0),
    o.learnt.1 ∙ ap (λ (g : Given D.type.Denot). closed_room (point g.dims) g.wall (D.distance.floats g.numbers) g.room) same ∙ sym o'.learnt.1,
  )

  abbrev pub CloseLayerAt : Type 0
  CloseLayerAt =
      Outcome 3 (close-layer-kinds.ps D.type D.laws D.copy) (close-layer-kinds.r D.type D.laws D.copy)
      (close-layer-reads.Learnt D.type D.laws D.copy D.distance D.distance_dict D.clone D.clone_dict)

  module _ (o : CloseLayerAt) where
    abbrev pub given-close-layer-at : Given D.type.Denot
    given-close-layer-at = let (numbers, (dims, (z, (wall, (closed, _))))) = o.args in given numbers.now (dims) z wall closed.now

    abbrev pub exit-close-layer-at : List Float
    exit-close-layer-at = let (_, (_, (_, (_, (closed, _))))) = o.exit in closed.now

  pub close-layer-at-once : (o o' : CloseLayerAt) → given-close-layer-at o ≡ given-close-layer-at o'
      → (o.result ≡ o'.result) × (exit-close-layer-at o ≡ exit-close-layer-at o')
  close-layer-at-once o o' same = (
    one-answer o.result o'.result
        (o.learnt.0 ∙ ap (λ (g : Given D.type.Denot). layer_answer (point g.dims) g.z (length g.numbers) g.wall (length g.room)) same ∙ sym o'.learnt.0),
    o.learnt.1 ∙ ap (λ (g : Given D.type.Denot). layer_room (point g.dims) g.wall g.z (D.distance.floats g.numbers) g.room) same ∙ sym o'.learnt.1,
  )

  abbrev pub DeepestAt : Type 0
  DeepestAt =
      Outcome 2 (deepest-kinds.ps D.type D.laws D.copy) (deepest-kinds.r D.type D.laws D.copy)
      (deepest-reads.Learnt D.type D.laws D.copy D.distance D.distance_dict D.clone D.clone_dict)

  pub deepest-at-once : (o o' : DeepestAt)
      → (let (found, (sdf, _)) = o.args in let (found', (sdf', _)) = o'.args in found ≡ found' → sdf.now ≡ sdf'.now → o.result ≡ o'.result)
  deepest-at-once o o' e f = o.learnt ∙ (λ j. deepest (e j) (D.distance.floats (f j))) ∙ sym o'.learnt

-- ---- at floats

abbrev pub Close : Type 0
Close = CloseAt float-type

module _ (o : Close) where
  abbrev pub given-close : Given Float
  given-close = given-close-at float-type o

  abbrev pub exit-close : List Float
  exit-close = exit-close-at float-type o

pub close-once : (o o' : Close) → given-close o ≡ given-close o' → (o.result ≡ o'.result) × (exit-close o ≡ exit-close o')
close-once = close-at-once float-type

abbrev pub CloseLayer : Type 0
CloseLayer = CloseLayerAt float-type

module _ (o : CloseLayer) where
  abbrev pub given-close-layer : Given Float
  given-close-layer = given-close-layer-at float-type o

  abbrev pub exit-close-layer : List Float
  exit-close-layer = exit-close-layer-at float-type o

pub close-layer-once : (o o' : CloseLayer) → given-close-layer o ≡ given-close-layer o'
    → (o.result ≡ o'.result) × (exit-close-layer o ≡ exit-close-layer o')
close-layer-once = close-layer-at-once float-type

abbrev pub Deepest : Type 0
Deepest = DeepestAt float-type

pub deepest-once : (o o' : Deepest)
    → (let (found, (sdf, _)) = o.args in let (found', (sdf', _)) = o'.args in found ≡ found' → sdf.now ≡ sdf'.now → o.result ≡ o'.result)
deepest-once = deepest-at-once float-type

-- ---- at 16 bits

abbrev pub CloseI16 : Type 0
CloseI16 = CloseAt sixteen-type

module _ (o : CloseI16) where
  abbrev pub given-close-i16 : Given ℤ
  given-close-i16 = given-close-at sixteen-type o

  abbrev pub exit-close-i16 : List Float
  exit-close-i16 = exit-close-at sixteen-type o

pub close-i16-once : (o o' : CloseI16) → given-close-i16 o ≡ given-close-i16 o' → (o.result ≡ o'.result) × (exit-close-i16 o ≡ exit-close-i16 o')
close-i16-once = close-at-once sixteen-type

abbrev pub CloseLayerI16 : Type 0
CloseLayerI16 = CloseLayerAt sixteen-type

module _ (o : CloseLayerI16) where
  abbrev pub given-close-layer-i16 : Given ℤ
  given-close-layer-i16 = given-close-layer-at sixteen-type o

  abbrev pub exit-close-layer-i16 : List Float
  exit-close-layer-i16 = exit-close-layer-at sixteen-type o

pub close-layer-i16-once : (o o' : CloseLayerI16) → given-close-layer-i16 o ≡ given-close-layer-i16 o'
    → (o.result ≡ o'.result) × (exit-close-layer-i16 o ≡ exit-close-layer-i16 o')
close-layer-i16-once = close-layer-at-once sixteen-type

abbrev pub DeepestI16 : Type 0
DeepestI16 = DeepestAt sixteen-type

pub deepest-i16-once : (o o' : DeepestI16)
    → (let (found, (sdf, _)) = o.args in let (found', (sdf', _)) = o'.args in found ≡ found' → sdf.now ≡ sdf'.now → o.result ≡ o'.result)
deepest-i16-once = deepest-at-once sixteen-type

-- ---- at 8 bits

abbrev pub CloseI8 : Type 0
CloseI8 = CloseAt eight-type

module _ (o : CloseI8) where
  abbrev pub given-close-i8 : Given ℤ
  given-close-i8 = given-close-at eight-type o

  abbrev pub exit-close-i8 : List Float
  exit-close-i8 = exit-close-at eight-type o

pub close-i8-once : (o o' : CloseI8) → given-close-i8 o ≡ given-close-i8 o' → (o.result ≡ o'.result) × (exit-close-i8 o ≡ exit-close-i8 o')
close-i8-once = close-at-once eight-type

abbrev pub CloseLayerI8 : Type 0
CloseLayerI8 = CloseLayerAt eight-type

module _ (o : CloseLayerI8) where
  abbrev pub given-close-layer-i8 : Given ℤ
  given-close-layer-i8 = given-close-layer-at eight-type o

  abbrev pub exit-close-layer-i8 : List Float
  exit-close-layer-i8 = exit-close-layer-at eight-type o

pub close-layer-i8-once : (o o' : CloseLayerI8) → given-close-layer-i8 o ≡ given-close-layer-i8 o'
    → (o.result ≡ o'.result) × (exit-close-layer-i8 o ≡ exit-close-layer-i8 o')
close-layer-i8-once = close-layer-at-once eight-type

abbrev pub DeepestI8 : Type 0
DeepestI8 = DeepestAt eight-type

pub deepest-i8-once : (o o' : DeepestI8)
    → (let (found, (sdf, _)) = o.args in let (found', (sdf', _)) = o'.args in found ≡ found' → sdf.now ≡ sdf'.now → o.result ≡ o'.result)
deepest-i8-once = deepest-at-once eight-type

-- ---- wall_for

abbrev pub WallFor : Type 0
WallFor = Outcome 0 wall-for-kinds.ps wall-for-kinds.r wall-for-reads.Learnt

pub wall-for-once : (o o' : WallFor) → o.args.0 ≡ o'.args.0 → o.result ≡ o'.result
wall-for-once o o' e = o.learnt ∙ ap wall_for e ∙ sym o'.learnt

-- ---- bed_close

abbrev pub BedClose : Type 0
BedClose = Outcome 3 bed-close-kinds.ps bed-close-kinds.r bed-close-reads.Learnt

module _ (o : BedClose) where
  abbrev pub given-bed-close : Given Float
  given-bed-close = let (numbers, (words, (wall, (closed, _)))) = o.args in given numbers.now (dims_asked words.now) 0 wall closed.now

  abbrev pub exit-bed-close : List Float
  exit-bed-close = let (_, (_, (_, (closed, _)))) = o.exit in closed.now

pub bed-close-once : (o o' : BedClose) → given-bed-close o ≡ given-bed-close o' → (o.result ≡ o'.result) × (exit-bed-close o ≡ exit-bed-close o')
bed-close-once o o' same = (
  o.learnt.0 ∙ ap (λ (g : Given Float). close_answer (point g.dims) (length g.numbers) g.wall (length g.room)) same ∙ sym o'.learnt.0,
  o.learnt.1 ∙ ap (λ (g : Given Float). closed_room (point g.dims) g.wall g.numbers g.room) same ∙ sym o'.learnt.1,
)

-- ---- bed_close_i16

abbrev pub BedCloseI16 : Type 0
BedCloseI16 = Outcome 3 bed-close-i16-kinds.ps bed-close-i16-kinds.r bed-close-i16-reads.Learnt

module _ (o : BedCloseI16) where
  abbrev pub given-bed-close-i16 : Given ℤ
  given-bed-close-i16 = let (numbers, (words, (wall, (closed, _)))) = o.args in given numbers.now (dims_asked words.now) 0 wall closed.now

  abbrev pub exit-bed-close-i16 : List Float
  exit-bed-close-i16 = let (_, (_, (_, (closed, _)))) = o.exit in closed.now

pub bed-close-i16-once : (o o' : BedCloseI16) → given-bed-close-i16 o ≡ given-bed-close-i16 o' → (o.result ≡ o'.result) × (exit-bed-close-i16 o ≡ exit-bed-close-i16 o')
bed-close-i16-once o o' same = (
  o.learnt.0 ∙ ap (λ (g : Given ℤ). close_answer (point g.dims) (length g.numbers) g.wall (length g.room)) same ∙ sym o'.learnt.0,
  o.learnt.1 ∙ ap (λ (g : Given ℤ). closed_room (point g.dims) g.wall (as_floats g.numbers) g.room) same ∙ sym o'.learnt.1,
)

-- ---- bed_close_i8

abbrev pub BedCloseI8 : Type 0
BedCloseI8 = Outcome 3 bed-close-i8-kinds.ps bed-close-i8-kinds.r bed-close-i8-reads.Learnt

module _ (o : BedCloseI8) where
  abbrev pub given-bed-close-i8 : Given ℤ
  given-bed-close-i8 = let (numbers, (words, (wall, (closed, _)))) = o.args in given numbers.now (dims_asked words.now) 0 wall closed.now

  abbrev pub exit-bed-close-i8 : List Float
  exit-bed-close-i8 = let (_, (_, (_, (closed, _)))) = o.exit in closed.now

pub bed-close-i8-once : (o o' : BedCloseI8) → given-bed-close-i8 o ≡ given-bed-close-i8 o' → (o.result ≡ o'.result) × (exit-bed-close-i8 o ≡ exit-bed-close-i8 o')
bed-close-i8-once o o' same = (
  o.learnt.0 ∙ ap (λ (g : Given ℤ). close_answer (point g.dims) (length g.numbers) g.wall (length g.room)) same ∙ sym o'.learnt.0,
  o.learnt.1 ∙ ap (λ (g : Given ℤ). closed_room (point g.dims) g.wall (as_floats g.numbers) g.room) same ∙ sym o'.learnt.1,
)

-- ---- bed_close_layer

abbrev pub BedCloseLayer : Type 0
BedCloseLayer = Outcome 3 bed-close-layer-kinds.ps bed-close-layer-kinds.r bed-close-layer-reads.Learnt

module _ (o : BedCloseLayer) where
  abbrev pub given-bed-close-layer : Given Float
  given-bed-close-layer = let (numbers, (words, (z, (wall, (closed, _))))) = o.args in given numbers.now (dims_asked words.now) z wall closed.now

  abbrev pub exit-bed-close-layer : List Float
  exit-bed-close-layer = let (_, (_, (_, (_, (closed, _))))) = o.exit in closed.now

pub bed-close-layer-once : (o o' : BedCloseLayer) → given-bed-close-layer o ≡ given-bed-close-layer o' → (o.result ≡ o'.result) × (exit-bed-close-layer o ≡ exit-bed-close-layer o')
bed-close-layer-once o o' same = (
  o.learnt.0 ∙ ap (λ (g : Given Float). layer_answer (point g.dims) g.z (length g.numbers) g.wall (length g.room)) same ∙ sym o'.learnt.0,
  o.learnt.1 ∙ ap (λ (g : Given Float). layer_room (point g.dims) g.wall g.z g.numbers g.room) same ∙ sym o'.learnt.1,
)

-- ---- bed_close_layer_i16

abbrev pub BedCloseLayerI16 : Type 0
BedCloseLayerI16 = Outcome 3 bed-close-layer-i16-kinds.ps bed-close-layer-i16-kinds.r bed-close-layer-i16-reads.Learnt

module _ (o : BedCloseLayerI16) where
  abbrev pub given-bed-close-layer-i16 : Given ℤ
  given-bed-close-layer-i16 = let (numbers, (words, (z, (wall, (closed, _))))) = o.args in given numbers.now (dims_asked words.now) z wall closed.now

  abbrev pub exit-bed-close-layer-i16 : List Float
  exit-bed-close-layer-i16 = let (_, (_, (_, (_, (closed, _))))) = o.exit in closed.now

pub bed-close-layer-i16-once : (o o' : BedCloseLayerI16) → given-bed-close-layer-i16 o ≡ given-bed-close-layer-i16 o' → (o.result ≡ o'.result) × (exit-bed-close-layer-i16 o ≡ exit-bed-close-layer-i16 o')
bed-close-layer-i16-once o o' same = (
  o.learnt.0 ∙ ap (λ (g : Given ℤ). layer_answer (point g.dims) g.z (length g.numbers) g.wall (length g.room)) same ∙ sym o'.learnt.0,
  o.learnt.1 ∙ ap (λ (g : Given ℤ). layer_room (point g.dims) g.wall g.z (as_floats g.numbers) g.room) same ∙ sym o'.learnt.1,
)

-- ---- bed_close_layer_i8

abbrev pub BedCloseLayerI8 : Type 0
BedCloseLayerI8 = Outcome 3 bed-close-layer-i8-kinds.ps bed-close-layer-i8-kinds.r bed-close-layer-i8-reads.Learnt

module _ (o : BedCloseLayerI8) where
  abbrev pub given-bed-close-layer-i8 : Given ℤ
  given-bed-close-layer-i8 = let (numbers, (words, (z, (wall, (closed, _))))) = o.args in given numbers.now (dims_asked words.now) z wall closed.now

  abbrev pub exit-bed-close-layer-i8 : List Float
  exit-bed-close-layer-i8 = let (_, (_, (_, (_, (closed, _))))) = o.exit in closed.now

pub bed-close-layer-i8-once : (o o' : BedCloseLayerI8) → given-bed-close-layer-i8 o ≡ given-bed-close-layer-i8 o' → (o.result ≡ o'.result) × (exit-bed-close-layer-i8 o ≡ exit-bed-close-layer-i8 o')
bed-close-layer-i8-once o o' same = (
  o.learnt.0 ∙ ap (λ (g : Given ℤ). layer_answer (point g.dims) g.z (length g.numbers) g.wall (length g.room)) same ∙ sym o'.learnt.0,
  o.learnt.1 ∙ ap (λ (g : Given ℤ). layer_room (point g.dims) g.wall g.z (as_floats g.numbers) g.room) same ∙ sym o'.learnt.1,
)

-- ---- bed_deepest

abbrev pub BedDeepest : Type 0
BedDeepest = Outcome 1 bed-deepest-kinds.ps bed-deepest-kinds.r bed-deepest-reads.Learnt

pub bed-deepest-once : (o o' : BedDeepest) → (let (found, (sdf, _)) = o.args in let (found', (sdf', _)) = o'.args in found ≡ found' → sdf.now ≡ sdf'.now → o.result ≡ o'.result)
bed-deepest-once o o' e f = o.learnt ∙ (λ j. deepest (e j) (f j)) ∙ sym o'.learnt

-- ---- bed_deepest_i16

abbrev pub BedDeepestI16 : Type 0
BedDeepestI16 = Outcome 1 bed-deepest-i16-kinds.ps bed-deepest-i16-kinds.r bed-deepest-i16-reads.Learnt

pub bed-deepest-i16-once : (o o' : BedDeepestI16) → (let (found, (sdf, _)) = o.args in let (found', (sdf', _)) = o'.args in found ≡ found' → sdf.now ≡ sdf'.now → o.result ≡ o'.result)
bed-deepest-i16-once o o' e f = o.learnt ∙ (λ j. deepest (e j) (as_floats (f j))) ∙ sym o'.learnt

-- ---- bed_deepest_i8

abbrev pub BedDeepestI8 : Type 0
BedDeepestI8 = Outcome 1 bed-deepest-i8-kinds.ps bed-deepest-i8-kinds.r bed-deepest-i8-reads.Learnt

pub bed-deepest-i8-once : (o o' : BedDeepestI8) → (let (found, (sdf, _)) = o.args in let (found', (sdf', _)) = o'.args in found ≡ found' → sdf.now ≡ sdf'.now → o.result ≡ o'.result)
bed-deepest-i8-once o o' e f = o.learnt ∙ (λ j. deepest (e j) (as_floats (f j))) ∙ sym o'.learnt

-- ---- bed_wall_for

abbrev pub BedWallFor : Type 0
BedWallFor = Outcome 0 bed-wall-for-kinds.ps bed-wall-for-kinds.r bed-wall-for-reads.Learnt

pub bed-wall-for-once : (o o' : BedWallFor) → o.args.0 ≡ o'.args.0 → o.result ≡ o'.result
bed-wall-for-once o o' e = o.learnt ∙ ap wall_for e ∙ sym o'.learnt
