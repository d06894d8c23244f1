-- The verdict on holes of a bed taken layer by layer, from the test of its layers alone: if the test says yes of every layer of the box, then in what all layers brought out
-- each directed triangle side occurs as often as its reverse. Over the contracts of the test, that for C too; and two outcomes that fit one of these are equal. Assumes
-- nothing.
use Prim.Native.Nat.{ℕ, ◌≤◌}
use mathlib.Core.Bool.{true}
use mathlib.Core.List.{List}
use mathlib.Core.Path.{◌≡◌, sym, ap, subst, ◌∙◌}
use lib.Ieee.{Float}
use lib.ListN.{length}
use Rattle.grid.proofs.Instances.{DistanceType, float-type, sixteen-type, eight-type}
use Rattle.lists.specs.Lists.{many}
use Rattle.grid.specs.declared.Block.{Block}
use Rattle.grid.specs.Block.{box_of, flags_of, field_of}
use Rattle.grid.specs.Inside.{Inside}
use Rattle.skin.specs.Links.{link, same_link, links}
use Rattle.skin.specs.Scan.{answers, examined_layer}
use Rattle.skin.proofs.Judged.{yes-closed}
use Rattle.skin.proofs.Said.{same-said}
use Rattle.skin.proofs.LayerByLayer.{every-yes}
use Rattle.skin.proofs.layer.is_enclosed_layer.Kinds as layer-kinds
use Rattle.skin.proofs.layer.is_enclosed_layer.Reads as layer-reads
use Rattle.bed.specs.Words12.{dims_asked, low_asked, high_asked}
use Rattle.bed.proofs.Places.{EnclosedLayerCall, is-enclosed-layer-by-place}
use Rattle.bed.proofs.enclosed.bed_is_enclosed_layer.Kinds as bed-layer-kinds
use Rattle.bed.proofs.enclosed.bed_is_enclosed_layer.Reads as bed-layer-reads
use Rattle.bed.proofs.enclosed.bed_is_enclosed_layer_i16.Kinds as bed-layer-i16-kinds
use Rattle.bed.proofs.enclosed.bed_is_enclosed_layer_i16.Reads as bed-layer-i16-reads
use Rattle.bed.proofs.enclosed.bed_is_enclosed_layer_i8.Kinds as bed-layer-i8-kinds
use Rattle.bed.proofs.enclosed.bed_is_enclosed_layer_i8.Reads as bed-layer-i8-reads
use Rattle.layers.specs.declared.State.{State}
use Rattle.layers.specs.Memory.{Memory}
use Rattle.layers.specs.Offer.{Output}
use Rattle.promises.proofs.OneOutcome.{OneOutcome}
use Rattle.layered_mesh.specs.Fed.{layer_of, Fed, points_in_z}
use Rattle.layered_mesh.proofs.Layered.{layered-mesh}

-- ---- no hole

module _ (sdf : List Float) (k : Block) (inside : Inside sdf k) {n : ℕ} {s : State} {m : Memory} {out : Output} (fed : Fed sdf k n s m out) (all_in : n ≡ points_in_z k) where
  -- by what the contracts of the test say of each layer
  pub layers-no-hole : ((z : ℕ) → k.low.z ≤ z → z ≤ k.high.z → examined_layer (layer_of sdf k z) k.dims k.low k.high z ≡ answers 0 true)
      → (i j : ℕ) → many (same_link (link i j)) (links out.indices) ≡ many (same_link (link j i)) (links out.indices)
  layers-no-hole each i j =
      let e = every-yes sdf k.dims k.low k.high (record { dims = inside.dims; box = inside.box; size = inside.size }) each in
      subst (λ (l : List ℕ). many (same_link (link i j)) (links l) ≡ many (same_link (link j i)) (links l))
      (sym (ap (λ (o : Output). o.indices) (layered-mesh sdf k inside fed all_in))) (yes-closed (field_of sdf k) (box_of k) (length sdf) e (flags_of k) i j)

  -- a call for C on the layer z of the grid that was answered 0 and yes
  pub record SaidYes (z : ℕ) (u : EnclosedLayerCall) : Type 0 where
    pub layer : u.args.0.now ≡ layer_of sdf k z
    pub dims : dims_asked u.args.1.0.now ≡ k.dims
    pub low : low_asked u.args.1.0.now ≡ k.low
    pub high : high_asked u.args.1.0.now ≡ k.high
    pub height : u.args.1.1.0 ≡ z
    pub answered : u.result ≡ 0
    pub yes' : u.last.1.1.1.0 ≡ true

  pub bed-layers-no-hole : (tests : ℕ → EnclosedLayerCall) → ((z : ℕ) → k.low.z ≤ z → z ≤ k.high.z → SaidYes z (tests z))
      → (i j : ℕ) → many (same_link (link i j)) (links out.indices) ≡ many (same_link (link j i)) (links out.indices)
  bed-layers-no-hole tests each =
      layers-no-hole
      (λ z l h.
      let a = each z l h in
      (λ j. examined_layer (sym a.layer j) (sym a.dims j) (sym a.low j) (sym a.high j) (sym a.height j))
      ∙ sym (is-enclosed-layer-by-place (tests z)) ∙ (λ j. answers (a.answered j) (a.yes' j)))

-- ---- two outcomes that fit are equal

-- on numbers of a type
abbrev pub OneLayerTest : DistanceType → Type 0
OneLayerTest D =
    OneOutcome 2 (layer-kinds.ps D.type D.laws D.copy) (layer-kinds.r D.type D.laws D.copy)
    (layer-reads.Learnt D.type D.laws D.copy D.distance D.distance_dict D.clone D.clone_dict)

pub one-layer-test : (D : DistanceType) → OneLayerTest D
one-layer-test D κs a o o' l l' = let s = same-said _ _ (l ∙ sym l') in λ i. record { result = s i; last = o.last }

pub is-enclosed-layer-once : OneLayerTest float-type
is-enclosed-layer-once = one-layer-test float-type

pub is-enclosed-layer-i16-once : OneLayerTest sixteen-type
is-enclosed-layer-i16-once = one-layer-test sixteen-type

pub is-enclosed-layer-i8-once : OneLayerTest eight-type
is-enclosed-layer-i8-once = one-layer-test eight-type

pub bed-is-enclosed-layer-once : OneOutcome 3 bed-layer-kinds.ps bed-layer-kinds.r bed-layer-reads.Learnt
bed-is-enclosed-layer-once κs a o o' l l' = let s = l ∙ sym l' in λ i. record { result = (s i).answer; last = (tt, (tt, (tt, ((s i).enclosed, tt)))) }

pub bed-is-enclosed-layer-i16-once : OneOutcome 3 bed-layer-i16-kinds.ps bed-layer-i16-kinds.r bed-layer-i16-reads.Learnt
bed-is-enclosed-layer-i16-once κs a o o' l l' = let s = l ∙ sym l' in λ i. record { result = (s i).answer; last = (tt, (tt, (tt, ((s i).enclosed, tt)))) }

pub bed-is-enclosed-layer-i8-once : OneOutcome 3 bed-layer-i8-kinds.ps bed-layer-i8-kinds.r bed-layer-i8-reads.Learnt
bed-is-enclosed-layer-i8-once κs a o o' l l' = let s = l ∙ sym l' in λ i. record { result = (s i).answer; last = (tt, (tt, (tt, ((s i).enclosed, tt)))) }
