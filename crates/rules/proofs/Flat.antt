-- Document 01, "Flat boxes (min equals max on an axis) are accepted if 1 to 5 do not apply, and give 0, 0": a flat box has no cell, so no vertex and no
-- index, and every room is enough for none. Assumes nothing.
use Prim.Native.Nat.{ℕ, zero-le}
use native.Mathlib.Omega.{arith}
use mathlib.Core.Bool.{false}
use mathlib.Core.List.{List, []}
use mathlib.Core.Path.{◌≡◌, refl, ap, ap₂, ◌∙◌}
use borrow.Author.Tests.{le-ltb}
use lib.Dec.{T, ltb}
use lib.ListN.{length}
use Rattle.lists.specs.Lists.{joined}
use Rattle.rules.specs.Grid.{GridPoint, Axis, axis_x, axis_y, axis_z, Box, Field, along, is_cell}
use Rattle.rules.specs.Vertices.{vertices}
use Rattle.rules.specs.Faces.{Flags, edges, indices}
use Rattle.rules.specs.Call.{Call, Room, answers, room_answer, answer}
use Rattle.lists.proofs.Lists.{All, none, more}
use Rattle.rules.proofs.Indexes.{cell-within}
use Rattle.rules.proofs.FourCells.{gives-cell}
use Rattle.rules.proofs.Edges.{edges-all}
use Rattle.rules.proofs.Numbers.{face_numbers, indices-are}
use Rattle.rules.proofs.Inside.{vertices-all}
use Rattle.rules.proofs.Accepted.{Accepted, accepted-answer}

all-empty : {A : Type 0} {P : A → Type 0} {l : List A} → All P l → ((x : A) → P x → ⊥) → l ≡ []
all-empty none h = refl
all-empty (more p q) h = absurd (h _ p)

module _ (b : Box) (a : Axis) (flat : along a b.low ≡ along a b.high) where
  flat-cell : (c : GridPoint) → T (is_cell b c) → ⊥
  flat-cell c t = go a flat
    where
      go : (a : Axis) → along a b.low ≡ along a b.high → ⊥
      go axis_x e = let w = cell-within b c t in omega arith
      go axis_y e = let w = cell-within b c t in omega arith
      go axis_z e = let w = cell-within b c t in omega arith

  pub flat-vertices : (g : Field) → vertices g b ≡ []
  flat-vertices g = all-empty (vertices-all g b) (λ c t. flat-cell c t.0)

  pub flat-indices : (g : Field) (m : Flags) → indices g b m ≡ []
  unfolding joined
  flat-indices g m =
      let none_left : edges g b m ≡ [] = all-empty (edges-all g b m) (λ e t. flat-cell e.from (gives-cell g b m e t)) in
      indices-are g b m ∙ ap (joined (face_numbers g b)) none_left

-- every room holds no vertex and no index
room-empty : (r : Room) → room_answer r 0 0 ≡ answers 0 0 0
unfolding room_answer
room-empty r = simp (none-short r.positions, none-short r.normals, none-short r.cells, none-short r.strides, none-short r.crossings, none-short r.indices)
  where
    none-short : (n : ℕ) → ltb n 0 ≡ false
    none-short n = le-ltb n 0 zero-le

pub flat-answer : (c : Call) (r : Room) (a : Axis) → along a c.box.low ≡ along a c.box.high → Accepted c.grid c.size r.map c.box
    → answer c r ≡ answers 0 0 0
flat-answer c r a flat ok =
    accepted-answer c r ok
    ∙ ap₂ (room_answer r) (ap length (flat-vertices c.box a flat c.grid)) (ap length (flat-indices c.box a flat c.grid c.flags))
    ∙ room-empty r
