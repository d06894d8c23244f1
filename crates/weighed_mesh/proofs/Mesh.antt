-- Document 02, request 14: "For the mesher's own mesh under request 8's premise, adding the same whole steps to every rounded coordinate, inside the
-- permitted range, leaves the volume unchanged." Over what a mesh call wrote and what the volume answers. Assumes nothing.
use Prim.Native.Nat.{ℕ, ◌/◌, ◌<◌}
use mathlib.Core.Bool.{false}
use mathlib.Core.List.{List}
use mathlib.Core.Path.{◌≡◌, sym, subst, ◌∙◌}
use lib.ListN.{length}
use Rattle.skin.specs.Links.{links}
use Rattle.skin.specs.Enclosed.{Enclosed}
use Rattle.skin.proofs.Skin.{skin-law}
use Rattle.volume.specs.Volume.{corner_at}
use Rattle.volume.specs.Answers.{some_outside}
use Rattle.promises.specs.Served.{Served, Done}
use Rattle.promises.proofs.ReadBack.{indices-back}
use Rattle.promises.proofs.Runs.{Run, served, BedRun, bed_served}
use Rattle.weighed_mesh.specs.Told.{Told, positions_of, indices_of}
use Rattle.weighed_mesh.proofs.Sides.{Even}
use Rattle.weighed_mesh.proofs.Moved.{Shift, Moves}
use Rattle.weighed_mesh.proofs.Answers.{told_moved}
use Rattle.weighed_mesh.proofs.Outcomes.{Weigh, told, BedWeigh, bed_told}

-- a call of the volume on what a mesh call wrote, answered 0
pub record OwnMesh (u : Served) (t : Told) : Type 0 where
  pub meshed : Done u
  pub positions : t.positions ≡ positions_of u
  pub indices : t.indices ≡ indices_of u
  pub weighed : t.says.answer ≡ 0

-- a second call, on the same triangles with other positions: as many, each from 0 to 128, and the steps of each vertex those of the first call and
-- one whole number more for each axis
pub record Shifted (s : Shift) (t t' : Told) : Type 0 where
  pub indices : t'.indices ≡ t.indices
  pub long : length t'.positions ≡ length t.positions
  pub inside : some_outside t'.positions ≡ false
  pub moves : (v : ℕ) → v < length t.positions / 3 → Moves s (corner_at t.positions v) (corner_at t'.positions v)

-- request 8's premise: "Let every negative point of the box lie from min + 1 to max - 2 on each axis"; then any flags will do
pub own-mesh-moved : (u : Served) (t t' : Told) (s : Shift) → Enclosed u.call.grid u.call.box → OwnMesh u t → Shifted s t t' → t'.says ≡ t.says
own-mesh-moved u t t' s h o m = told_moved s t t' o.weighed even m.indices m.long m.inside m.moves
  where
    even : Even (links t.indices)
    even = subst (λ (l : List ℕ). Even (links l)) (sym (o.indices ∙ indices-back u o.meshed)) (skin-law u.call.grid u.call.box u.call.flags h)

-- ---- of surface_nets and volume, and of the two functions for C

pub surface-nets-moved : (u : Run) (w w' : Weigh) (s : Shift) → Enclosed (served u).call.grid (served u).call.box → OwnMesh (served u) (told w) → Shifted s (told w) (told w')
    → (told w').says ≡ (told w).says
surface-nets-moved u w w' = own-mesh-moved (served u) (told w) (told w')

pub bed-surface-nets-moved : (u : BedRun) (w w' : BedWeigh) (s : Shift) → Enclosed (bed_served u).call.grid (bed_served u).call.box → OwnMesh (bed_served u) (bed_told w)
    → Shifted s (bed_told w) (bed_told w') → (bed_told w').says ≡ (bed_told w).says
bed-surface-nets-moved u w w' = own-mesh-moved (bed_served u) (bed_told w) (bed_told w')
