-- The theorems of calls and their answers: of surface_nets and weigh, and of the functions for C; and the laws of the weighing over any calls that were told.
-- Assumes nothing.
use Prim.Native.Nat.{ℕ, ◌/◌, ◌%◌, ◌^◌, ◌≤◌}
use mathlib.Core.List.{List, ◌++◌}
use mathlib.Core.Path.{◌≡◌, refl, sym, ap, ap₂, subst, ◌∙◌}
use lib.IntN.{neg_ℤ, ◌+ℤ◌}
use lib.ListN.{length}
use Rattle.lists.proofs.Permutation.{Perm}
use Rattle.skin.specs.Links.{links}
use Rattle.volume.specs.Triangles.{turned_round, Rolled, triangles}
use Rattle.weigh.specs.Answers.{Answer, says, weight, sum_in}
use Rattle.weigh.proofs.Answering.{few-enough}
use Rattle.weigh.proofs.Weighing.{accepted, round-weighs, order-weighs, rolled-weighs, joined-weighs, part-weighs}
use Rattle.promises.specs.Served.{Done}
use Rattle.promises.proofs.Runs.{Run, served, BedRun, bed_served}
use Rattle.promises.proofs.WholeRuns.{SixteenRun, sixteen_served, EightRun, eight_served, BedSixteenRun, bed_sixteen_served, BedEightRun, bed_eight_served}
use Rattle.weighed_mesh.proofs.Sides.{Even}
use Rattle.weighed_mesh.proofs.Outcomes as volumes
use Rattle.weighed_bed.specs.Told.{Told, pillars_of, shadows_of}
use Rattle.weighed_bed.proofs.Outcomes.{Weigh, told, BedWeigh, bed_told}
use Rattle.weighed_bed.proofs.Agree.{BothWeigh, both-agree}
use Rattle.weighed_bed.proofs.Fits.{OwnMesh, own-mesh-weighs}

-- ---- where both calls answer 0 they agree

pub weigh-agrees : (w : Weigh) (v : volumes.Weigh) → BothWeigh (told w) (volumes.told v) → Even (links (volumes.told v).indices) → sum_in (told w).says ≡ (volumes.told v).says.volume
weigh-agrees w v = both-agree (told w) (volumes.told v)

pub bed-weigh-agrees : (w : BedWeigh) (v : volumes.BedWeigh) → BothWeigh (bed_told w) (volumes.bed_told v) → Even (links (volumes.bed_told v).indices)
    → sum_in (bed_told w).says ≡ (volumes.bed_told v).says.volume
bed-weigh-agrees w v = both-agree (bed_told w) (volumes.bed_told v)

-- ---- every mesh that a call answered 0 leaves is weighed

pub surface-nets-weighs : (u : Run) (w : Weigh) → Done (served u) → OwnMesh (served u) (told w) → (told w).says ≡ says 0 (pillars_of (served u)) (shadows_of (served u))
surface-nets-weighs u w = own-mesh-weighs (served u) (told w)

pub bed-surface-nets-weighs : (u : BedRun) (w : BedWeigh) → Done (bed_served u) → OwnMesh (bed_served u) (bed_told w)
    → (bed_told w).says ≡ says 0 (pillars_of (bed_served u)) (shadows_of (bed_served u))
bed-surface-nets-weighs u w = own-mesh-weighs (bed_served u) (bed_told w)

-- from whole numbers of 16 and of 8 bits
pub surface-nets-i16-weighs : (u : SixteenRun) (w : Weigh) → Done (sixteen_served u) → OwnMesh (sixteen_served u) (told w)
    → (told w).says ≡ says 0 (pillars_of (sixteen_served u)) (shadows_of (sixteen_served u))
surface-nets-i16-weighs u w = own-mesh-weighs (sixteen_served u) (told w)

pub surface-nets-i8-weighs : (u : EightRun) (w : Weigh) → Done (eight_served u) → OwnMesh (eight_served u) (told w)
    → (told w).says ≡ says 0 (pillars_of (eight_served u)) (shadows_of (eight_served u))
surface-nets-i8-weighs u w = own-mesh-weighs (eight_served u) (told w)

pub bed-surface-nets-i16-weighs : (u : BedSixteenRun) (w : BedWeigh) → Done (bed_sixteen_served u) → OwnMesh (bed_sixteen_served u) (bed_told w)
    → (bed_told w).says ≡ says 0 (pillars_of (bed_sixteen_served u)) (shadows_of (bed_sixteen_served u))
bed-surface-nets-i16-weighs u w = own-mesh-weighs (bed_sixteen_served u) (bed_told w)

pub bed-surface-nets-i8-weighs : (u : BedEightRun) (w : BedWeigh) → Done (bed_eight_served u) → OwnMesh (bed_eight_served u) (bed_told w)
    → (bed_told w).says ≡ says 0 (pillars_of (bed_eight_served u)) (shadows_of (bed_eight_served u))
bed-surface-nets-i8-weighs u w = own-mesh-weighs (bed_eight_served u) (bed_told w)

-- ---- the laws of the weighing

says_of : (u t : Told) {i : List ℕ} → u.positions ≡ t.positions → u.first ≡ t.first → u.indices ≡ i → u.says ≡ weight t.positions t.first i
says_of u t p f e = u.told ∙ (λ k. weight (p k) (f k) (e k))

-- the same vertices
pub record Alike (u t : Told) : Type 0 where
  pub positions : u.positions ≡ t.positions
  pub first : u.first ≡ t.first

module _ (t u : Told) (a : Alike u t) where
  -- every triangle turned round
  pub told-round : u.indices ≡ turned_round t.indices → u.says ≡ says t.says.answer (neg_ℤ (sum_in t.says)) (neg_ℤ t.says.shadow)
  told-round i =
      says_of u t a.positions a.first i
      ∙ round-weighs t.positions t.first t.indices
      ∙ ap (λ (w : Answer). says w.answer (neg_ℤ (sum_in w)) (neg_ℤ w.shadow)) (sym t.told)

  -- the triangles in another order
  pub told-order : length t.indices % 3 ≡ 0 → length u.indices % 3 ≡ 0 → Perm (triangles t.indices) (triangles u.indices) → u.says ≡ t.says
  told-order h k q = says_of u t a.positions a.first refl ∙ order-weighs t.positions t.first t.indices u.indices h k q ∙ sym t.told

  -- some triangles turned in place, where both are answered 0
  pub told-rolled : Rolled t.indices u.indices → t.says.answer ≡ 0 → u.says.answer ≡ 0 → u.says ≡ t.says
  told-rolled r g h =
      let e : u.says ≡ weight t.positions t.first u.indices = says_of u t a.positions a.first refl in
      e ∙ rolled-weighs t.positions t.first r (sym (ap (λ (w : Answer). w.answer) t.told) ∙ g) (sym (ap (λ (w : Answer). w.answer) e) ∙ h) ∙ sym t.told

-- one list after the other: v has t's triangles and then u's
module _ (t u v : Told) (a : Alike u t) (b : Alike v t) (i : v.indices ≡ t.indices ++ u.indices) where
  second : u.says ≡ weight t.positions t.first u.indices
  second = says_of u t a.positions a.first refl

  whole : v.says ≡ weight t.positions t.first (t.indices ++ u.indices)
  whole = says_of v t b.positions b.first i

  pub told-joined : t.says.answer ≡ 0 → u.says.answer ≡ 0 → length v.indices / 3 ≤ 2 ^ 33
      → v.says ≡ says 0 (sum_in t.says +ℤ sum_in u.says) (t.says.shadow +ℤ u.says.shadow)
  told-joined g h few =
      whole
      ∙ joined-weighs t.positions t.first t.indices u.indices (sym (ap (λ (w : Answer). w.answer) t.told) ∙ g)
      (sym (ap (λ (w : Answer). w.answer) second) ∙ h) (subst (λ (l : List ℕ). length l / 3 ≤ 2 ^ 33) i few)
      ∙ ap₂ (λ (y z : Answer). says 0 (sum_in y +ℤ sum_in z) (y.shadow +ℤ z.shadow)) (sym t.told) (sym second)

  -- a list that is answered 0, cut between two triangles: so are both parts, and they add up
  pub told-parts : length t.indices % 3 ≡ 0 → v.says.answer ≡ 0
      → (t.says.answer ≡ 0) × (u.says.answer ≡ 0) × (v.says ≡ says 0 (sum_in t.says +ℤ sum_in u.says) (t.says.shadow +ℤ u.says.shadow))
  told-parts threes done =
      let d : (weight t.positions t.first (t.indices ++ u.indices)).answer ≡ 0 = sym (ap (λ (w : Answer). w.answer) whole) ∙ done in
      let r = part-weighs t.positions t.first t.indices u.indices threes d in
      let few : length (t.indices ++ u.indices) / 3 ≤ 2 ^ 33 = few-enough (t.indices ++ u.indices) (accepted t.positions t.first (t.indices ++ u.indices) d).few in
      let g : t.says.answer ≡ 0 = ap (λ (w : Answer). w.answer) t.told ∙ r.0 in
      let h : u.says.answer ≡ 0 = ap (λ (w : Answer). w.answer) second ∙ r.1 in
      (g, h, told-joined g h (subst (λ (l : List ℕ). length l / 3 ≤ 2 ^ 33) (sym i) few))
