-- What a tank weighs does not depend on how it was cut: the sums of all pieces add up to that of the whole, and so do the shadows, for any flags and any pieces that
-- own each edge of the whole once, as the pieces of any run of cuts and the blocks of any plan that was checked do. Over what the calls wrote; no call of the
-- weighing on it is refused. Assumes nothing.
use Prim.Native.Nat.{ℕ}
use mathlib.Core.List.{List, [], ◌∷◌, map}
use mathlib.Core.Path.{◌≡◌, refl, sym, ap, ap₂, ◌∙◌}
use lib.IntN.{ℤ, pos, ◌+ℤ◌}
use Rattle.rules.specs.Grid.{Field}
use Rattle.rules.specs.Vertices.{vertices, vertex_position}
use Rattle.rules.specs.Faces.{edges, indices}
use Rattle.rules.specs.Call.{flat_vectors}
use Rattle.rules.specs.Cutting.{Piece, Cuts, pieces, Fits, Plan}
use Rattle.lists.proofs.Lists.{All, none, more}
use Rattle.rules.proofs.Cutting.{cuts-plan, edge-law}
use Rattle.plan.specs.declared.Block.{Block}
use Rattle.plan.specs.Plan.{piece}
use Rattle.volume.specs.declared.Corner.{Corner}
use Rattle.weigh.specs.Sums.{shadow_of, pillar_of, corner_from, sum_of}
use Rattle.weigh.specs.Answers.{sum_in}
use Rattle.promises.specs.Served.{Served, Done}
use Rattle.promises.proofs.ReadBack.{positions-back, indices-back}
use Rattle.weighed_mesh.specs.Told.{positions_of, indices_of}
use Rattle.weighed_mesh.proofs.Faces.{sum_z, sum_z-joined, perm-sum_z}
use Rattle.weighed_mesh.proofs.Cut.{Made}
use Rattle.planned_mesh.proofs.Planned.{Yes}
use Rattle.weighed_bed.specs.Told.{Told, pillars_of, shadows_of}
use Rattle.weighed_bed.proofs.Whole.{from_zero}
use Rattle.weighed_bed.proofs.Faces.{face_sum, mesh-sum}
use Rattle.weighed_bed.proofs.Fits.{OwnMesh, own-mesh-sum, own-mesh-shadow}

-- the sum over what a call wrote, by any term
abbrev pub written_sum : (Corner → Corner → Corner → ℤ) → Served → ℤ
written_sum f u = sum_of f (corner_from (positions_of u) 0) (indices_of u)

module _ (f : Corner → Corner → Corner → ℤ) where
  -- it is that over the faces of the rules
  pub written_is : (u : Served) → Done u → written_sum f u ≡ sum_z (face_sum f u.call.grid) (edges u.call.grid u.call.box u.call.flags)
  written_is u d =
      (λ i. sum_of f (corner_from (positions-back u d i) 0) (indices-back u d i))
      ∙ ap (λ (at : ℕ → Corner). sum_of f at (indices u.call.grid u.call.box u.call.flags))
      (from_zero (flat_vectors (map (vertex_position u.call.grid) (vertices u.call.grid u.call.box))))
      ∙ mesh-sum f u.call.grid u.call.box u.call.flags

  made-sum : (g : Field) (q : Piece) (m : Made g q) → written_sum f m.served ≡ sum_z (face_sum f g) (edges g q.box q.flags)
  made-sum g q m = written_is m.served m.done ∙ (λ i. sum_z (face_sum f (m.grid i)) (edges (m.grid i) (m.box i) (m.flags i)))

  -- the sums over what the pieces' calls wrote, summed
  unfoldable pub written_sums : (g : Field) (ps : List Piece) → All (Made g) ps → ℤ
  written_sums g [] none = pos 0
  written_sums g (q ∷ qs) (more m ms) = written_sum f m.served +ℤ written_sums g qs ms

  sums-are : (g : Field) (ps : List Piece) (ms : All (Made g) ps) → written_sums g ps ms ≡ sum_z (λ (q : Piece). sum_z (face_sum f g) (edges g q.box q.flags)) ps
  unfolding written_sums sum_z
  sums-are g [] none = refl
  sums-are g (q ∷ qs) (more m ms) = ap₂ ◌+ℤ◌ (made-sum g q m) (sums-are g qs ms)

  -- any pieces that own each edge of the whole once, and no other
  pub plan-sum : (g : Field) (ps : List Piece) (w : Piece) → Plan ps w → (ms : All (Made g) ps) (whole : Made g w) → written_sums g ps ms ≡ written_sum f whole.served
  plan-sum g ps w h ms whole =
      sums-are g ps ms
      ∙ sym (sum_z-joined (face_sum f g) (λ (q : Piece). edges g q.box q.flags) ps)
      ∙ perm-sum_z (face_sum f g) (edge-law g ps w h)
      ∙ sym (made-sum g w whole)

  -- the pieces of any run of cuts, for any flags
  pub cut_sum : (g : Field) (t : Cuts) (w : Piece) → Fits t w → (ms : All (Made g) (pieces t w)) (whole : Made g w) → written_sums g (pieces t w) ms ≡ written_sum f whole.served
  cut_sum g t w h ms whole = plan-sum g (pieces t w) w (cuts-plan t w h) ms whole

  -- the blocks of a plan that was checked
  pub planned-sum : (g : Field) (bs : List Block) (w : Block) (answer : ℕ) → Yes bs w answer → (ms : All (Made g) (map piece bs)) (whole : Made g (piece w))
      → written_sums g (map piece bs) ms ≡ written_sum f whole.served
  planned-sum g bs w answer checked ms whole = plan-sum g (map piece bs) (piece w) (checked.yes tt).1 ms whole

-- ---- the same over the answers of the weighing

-- a mesh call on a piece that was answered 0, and a call of the weighing on what it wrote
pub record Weighs (g : Field) (q : Piece) : Type 0 where
  pub made : Made g q
  pub call : Told
  pub own : OwnMesh made.served call

unfoldable pub sums_told : (g : Field) (ps : List Piece) → All (Weighs g) ps → ℤ
sums_told g [] none = pos 0
sums_told g (q ∷ qs) (more c cs) = sum_in c.call.says +ℤ sums_told g qs cs

unfoldable pub shadows_told : (g : Field) (ps : List Piece) → All (Weighs g) ps → ℤ
shadows_told g [] none = pos 0
shadows_told g (q ∷ qs) (more c cs) = c.call.says.shadow +ℤ shadows_told g qs cs

meshes : (g : Field) (ps : List Piece) → All (Weighs g) ps → All (Made g) ps
meshes g [] none = none
meshes g (q ∷ qs) (more c cs) = more c.made (meshes g qs cs)

sum-of : (g : Field) (q : Piece) (c : Weighs g q) → sum_in c.call.says ≡ pillars_of c.made.served
sum-of g q c = own-mesh-sum c.made.served c.call c.made.done c.own

shadow-of : (g : Field) (q : Piece) (c : Weighs g q) → c.call.says.shadow ≡ shadows_of c.made.served
shadow-of g q c = own-mesh-shadow c.made.served c.call c.made.done c.own

sums-told : (g : Field) (ps : List Piece) (cs : All (Weighs g) ps) → sums_told g ps cs ≡ written_sums pillar_of g ps (meshes g ps cs)
unfolding sums_told written_sums meshes
sums-told g [] none = refl
sums-told g (q ∷ qs) (more c cs) = ap₂ ◌+ℤ◌ (sum-of g q c) (sums-told g qs cs)

shadows-told : (g : Field) (ps : List Piece) (cs : All (Weighs g) ps) → shadows_told g ps cs ≡ written_sums shadow_of g ps (meshes g ps cs)
unfolding shadows_told written_sums meshes
shadows-told g [] none = refl
shadows-told g (q ∷ qs) (more c cs) = ap₂ ◌+ℤ◌ (shadow-of g q c) (shadows-told g qs cs)

-- the weights of the pieces add up to that of the whole, and the shadows to its shadow
pub plan-weighs : (g : Field) (ps : List Piece) (w : Piece) → Plan ps w → (cs : All (Weighs g) ps) (whole : Weighs g w)
    → (sums_told g ps cs ≡ sum_in whole.call.says) × (shadows_told g ps cs ≡ whole.call.says.shadow)
plan-weighs g ps w h cs whole = (
  sums-told g ps cs ∙ plan-sum pillar_of g ps w h (meshes g ps cs) whole.made ∙ sym (sum-of g w whole),
  shadows-told g ps cs ∙ plan-sum shadow_of g ps w h (meshes g ps cs) whole.made ∙ sym (shadow-of g w whole),
)

pub cut-weighs : (g : Field) (t : Cuts) (w : Piece) → Fits t w → (cs : All (Weighs g) (pieces t w)) (whole : Weighs g w)
    → (sums_told g (pieces t w) cs ≡ sum_in whole.call.says) × (shadows_told g (pieces t w) cs ≡ whole.call.says.shadow)
cut-weighs g t w h cs whole = plan-weighs g (pieces t w) w (cuts-plan t w h) cs whole

pub planned-weighs : (g : Field) (bs : List Block) (w : Block) (answer : ℕ) → Yes bs w answer → (cs : All (Weighs g) (map piece bs)) (whole : Weighs g (piece w))
    → (sums_told g (map piece bs) cs ≡ sum_in whole.call.says) × (shadows_told g (map piece bs) cs ≡ whole.call.says.shadow)
planned-weighs g bs w answer checked cs whole = plan-weighs g (map piece bs) (piece w) (checked.yes tt).1 cs whole
