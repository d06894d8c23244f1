-- The bed's volume does not depend on how the tank was cut: the determinants of all pieces' triangles, summed, are those of the whole, for any flags and
-- any pieces that own each edge of the whole once, as the pieces of any run of cuts do. Over what the calls write. Assumes nothing.
use mathlib.Core.List.{List, [], ◌∷◌}
use mathlib.Core.Path.{◌≡◌, refl, sym, ap, ap₂, ◌∙◌}
use lib.IntN.{ℤ, pos, ◌+ℤ◌}
use Rattle.rules.specs.Grid.{Field}
use Rattle.rules.specs.Faces.{edges}
use Rattle.rules.specs.Cutting.{Piece, Cuts, pieces, Fits, Plan}
use Rattle.lists.proofs.Lists.{All, none, more}
use Rattle.rules.proofs.Cutting.{cuts-plan, edge-law}
use Rattle.volume.specs.Volume.{sixfold}
use Rattle.volume.specs.Answers.{Weighed}
use Rattle.volume.proofs.Weighing.{accepted, weighs}
use Rattle.promises.specs.Served.{Served, Done}
use Rattle.promises.proofs.ReadBack.{positions-back, indices-back}
use Rattle.weighed_mesh.specs.Told.{Told, positions_of, indices_of, weight_of}
use Rattle.weighed_mesh.proofs.Faces.{sum_z, sum_z-joined, perm-sum_z, face_sum, mesh-sum}

-- the sum over what is written is that over the faces of the rules
pub weight_is : (u : Served) → Done u → weight_of u ≡ sum_z (face_sum u.call.grid) (edges u.call.grid u.call.box u.call.flags)
weight_is u d = ap₂ sixfold (positions-back u d) (indices-back u d) ∙ mesh-sum u.call.grid u.call.box u.call.flags

-- ---- a call for each piece

-- a call on a piece of this grid that was answered 0
pub record Made (g : Field) (q : Piece) : Type 0 where
  pub served : Served
  pub grid : served.call.grid ≡ g
  pub box : served.call.box ≡ q.box
  pub flags : served.call.flags ≡ q.flags
  pub done : Done served

made-weight : (g : Field) (q : Piece) (m : Made g q) → weight_of m.served ≡ sum_z (face_sum g) (edges g q.box q.flags)
made-weight g q m = weight_is m.served m.done ∙ (λ i. sum_z (face_sum (m.grid i)) (edges (m.grid i) (m.box i) (m.flags i)))

-- the sums over what the pieces' calls wrote, summed
unfoldable pub weights : (g : Field) (ps : List Piece) → All (Made g) ps → ℤ
weights g [] none = pos 0
weights g (q ∷ qs) (more m ms) = weight_of m.served +ℤ weights g qs ms

weights-are : (g : Field) (ps : List Piece) (ms : All (Made g) ps) → weights g ps ms ≡ sum_z (λ (q : Piece). sum_z (face_sum g) (edges g q.box q.flags)) ps
unfolding weights sum_z
weights-are g [] none = refl
weights-are g (q ∷ qs) (more m ms) = ap₂ ◌+ℤ◌ (made-weight g q m) (weights-are g qs ms)

-- any pieces that own each edge of the whole once, and no other
pub plan-weight : (g : Field) (ps : List Piece) (w : Piece) → Plan ps w → (ms : All (Made g) ps) (whole : Made g w) → weights g ps ms ≡ weight_of whole.served
plan-weight g ps w h ms whole =
    weights-are g ps ms
    ∙ sym (sum_z-joined (face_sum g) (λ (q : Piece). edges g q.box q.flags) ps)
    ∙ perm-sum_z (face_sum g) (edge-law g ps w h)
    ∙ sym (made-weight g w whole)

-- the pieces of any run of cuts, for any flags
pub cut-weight : (g : Field) (t : Cuts) (w : Piece) → Fits t w → (ms : All (Made g) (pieces t w)) (whole : Made g w) → weights g (pieces t w) ms ≡ weight_of whole.served
cut-weight g t w f ms whole = plan-weight g (pieces t w) w (cuts-plan t w f) ms whole

-- ---- the same over the answers

-- a call of the volume on what a piece's call wrote, answered 0
pub record Weighs (g : Field) (q : Piece) : Type 0 where
  pub made : Made g q
  pub call : Told
  pub positions : call.positions ≡ positions_of made.served
  pub indices : call.indices ≡ indices_of made.served
  pub done : call.says.answer ≡ 0

says-weight : (g : Field) (q : Piece) (c : Weighs g q) → c.call.says.volume ≡ weight_of c.made.served
says-weight g q c =
    let t = c.call in
    ap (λ (w : Weighed). w.volume) (t.told ∙ weighs t.positions t.indices
    (accepted t.positions t.indices (ap (λ (w : Weighed). w.answer) (sym t.told) ∙ c.done)))
    ∙ ap₂ sixfold c.positions c.indices

unfoldable pub volumes : (g : Field) (ps : List Piece) → All (Weighs g) ps → ℤ
volumes g [] none = pos 0
volumes g (q ∷ qs) (more c cs) = c.call.says.volume +ℤ volumes g qs cs

meshes : (g : Field) (ps : List Piece) → All (Weighs g) ps → All (Made g) ps
meshes g [] none = none
meshes g (q ∷ qs) (more c cs) = more c.made (meshes g qs cs)

volumes-are : (g : Field) (ps : List Piece) (cs : All (Weighs g) ps) → volumes g ps cs ≡ weights g ps (meshes g ps cs)
unfolding volumes weights meshes
volumes-are g [] none = refl
volumes-are g (q ∷ qs) (more c cs) = ap₂ ◌+ℤ◌ (says-weight g q c) (volumes-are g qs cs)

-- the volumes of the pieces add up to that of the whole
pub cut-volume : (g : Field) (t : Cuts) (w : Piece) → Fits t w → (cs : All (Weighs g) (pieces t w)) (whole : Weighs g w) → volumes g (pieces t w) cs ≡ whole.call.says.volume
cut-volume g t w f cs whole =
    volumes-are g (pieces t w) cs ∙ cut-weight g t w f (meshes g (pieces t w) cs) whole.made ∙ sym (says-weight g w whole)
