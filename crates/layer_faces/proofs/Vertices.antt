-- The layer's vertices, batch after batch: the cell that the code reads is the vertex's, the faces of a batch are put behind those before it, and after
-- the last one the layer's indices are whole. Assumes nothing.
use Rattle.std.proofs.Common.{◌≡◌, ℕ, ◌+◌, ◌*◌, ◌/◌, ◌<◌, ◌≤◌, Bool, true, false, T, List, ◌++◌, length, get_or, take, drop, sym, refl, ap, ◌∙◌, subst, arith, length-append, take-append-drop, take_all, take-add}
use lib.Seq.{sets, length-sets}
use Rattle.lists.specs.Lists.{joined}
use Rattle.rules.specs.Grid.{GridPoint, Box, Field, is_cell, value}
use Rattle.rules.specs.Cell.{negative}
use Rattle.rules.specs.Vertices.{surface_cell, layer_vertices}
use Rattle.rules.specs.Faces.{Flags, Edge, cell_edges, layer_edges, cell1, cell2, cell3, cell4, six}
use Rattle.rules.specs.Call.{flat_points}
use Rattle.lists.proofs.Lists.{all-at, all_then, all_keep, joined-append, joined_length}
use Rattle.rules.proofs.Indexes.{same_point_lem}
use Rattle.rules.proofs.Counting.{layer-z, layer_cells-all}
use Rattle.rules.proofs.Inside.{layer-cells}
use Rattle.rules.proofs.Seen.{ThreeAt, three-at, length-points}
use Rattle.stores.proofs.Runs.{sets-on}
use Rattle.layer_faces.specs.Below.{Kept, number_over, shorter_over, face_over, indices_over}
use Rattle.layer_faces.specs.Quads.{cell_at, Cells, some_edges, Batch}

pub length-face : (g : Field) (b : Box) (first z : ℕ) (below : Kept) (e : Edge) → length (face_over g b first z below e) ≡ 6
unfolding face_over
length-face g b first z below e = go (shorter_over g z below e) (negative (value g e.from))
  where
    at : (Edge → GridPoint) → ℕ
    at cell = number_over g b first z below (cell e)

    go : (s n : Bool) → length (six s n (at cell1) (at cell2) (at cell3) (at cell4)) ≡ 6
    go true true = refl
    go true false = refl
    go false true = refl
    go false false = refl

-- ---- the cell of a vertex

module _ (g : Field) (b : Box) (z : ℕ) (cs : List ℕ) (e : cs ≡ flat_points (layer_vertices g b z)) where
  pub length-cells : length cs ≡ 3 * length (layer_vertices g b z)
  length-cells = ap length e ∙ length-points (layer_vertices g b z)

  pub count-is : length cs / 3 ≡ length (layer_vertices g b z)
  count-is = omega (arith, length-cells)

  -- what the code reads of the vertex v
  pub vertex-is : (v : ℕ) → v < length (layer_vertices g b z) → cell_at cs z v ≡ get_or (layer_vertices g b z) v (cell_at cs z v)
  unfolding layer_vertices
  vertex-is v k = same_point_lem (ap (λ (l : List ℕ). get_or l (3 * v) 0) e ∙ three.first, ap (λ (l : List ℕ). get_or l (3 * v + 1) 0) e ∙ three.second, sym deep)
    where
      c : GridPoint
      c = cell_at cs z v

      three : ThreeAt (λ (q : GridPoint). q.x) (λ (q : GridPoint). q.y) (λ (q : GridPoint). q.z) (flat_points (layer_vertices g b z)) v 0 (get_or (layer_vertices g b z) v c)
      three = three-at (λ (q : GridPoint). q.x) (λ (q : GridPoint). q.y) (λ (q : GridPoint). q.z) (layer_vertices g b z) v 0 c k

      deep : (get_or (layer_vertices g b z) v c).z ≡ z
      deep = all-at (all_keep (surface_cell g) (all_then (λ p t s. layer-z b z p t) (layer_cells-all b z))) v k c

  pub vertex-cells : (n : ℕ) → (b.low.z ≤ z) × (z < b.high.z) → n ≤ length (layer_vertices g b z) → Cells b z cs n
  unfolding layer_vertices
  vertex-cells n zs h =
      record {
        within = omega (arith, length-cells);
        each = λ v k. subst (λ (p : GridPoint). T (is_cell b p)) (sym (vertex-is v (omega arith)))
            (all-at (all_keep (surface_cell g) (all_then (λ p t s. t) (layer-cells b z zs.0 zs.1))) v (omega arith) (cell_at cs z v));
      }

-- ---- the faces of the vertices before the i-th

module _ (g : Field) (b : Box) (m : Flags) (first z : ℕ) (below : Kept) where
  abbrev pub edges_to : ℕ → List Edge
  edges_to i = joined (cell_edges g b m) (take i (layer_vertices g b z))

  abbrev pub faces_to : ℕ → List ℕ
  faces_to i = joined (face_over g b first z below) (edges_to i)

  length-faces : (i : ℕ) → length (faces_to i) ≡ 6 * length (edges_to i)
  length-faces i = joined_length (face_over g b first z below) 6 (length-face g b first z below) (edges_to i)

  edges-next : (i n : ℕ) → edges_to (i + n) ≡ edges_to i ++ some_edges g b m z i n
  edges-next i n = ap (joined (cell_edges g b m)) (take-add i n (layer_vertices g b z)) ∙ joined-append (cell_edges g b m) (take i (layer_vertices g b z))
      (take n (drop i (layer_vertices g b z)))

  edges-all : (i : ℕ) → length (layer_vertices g b z) ≤ i → edges_to i ≡ layer_edges g b m z
  unfolding layer_edges
  edges-all i h = ap (joined (cell_edges g b m)) (take_all i (layer_vertices g b z) h)

  edges-within : (i : ℕ) → length (edges_to i) ≤ length (layer_edges g b m z)
  unfolding layer_edges
  edges-within i =
      let vs = layer_vertices g b z in
      omega (
        arith,
        ap (λ (l : List GridPoint). length (joined (cell_edges g b m) l)) (sym (take-append-drop i vs)) ∙ ap length
            (joined-append (cell_edges g b m) (take i vs) (drop i vs)),
        length-append (edges_to i) (joined (cell_edges g b m) (drop i vs)),
      )

  pub record Faced (l : List ℕ) (at i used : ℕ) (l' : List ℕ) : Type 0 where
    pub same : l' ≡ sets l at (faces_to i)
    pub on : used ≡ at + 6 * length (edges_to i)

  pub faced-none : (l : List ℕ) (at : ℕ) → Faced l at 0 at l
  unfolding joined
  faced-none l at = record { same = refl; on = omega arith }

  module _ {l l' : List ℕ} {at i used : ℕ} (p : Faced l at i used l') where
    pub faced-more : (n : ℕ) {used' : ℕ} {l'' : List ℕ} → l'' ≡ sets l' used (joined (face_over g b first z below) (some_edges g b m z i n))
        → used' ≡ used + 6 * length (some_edges g b m z i n) → Faced l at (i + n) used' l''
    faced-more n f h =
        let F = face_over g b first z below in
        let next = edges-next i n in
        record {
          same =
              f ∙ ap (λ (s : List ℕ). sets s used (joined F (some_edges g b m z i n))) p.same
              ∙ sets-on l at used (faces_to i) (joined F (some_edges g b m z i n)) (p.on ∙ ap (λ (k : ℕ). at + k) (sym (length-faces i)))
              ∙ ap (sets l at) (sym (ap (joined F) next ∙ joined-append F (edges_to i) (some_edges g b m z i n)));
          on = omega (arith, h, p.on, ap length next, length-append (edges_to i) (some_edges g b m z i n));
        }

    pub faced-length : length l' ≡ length l
    faced-length = ap length p.same ∙ length-sets l at (faces_to i)

    -- room for the next ones
    pub faced-room : (n : ℕ) → i + n ≤ length (layer_vertices g b z) → n ≤ 32 → at + 6 * length (layer_edges g b m z) ≤ length l → Batch g b m z i n (length l') used
    faced-room n h few r =
        record {
          within = h;
          few = few;
          room = omega (arith, p.on, r, edges-within (i + n), ap length (edges-next i n), length-append (edges_to i) (some_edges g b m z i n), faced-length);
        }

    -- after the last vertex
    pub faced-all : length (layer_vertices g b z) ≤ i → (l' ≡ sets l at (indices_over g b m first z below)) × (used ≡ at + 6 * length (layer_edges g b m z))
    unfolding indices_over
    faced-all h = (
      p.same ∙ ap (λ (es : List Edge). sets l at (joined (face_over g b first z below) es)) (edges-all i h),
      p.on ∙ ap (λ (es : List Edge). at + 6 * length es) (edges-all i h),
    )
