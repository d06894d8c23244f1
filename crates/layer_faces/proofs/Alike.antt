-- The indices of a layer are the rules' own, where what was kept of the layer below is what the rules say of it; of the layer itself they depend on
-- the two layers of distances alone. Assumes nothing.
use Rattle.std.proofs.Common.{◌≡◌, ℕ, suc, ◌-◌, ◌*◌, ◌≤◌, Bool, false, cond, T, eqb, ◌⊎◌, map, length, take, sym, ap, ◌∙◌, subst, inl, inr, arith, eq-eqb, ne_eqb}
use lib.Ieee.{Float, lt}
use Rattle.lists.specs.Lists.{joined}
use Rattle.rules.specs.Grid.{GridPoint, Box, Field, is_cell, in_box, value}
use Rattle.rules.specs.Cell.{negative, squared_distance}
use Rattle.rules.specs.Vertices.{surface_cell, layer_vertices, vertex_number, number_in, vertex_position}
use Rattle.rules.specs.Faces.{Flags, Edge, gives, cell1, cell2, cell3, cell4, six, shorter, face_cells, layer_indices}
use Rattle.rules.specs.Call.{flat_vectors}
use Rattle.lists.proofs.Lists.{all_then, joined_same}
use Rattle.rules.proofs.Edges.{layer_edges-all, map-six}
use Rattle.rules.proofs.FourCells.{Four, gives-cell}
use Rattle.rules.proofs.Numbers.{four-each}
use Rattle.rules.proofs.Indexes.{cell-in-box, cell-within}
use Rattle.grid.proofs.Slab.{slab, grid, edges-alike, position-alike, number-alike, in-slab}
use Rattle.layer_faces.specs.Below.{position_at, Kept, kept_number, number_over, position_over, shorter_over, face_over, indices_over}
use Rattle.layer_faces.proofs.Lookups.{position-among}

-- what was kept is what the rules say of the layer below z, the first vertex of z having the number `first`
pub record Right (g : Field) (b : Box) (first z : ℕ) (below : Kept) : Type 0 where
  pub numbers : (c : GridPoint) → T (is_cell b c) → suc c.z ≡ z → T (surface_cell g c) → kept_number g.dims below c ≡ vertex_number g b below.first c
  pub positions : (y : ℕ) → b.low.z ≤ y → suc y ≡ z → take (3 * length (layer_vertices g b y)) below.positions ≡ flat_vectors (map (vertex_position g) (layer_vertices g b y))
  pub before : (y : ℕ) → b.low.z ≤ y → suc y ≡ z → below.first ≡ first - length (layer_vertices g b y)

module _ (d : GridPoint) (f f' : ℕ → Float) (b : Box) (m : Flags) (first z : ℕ) (agree : (p : GridPoint) → T (in_box (slab b z) p) → value (grid d f) p ≡ value (grid d f') p) where
  abbrev g : Field
  g = grid d f

  abbrev g' : Field
  g' = grid d f'

  -- ---- the faces

  module _ (below : Kept) (right : Right (grid d f') b first z below) where
    -- the number and the position of a surface cell of the layer or the one below
    record Same (c : GridPoint) : Type 0 where
      number : number_over g b first z below c ≡ number_in g' b z first c
      position : position_over g z below c ≡ vertex_position g' c

    same : (c : GridPoint) → T (is_cell b c) → T (surface_cell g' c) → (c.z ≡ z) ⊎ (suc c.z ≡ z) → Same c
    same c t s (inl e) =
        record {
          number =
              ap (λ (y : Bool). cond y (vertex_number g b first c) (kept_number d below c)) (eq-eqb c.z z e)
              ∙ number-alike d f f' b z agree first c e
              ∙ sym (ap (λ (y : Bool). cond y (vertex_number g' b first c) (vertex_number g' b (first - length (layer_vertices g' b c.z)) c)) (eq-eqb c.z z e));
          position =
              ap (λ (y : Bool). cond y (vertex_position g c) (position_at below.positions below.first (kept_number d below c))) (eq-eqb c.z z e)
              ∙ position-alike d f f' b z agree c t e;
        }
    same c t s (inr e) =
        let low : b.low.z ≤ c.z = (cell-within b c t).z.0 in
        let no : eqb c.z z ≡ false = ne_eqb c.z z (λ (k : c.z ≡ z). omega arith) in
        record {
          number =
              ap (λ (y : Bool). cond y (vertex_number g b first c) (kept_number d below c)) no
              ∙ right.numbers c t e s
              ∙ ap (λ (n : ℕ). vertex_number g' b n c) (right.before c.z low e)
              ∙ sym (ap (λ (y : Bool). cond y (vertex_number g' b first c) (vertex_number g' b (first - length (layer_vertices g' b c.z)) c)) no);
          position =
              ap (λ (y : Bool). cond y (vertex_position g c) (position_at below.positions below.first (kept_number d below c))) no
              ∙ ap (position_at below.positions below.first) (right.numbers c t e s)
              ∙ position-among g' b below.first c t s below.positions (right.positions c.z low e);
        }

    face-is : (e : Edge) → T (gives (grid d f') b m e) × (e.from.z ≡ z) → face_over (grid d f) b first z below e ≡ map (number_in (grid d f') b z first) (face_cells (grid d f') e)
    unfolding face_over shorter_over face_cells shorter
    face-is e t =
        (λ i.
        six (lt (squared_distance (four.one.position i) (four.four.position i)) (squared_distance (four.two.position i) (four.three.position i))) (negative (sign i))
        (four.one.number i) (four.two.number i) (four.three.number i) (four.four.number i))
        ∙ sym (map-six (number_in g' b z first) (shorter g' e) (negative (value g' e.from)) (cell1 e) (cell2 e) (cell3 e) (cell4 e))
      where
        four : Four Same e
        four = four-each g' b m e t.0 (λ c i s l. same c i s (subst (λ (y : ℕ). (c.z ≡ y) ⊎ (suc c.z ≡ y)) t.1 l))

        sign : value g e.from ≡ value g' e.from
        sign = agree e.from (cell-in-box (slab b z) e.from (in-slab d f f' b z agree e.from (gives-cell g' b m e t.0) t.1))

    -- the layer's indices, as document 01 has them
    pub indices-are : indices_over (grid d f) b m first z below ≡ layer_indices (grid d f') b m first z
    unfolding indices_over layer_indices
    indices-are = ap (joined (face_over g b first z below)) (edges-alike d f f' b z agree m) ∙ joined_same (all_then face-is (layer_edges-all g' b m z))
