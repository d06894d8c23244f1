-- The file of a mesh is its records, one after the other: those of the seven words of each (`mesh_words`). From the definitions. Assumes nothing.
use Prim.Native.Nat.{ℕ, zero, suc, ◌*◌}
use mathlib.Core.Path.{◌≡◌, refl, ap, ap₂, ◌∙◌}
use mathlib.Core.List.{List, [], ◌∷◌, ◌++◌, append-nil}
use Rattle.lists.specs.Lists.{joined}
use Rattle.lists.proofs.Lists.{joined-append, joined_snoc}
use Rattle.mesh_file.specs.Record.{record_of, each}
use Rattle.mesh_file.specs.Mesh.{Mesh, vertex_count, triangle_count, vertex_seven, triangle_seven, closing_seven, file_of, mesh_words}

-- one part for each turn
joined-each : {A B : Type 0} (f : A → List B) (g : ℕ → A) (n : ℕ) → joined f (each (λ k. g k ∷ []) n) ≡ each (λ k. f (g k)) n
unfolding each joined
joined-each f g zero = refl
joined-each f g (suc n) = joined_snoc f (each (λ k. g k ∷ []) n) (g n) ∙ ap (λ l. l ++ f (g n)) (joined-each f g n)

joined-one : {A B : Type 0} (f : A → List B) (x : A) → joined f (x ∷ []) ≡ f x
unfolding joined
joined-one f x = append-nil (f x)

module _ (m : Mesh) where
  abbrev vertex : ℕ → List ℕ
  vertex k = vertex_seven m.positions m.normals (3 * k)

  abbrev triangle : ℕ → List ℕ
  triangle k = triangle_seven m.indices k

  abbrev closing : List ℕ
  closing = closing_seven (vertex_count m) (triangle_count m)

  pub records-joined : joined record_of (mesh_words m) ≡ file_of m
  unfolding mesh_words file_of
  records-joined =
      let ts = each (λ k. triangle k ∷ []) (triangle_count m) in
      joined-append record_of (each (λ k. vertex k ∷ []) (vertex_count m)) (ts ++ (closing ∷ []))
      ∙ ap₂ ◌++◌ (joined-each record_of vertex (vertex_count m))
      (joined-append record_of ts (closing ∷ []) ∙ ap₂ ◌++◌ (joined-each record_of triangle (triangle_count m)) (joined-one record_of closing))
