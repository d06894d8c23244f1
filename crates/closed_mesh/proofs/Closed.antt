-- Document 02, request 8, for what a call writes: in the first I numbers of the index list at exit each directed triangle side occurs as often as
-- its reverse, for any flags of the max plane; and the law of neighbour cells. From the contract's equations and the laws of crate skin. Assumes nothing.
use Prim.Native.Nat.{ℕ, ◌<◌}
use mathlib.Core.Bool.{true}
use mathlib.Core.List.{List}
use mathlib.Core.Path.{◌≡◌, sym, ap, ap₂, subst, subst₂, ◌∙◌}
use lib.Dec.{T}
use lib.ListN.{length, take}
use Rattle.lists.specs.Lists.{many}
use Rattle.rules.specs.Grid.{GridPoint, Axis, step_up}
use Rattle.rules.specs.Faces.{Edge, owned, indices}
use Rattle.rules.specs.Call.{Call, Answer, Buffers, answer, room, afterwards}
use Rattle.grid.specs.declared.EachAxis.{EachAxis}
use Rattle.grid.specs.Block.{flags}
use Rattle.surface_nets.specs.AsRules.{call_made}
use Rattle.skin.specs.Links.{Link, link, same_link, links, face_links, number_of, Square}
use Rattle.skin.specs.Enclosed.{Enclosed}
use Rattle.skin.specs.Scan.{answers, examined}
use Rattle.skin.proofs.Skin.{skin-law, square-law}
use Rattle.skin.proofs.Judged.{yes-closed}
use Rattle.closed_mesh.proofs.Outcome.{Input, grid, box}
use Rattle.closed_mesh.proofs.Written.{cell_at, indices-written, number-written}

-- each directed side occurs exactly as often as its reverse
abbrev pub Even : List Link → Type 0
Even sides = (i j : ℕ) → many (same_link (link i j)) sides ≡ many (same_link (link j i)) sides

-- what the contract of a mesh call says, with the answer 0
pub record Meshed (i : Input) (plane : EachAxis) (r : Answer) (entry exit : Buffers) : Type 0 where
  pub said : r ≡ answer (call_made i.sdf i.dims i.low i.high plane) (room entry)
  pub left : exit ≡ afterwards (call_made i.sdf i.dims i.low i.high plane) entry
  pub done : r.number ≡ 0

module _ {i : Input} {plane : EachAxis} {r : Answer} {entry exit : Buffers} (m : Meshed i plane r entry exit) where
  abbrev call : Call
  call = call_made i.sdf i.dims i.low i.high plane

  -- the first I numbers
  abbrev list : List ℕ
  list = take r.indices exit.indices

  accepted : (answer call (room entry)).number ≡ 0
  accepted = sym (ap (λ (a : Answer). a.number) m.said) ∙ m.done

  list-is : list ≡ indices (grid i) (box i) (flags plane)
  list-is = ap₂ (λ (a : Answer) (s : Buffers). take a.indices s.indices) m.said m.left ∙ indices-written call entry accepted

  number_is : (v : ℕ) → v < r.vertices → number_of (grid i) (box i) (cell_at exit.cells v) ≡ v
  number_is v h =
      ap (λ (s : Buffers). number_of (grid i) (box i) (cell_at s.cells v)) m.left
      ∙ number-written call entry accepted v (subst (λ (a : Answer). v < a.vertices) m.said h)

  -- "Let every negative point of the box lie from min + 1 to max - 2 on each axis .. Then each directed triangle side, from one vertex to
  -- another, occurs exactly as often as its reverse."
  pub mesh-closed : Enclosed (grid i) (box i) → Even (links (take r.indices exit.indices))
  mesh-closed h v w = rw list-is (skin-law (grid i) (box i) (flags plane) h v w)

  -- the premise as the code tests it
  pub mesh-closed-yes : examined i.sdf i.dims i.low i.high ≡ answers 0 true → Even (links (take r.indices exit.indices))
  mesh-closed-yes e v w = rw list-is (yes-closed (grid i) (box i) (length i.sdf) e (flags plane) v w)

  -- "Without that premise, say the same for every pair of neighbour cells whose shared square has all its four edges owned, counting face sides
  -- and not diagonals."
  pub mesh-square : (a : Axis) (c : GridPoint) → Square (λ (e : Edge). T (owned (box i) (flags plane) e)) a c
      → many (same_link (link (number_of (grid i) (box i) c) (number_of (grid i) (box i) (step_up a c)))) (face_links (take r.indices exit.indices))
      ≡ many (same_link (link (number_of (grid i) (box i) (step_up a c)) (number_of (grid i) (box i) c))) (face_links (take r.indices exit.indices))
  mesh-square a c h = rw list-is (square-law (grid i) (box i) (flags plane) a c h)

  -- the same by the lists alone: two vertices that the list of cells shows as neighbours
  pub mesh-neighbours : (a : Axis) (v w : ℕ) → v < r.vertices → w < r.vertices → cell_at exit.cells w ≡ step_up a (cell_at exit.cells v)
      → Square (λ (e : Edge). T (owned (box i) (flags plane) e)) a (cell_at exit.cells v)
      → many (same_link (link v w)) (face_links (take r.indices exit.indices)) ≡ many (same_link (link w v)) (face_links (take r.indices exit.indices))
  mesh-neighbours a v w k l n h =
      let p : number_of (grid i) (box i) (cell_at exit.cells v) ≡ v = number_is v k in
      let q : number_of (grid i) (box i) (step_up a (cell_at exit.cells v)) ≡ w = ap (number_of (grid i) (box i)) (sym n) ∙ number_is w l in
      subst₂ (λ (s t : ℕ). many (same_link (link s t)) (face_links list) ≡ many (same_link (link t s)) (face_links list)) p q
      (mesh-square a (cell_at exit.cells v) h)
