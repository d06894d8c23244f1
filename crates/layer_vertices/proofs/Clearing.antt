-- Clearing the points of a row that are no cells: a part of the map that is filled with one entry, and that the row is then cleared point by point.
-- Assumes nothing.
use Prim.Native.Nat.{ℕ, zero, suc, ◌+◌, ◌-◌, ◌*◌, ◌≤◌, ◌<◌}
use native.Mathlib.Omega.{arith}
use mathlib.Core.List.{List, map, ◌++◌, append_assoc}
use mathlib.Core.Path.{◌≡◌, refl, sym, ap, ◌∙◌}
use mathlib.Core.Bool.{false}
use lib.ListN.{length, set, take, drop, replicate}
use lib.Seq.{sets, sets-eq}
use borrow.Rule.Slice.PartMut.{put_mid}
use Rattle.std.proofs.lemmas.List.{length-drop, length-take-le, length-replicate}
use Rattle.std.proofs.lemmas.List.Edits.{paste_all}
use Rattle.std.proofs.lemmas.Slice.{put_mid-paste}
use Rattle.lists.specs.Lists.{up_to}
use Rattle.rules.specs.Grid.{GridPoint, Box}
use Rattle.rules.specs.Vertices.{row_cells, null_vertex}
use Rattle.lists.proofs.Runs.{up_to-none, up_to-first}
use Rattle.rules.proofs.Indexes.{BoxFits, box-fits}
use Rattle.grid.specs.declared.Block.{Block}
use Rattle.grid.specs.Block.{point, box_of}
use Rattle.grid.proofs.Layers.{in_order, in-some-grid}
use Rattle.grid.proofs.Walks.{PointSpans, point-spans}
use Rattle.layer_vertices.specs.Marked.{InPart}
use Rattle.layer_vertices.specs.Cells.{points_of, entered, cleared, blanked}

-- ---- a row, point by point

pub row-blank : (d : GridPoint) (b : Box) (z y : ℕ) (l : List ℕ) → b.low.x ≤ b.high.x → blanked d b y l ≡ cleared d (row_cells (points_of b) z y) l
unfolding row_cells entered
row-blank d b z y l h =
    let up : b.low.x + (b.high.x + 1 - b.low.x) ≡ b.high.x + 1 = omega arith in
    sym (ap (λ (n : ℕ). cleared d (map at (up_to b.low.x n)) l) (sym up) ∙ go (b.high.x + 1 - b.low.x) 0 b.low.x (b.low.x + d.x * y) l refl)
  where
    at : ℕ → GridPoint
    at x = record { x = x; y = y; z = z }

    go : (n m x i : ℕ) (s : List ℕ) → i ≡ x + d.x * y → entered d (λ (c : GridPoint). false) m (map at (up_to x (x + n))) s ≡ sets s i (replicate n null_vertex)
    go zero m x i s e = ap (λ (xs : List ℕ). entered d (λ (c : GridPoint). false) m (map at xs) s) (up_to-none x (x + 0) (omega arith))
    go (suc n) m x i s e =
        let on : x + suc n ≡ suc x + n = omega arith in
        ap (λ (xs : List ℕ). entered d (λ (c : GridPoint). false) m (map at xs) s) (up_to-first x (x + suc n) (omega arith))
        ∙ ap (λ (k : ℕ). entered d (λ (c : GridPoint). false) (m + 0) (map at (up_to (suc x) k)) (set s (x + d.x * y) null_vertex)) on
        ∙ ap (λ (k : ℕ). entered d (λ (c : GridPoint). false) (m + 0) (map at (up_to (suc x) (suc x + n))) (set s k null_vertex)) (sym e)
        ∙ go n (m + 0) (suc x) (suc i) (set s i null_vertex) (omega arith)

-- ---- the row at once

-- how long a part of the map is
pub part_long : (l : List ℕ) (at n : ℕ) → at + n ≤ length l → length (take (at + n - at) (drop at l)) ≡ n
part_long l at n h =
    let e : at + n - at ≡ n = omega arith in
    ap (λ (k : ℕ). length (take k (drop at l))) e ∙ length-take-le n (drop at l) (omega (arith, length-drop at l))

-- a part of the map that is filled with one entry
pub part-filled : (l part : List ℕ) (at n v : ℕ) → part ≡ replicate n v → at + n ≤ length l → put_mid at (at + n - at) l part ≡ sets l at (replicate n v)
part-filled l part at n v e h =
    let long : n ≡ length (replicate n v) = sym (length-replicate n v) in
    put_mid-paste at (at + n - at) l part (replicate n v) n e (omega arith) long
    ∙ paste_all l at (replicate n v) n long
    ∙ ap (λ (i : ℕ). take at l ++ (replicate n v ++ drop (at + i) l)) long
    ∙ sym (append_assoc (take at l) (replicate n v) (drop (at + length (replicate n v)) l))
    ∙ sym (sets-eq (replicate n v) l at (omega (arith, long)))

-- ---- a part of the map that holds the box's points

module _ {mp : List ℕ} {k : Block} (i : InPart mp k) where
  pub part-fits : BoxFits (point k.dims) (box_of k)
  part-fits = box-fits (point k.dims) (box_of k) i.box

  pub part-spans : PointSpans k
  part-spans = point-spans (in-some-grid i.dims i.box)

  pub part-place : {x y : ℕ} → x ≤ k.high.x → y ≤ k.high.y → x + k.dims.x * y < length mp
  part-place {x} {y} hx hy = omega (arith, in_order (point k.dims) (record { x = x; y = y; z = 0 }) (point k.high) hx hy, i.holds)
