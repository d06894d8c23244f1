-- What no layer touches, whatever the state, the kept memory and the answer: of each list lent for output what lies past the first 3V, 3V, 3V, V, V and I numbers; the kept
-- positions past 3V; of the kept map the entries beside the box, in both halves, and what lies past them; of the kept distances the half that is not the layer's, and what
-- lies past both. Assumes nothing.
use Prim.Native.Nat.{ℕ, ◌+◌, ◌-◌, ◌*◌, ◌/◌, ◌%◌, ◌≤◌, ◌<◌}
use native.Mathlib.Nat.{zero-add}
use native.Mathlib.Omega.{arith}
use mathlib.Core.Bool.{Bool, ◌&&◌}
use mathlib.Core.List.{List, map}
use mathlib.Core.Logic.{◌⊎◌, inl, inr}
use mathlib.Core.Path.{◌≡◌, refl, sym, ap, subst, ◌∙◌}
use lib.Dec.{T}
use lib.Ieee.{Float}
use lib.Ieee.Fits.{and_i, and_l, and_r}
use lib.ListN.{length, get_or, take, drop, length-map}
use lib.Seq.{sets, length-sets, drop-drop}
use Rattle.lists.specs.Lists.{placed}
use Rattle.lists.proofs.Tests.{less-or-not, is_false}
use Rattle.lists.proofs.Lists.{length-placed, get_d-placed}
use Rattle.rules.specs.Grid.{GridPoint, Field, index, in_box, is_cell, between}
use Rattle.rules.specs.Vertices.{layer_vertices, vertex_position, vertex_normal, vertex_crossings}
use Rattle.rules.specs.Call.{Answer, flat_vectors, flat_points}
use Rattle.rules.proofs.Seen.{length-points, length-vectors}
use Rattle.rules.proofs.Indexes.{cell-in-box}
use Rattle.grid.specs.declared.Block.{Block}
use Rattle.grid.specs.Block.{point, box_of}
use Rattle.layer_vertices.specs.Marked.{marked, layer_point, layer_entry, last_entry}
use Rattle.layers.specs.declared.State.{State}
use Rattle.layers.specs.Memory.{Memory, plane, half, half_of, put_half}
use Rattle.layers.specs.Offer.{Output, room_in, Left, left, before, cleared, cells_at, new_vertices, new_first, new_indices, marked_out, brought_out, layer_answer, layer_kept, leaves}
use Rattle.layers.specs.Offer.{between as between_layers}
use Rattle.layers.specs.Ready.{Roomy}
use Rattle.layers.proofs.Halves.{sets-after, Sides, lower, upper, sides, half-ends, half_length, half-here, half-apart}
use Rattle.layers.proofs.Brought.{brought-is, brought-first}
use Rattle.layers.proofs.Cells.{vertices-later, vertices-few}
use Rattle.layers.proofs.Left.{refused-left, done-left, done-roomy, done-vertices, done-indices}
use Rattle.layered_mesh.specs.Fed.{Offered}

-- ---- the rest of the lists

-- two meshes' lists are the same past the first 3V, 3V, 3V, V, V and I numbers
pub record Rest (v i : ℕ) (after lent : Output) : Type 0 where
  pub positions : drop (3 * v) after.positions ≡ drop (3 * v) lent.positions
  pub normals : drop (3 * v) after.normals ≡ drop (3 * v) lent.normals
  pub cells : drop (3 * v) after.cells ≡ drop (3 * v) lent.cells
  pub strides : drop v after.strides ≡ drop v lent.strides
  pub crossings : drop v after.crossings ≡ drop v lent.crossings
  pub indices : drop i after.indices ≡ drop i lent.indices

same_rest : (v i : ℕ) (o : Output) → Rest v i o o
same_rest v i o = record { positions = refl; normals = refl; cells = refl; strides = refl; crossings = refl; indices = refl }

-- numbers stored from the first place on
stored-rest : {A : Type 0} (l new : List A) (n : ℕ) → length new ≡ n → n ≤ length l → drop n (sets l 0 new) ≡ drop n l
stored-rest l new n e h = sets-after l new 0 (omega arith) n (omega arith)

-- a layer that was taken, of the cells below it
module _ (s : State) (layer : List Float) (m : Memory) (o : Output) (e : (layer_answer s layer m (room_in m o)).number ≡ 0) (later : 0 < s.taken) where
  abbrev g : Field
  g = between_layers s layer m.distances

  abbrev vs : List GridPoint
  vs = layer_vertices g (box_of s.block) (cells_at s)

  counted : length (new_vertices s layer m.distances) ≡ length vs
  counted = ap length (vertices-later s layer m.distances later)

  roomy : Roomy s layer m o
  roomy = done-roomy s layer m o e

  pub written-rest : Rest (length (new_vertices s layer m.distances)) (length (new_indices s layer m)) (brought_out s layer m o).output o
  unfolding marked_out marked
  written-rest =
      let r = roomy in
      let v = length (new_vertices s layer m.distances) in
      let is = new_indices s layer m in
      subst (λ (l : Left). Rest v (length is) l.output o) (sym (brought-is s layer m o later))
      (record {
        positions = stored-rest o.positions (flat_vectors (map (vertex_position g) vs)) (3 * v) (omega (arith, length-vectors (vertex_position g) vs, counted)) r.positions;
        normals = stored-rest o.normals (flat_vectors (map (vertex_normal g) vs)) (3 * v) (omega (arith, length-vectors (vertex_normal g) vs, counted)) r.normals;
        cells = stored-rest o.cells (flat_points vs) (3 * v) (omega (arith, length-points vs, counted)) r.cells;
        strides = stored-rest o.strides (map (index g.dims) vs) v (omega (arith, length-map vs (index g.dims), counted)) r.strides;
        crossings = stored-rest o.crossings (map (vertex_crossings g) vs) v (omega (arith, length-map vs (vertex_crossings g), counted)) r.crossings;
        indices = stored-rest o.indices is (length is) refl r.indices;
      })

  pub positions-rest : drop (3 * length (new_vertices s layer m.distances)) (brought_out s layer m o).memory.positions
      ≡ drop (3 * length (new_vertices s layer m.distances)) m.positions
  positions-rest =
      let v = length (new_vertices s layer m.distances) in
      let new = new_vertices s layer m.distances in
      ap (λ (l : Left). drop (3 * v) l.memory.positions) (brought-is s layer m o later)
      ∙ stored-rest m.positions (flat_vectors (map (vertex_position g) new)) (3 * v) (length-vectors (vertex_position g) new)
      (omega (arith, roomy.keeps, vertices-few roomy.ready))

-- whatever the state and the answer: the lists lent for output, and the kept positions
module _ (s : State) (layer : List Float) (m : Memory) (o : Output) where
  abbrev said : Answer
  said = layer_answer s layer m (room_in m o)

  -- that it leaves the rest of all lists
  abbrev RestOf : Left → Type 0
  RestOf l = Rest said.vertices said.indices l.output o × (drop (3 * said.vertices) l.memory.positions ≡ drop (3 * said.vertices) m.positions)

  brought-rest : said.number ≡ 0 → RestOf (brought_out s layer m o)
  brought-rest e = go (less-or-not 0 s.taken)
    where
      go : (0 < s.taken) ⊎ (s.taken ≤ 0) → RestOf (brought_out s layer m o)
      go (inl h) =
          let v = sym (done-vertices s layer m o e) in
          let i = sym (done-indices s layer m o e) in (
            subst (λ (n : ℕ). Rest said.vertices n (brought_out s layer m o).output o) i
                (subst (λ (n : ℕ). Rest n (length (new_indices s layer m)) (brought_out s layer m o).output o) v (written-rest s layer m o e h)),
            subst (λ (n : ℕ). drop (3 * n) (brought_out s layer m o).memory.positions ≡ drop (3 * n) m.positions) v (positions-rest s layer m o e h),
          )
      go (inr h) = subst RestOf (brought-first s layer m.distances m.map m.positions o (omega arith)) (same_rest said.vertices said.indices o, refl)

  leaves-rest : RestOf (leaves s layer m o)
  unfolding layer_kept
  leaves-rest = go (less-or-not 0 said.number)
    where
      go : (0 < said.number) ⊎ (said.number ≤ 0) → RestOf (leaves s layer m o)
      go (inl h) = subst RestOf (sym (refused-left s layer m o (λ e. omega arith))) (same_rest said.vertices said.indices o, refl)
      go (inr h) = let e : said.number ≡ 0 = omega arith in subst RestOf (sym (done-left s layer m o e)) (brought-rest e)

module _ (u : Offered) where
  pub rest-kept : Rest u.says.vertices u.says.indices u.after.output u.lent
  rest-kept =
      let l = (leaves-rest u.state u.layer u.memory u.lent).0 in
      subst (λ (a : Answer). Rest a.vertices a.indices u.after.output u.lent) (sym u.answered)
      (subst (λ (x : Left). Rest (said u.state u.layer u.memory u.lent).vertices (said u.state u.layer u.memory u.lent).indices x.output u.lent)
      (sym u.left) l)

  pub positions-kept : drop (3 * u.says.vertices) u.after.memory.positions ≡ drop (3 * u.says.vertices) u.memory.positions
  positions-kept =
      let v : u.says.vertices ≡ (said u.state u.layer u.memory u.lent).vertices = ap (λ (a : Answer). a.vertices) u.answered in
      (λ j. drop (3 * v j) (u.left j).memory.positions) ∙ (leaves-rest u.state u.layer u.memory u.lent).1 ∙ (λ j. drop (3 * sym v j) u.memory.positions)

-- ---- beside the box

-- the place j of a layer's part of the map is that of a point whose x and y lie in the box
abbrev pub in_columns : Block → ℕ → Bool
in_columns k j = between k.low.x k.high.x (j % k.dims.x) && between k.low.y k.high.y (j / k.dims.x)

module _ (k : Block) (j : ℕ) (beside : T (in_columns k j) → ⊥) where
  not_in : (z : ℕ) → T (in_box (box_of k) (layer_point (point k.dims) z j)) → ⊥
  not_in z t =
      let x = between k.low.x k.high.x (j % k.dims.x) in
      let y = between k.low.y k.high.y (j / k.dims.x) in
      let d = between k.low.z k.high.z z in
      beside (and_i x y (and_l x (y && d) t) (and_l y d (and_r x (y && d) t)))

  entry-beside : (g : Field) → g.dims ≡ point k.dims → (z first old : ℕ) → layer_entry g (box_of k) z first j old ≡ old
  unfolding layer_entry
  entry-beside g e z first old =
      let p = layer_point g.dims z j in
      let out : T (in_box (box_of k) p) → ⊥ = λ t. not_in z (subst (λ (d : GridPoint). T (in_box (box_of k) (layer_point d z j))) e t) in
      rw (is_false (is_cell (box_of k) p) (λ t. out (cell-in-box (box_of k) p t)), is_false (in_box (box_of k) p) out) refl

  last-beside : (old : ℕ) → last_entry (point k.dims) (box_of k) j old ≡ old
  unfolding last_entry
  last-beside old = rw (is_false (in_box (box_of k) (layer_point (point k.dims) k.high.z j)) (not_in k.high.z)) refl

-- entries put into one half that are old at the place j
module _ (k : Block) (f : ℕ → ℕ → ℕ) (t : ℕ) (mp : List ℕ) (long : 2 * plane k ≤ length mp) where
  abbrev put : List ℕ
  put = put_half k t (placed f 0 (half_of k t mp)) mp

  put-long : length (placed f 0 (half_of k t mp)) ≡ plane k
  put-long = length-placed f 0 (half_of k t mp) ∙ half_length k t mp long

  put-beside : (j : ℕ) → j < plane k → ((old : ℕ) → f j old ≡ old) → (r : ℕ) → get_or (half_of k r put) j 0 ≡ get_or (half_of k r mp) j 0
  put-beside j h keeps r = go (sides k r) (sides k t)
    where
      here : half k r ≡ half k t → get_or (half_of k r put) j 0 ≡ get_or (half_of k r mp) j 0
      here e =
          ap (λ (a : ℕ). get_or (take (plane k) (drop a put)) j 0) e
          ∙ ap (λ (l : List ℕ). get_or l j 0) (half-here k t mp long (placed f 0 (half_of k t mp)) put-long)
          ∙ get_d-placed f 0 (half_of k t mp) j 0 (omega (arith, half_length k t mp long))
          ∙ ap (λ (n : ℕ). f n (get_or (half_of k t mp) j 0)) (zero-add j)
          ∙ keeps (get_or (half_of k t mp) j 0)
          ∙ sym (ap (λ (a : ℕ). get_or (take (plane k) (drop a mp)) j 0) e)

      apart : half k r ≡ half k (t + 1) → get_or (half_of k r put) j 0 ≡ get_or (half_of k r mp) j 0
      apart e =
          ap (λ (a : ℕ). get_or (take (plane k) (drop a put)) j 0) e
          ∙ ap (λ (l : List ℕ). get_or l j 0) (half-apart k t mp long (placed f 0 (half_of k t mp)) put-long)
          ∙ sym (ap (λ (a : ℕ). get_or (take (plane k) (drop a mp)) j 0) e)

      go : Sides k r → Sides k t → get_or (half_of k r put) j 0 ≡ get_or (half_of k r mp) j 0
      go (lower a _) (lower b _) = here (a ∙ sym b)
      go (lower a _) (upper _ b) = apart (a ∙ sym b)
      go (upper a _) (upper b _) = here (a ∙ sym b)
      go (upper a _) (lower _ b) = apart (a ∙ sym b)

  put-size : 2 * plane k ≤ length put
  put-size = omega (arith, length-sets mp (half k t) (placed f 0 (half_of k t mp)))

-- what is put into a half leaves what lies past both
past-halves : {A : Type 0} (k : Block) (t : ℕ) (new l : List A) → length new ≡ plane k → 2 * plane k ≤ length l → drop (2 * plane k) (put_half k t new l) ≡ drop (2 * plane k) l
past-halves k t new l e long =
    let end = half k t + plane k in
    let ends = half-ends k t in
    let rest = 2 * plane k - end in
    let on : end + rest ≡ 2 * plane k = omega arith in
    ap (λ (n : ℕ). drop n (put_half k t new l)) (sym on) ∙ sym (drop-drop rest end (put_half k t new l))
    ∙ ap (drop rest) (sets-after l new (half k t) (omega arith) end (omega arith))
    ∙ drop-drop rest end l ∙ ap (λ (n : ℕ). drop n l) on

-- a layer that was taken
module _ (s : State) (layer : List Float) (m : Memory) (o : Output) (e : (layer_answer s layer m (room_in m o)).number ≡ 0) where
  abbrev k : Block
  k = s.block

  -- the map before the offered layer's half is cleared: as it was, or with the entries of the cells below in their half
  data Marks : List ℕ → Type 0 where
    as_it_was : Marks m.map
    entries : (z first : ℕ) → Marks (put k (layer_entry (between_layers s layer m.distances) (box_of k) z first) (before s) m.map (done-roomy s layer m o e).map)

  marks-are : Marks (brought_out s layer m o).memory.map
  unfolding marked_out marked
  marks-are = go (less-or-not 0 s.taken)
    where
      go : (0 < s.taken) ⊎ (s.taken ≤ 0) → Marks (brought_out s layer m o).memory.map
      go (inl h) = subst (λ (l : Left). Marks l.memory.map) (sym (brought-is s layer m o h)) (entries (cells_at s) (new_first s layer m.distances))
      go (inr h) = subst (λ (l : Left). Marks l.memory.map) (brought-first s layer m.distances m.map m.positions o (omega arith)) as_it_was

  marks-size : {mp : List ℕ} → Marks mp → 2 * plane k ≤ length mp
  marks-size as_it_was = (done-roomy s layer m o e).map
  marks-size (entries z first) = put-size k (layer_entry (between_layers s layer m.distances) (box_of k) z first) (before s) m.map (done-roomy s layer m o e).map

  marks-beside : {mp : List ℕ} → Marks mp → (j : ℕ) → j < plane k → (T (in_columns k j) → ⊥) → (r : ℕ) → get_or (half_of k r mp) j 0 ≡ get_or (half_of k r m.map) j 0
  marks-beside as_it_was j h beside r = refl
  marks-beside (entries z first) j h beside r =
      put-beside k (layer_entry (between_layers s layer m.distances) (box_of k) z first) (before s) m.map (done-roomy s layer m o e).map j h
      (entry-beside k j beside (between_layers s layer m.distances) refl z first) r

  marks-past : {mp : List ℕ} → Marks mp → drop (2 * plane k) mp ≡ drop (2 * plane k) m.map
  marks-past as_it_was = refl
  marks-past (entries z first) =
      let f = layer_entry (between_layers s layer m.distances) (box_of k) z first in
      let long = (done-roomy s layer m o e).map in
      past-halves k (before s) (placed f 0 (half_of k (before s) m.map)) m.map (put-long k f (before s) m.map long) long

  map-left : (leaves s layer m o).memory.map ≡ cleared k s.taken (brought_out s layer m o).memory.map
  unfolding layer_kept
  map-left = ap (λ (l : Left). l.memory.map) (done-left s layer m o e)

  taken-beside : (j : ℕ) → j < plane k → (T (in_columns k j) → ⊥) → (r : ℕ) → get_or (half_of k r (leaves s layer m o).memory.map) j 0 ≡ get_or (half_of k r m.map) j 0
  taken-beside j h beside r =
      let mp = (brought_out s layer m o).memory.map in
      ap (λ (l : List ℕ). get_or (half_of k r l) j 0) map-left
      ∙ put-beside k (last_entry (point k.dims) (box_of k)) s.taken mp (marks-size marks-are) j h (last-beside k j beside) r
      ∙ marks-beside marks-are j h beside r

  taken-past : drop (2 * plane k) (leaves s layer m o).memory.map ≡ drop (2 * plane k) m.map
  taken-past =
      let mp = (brought_out s layer m o).memory.map in
      let f = last_entry (point k.dims) (box_of k) in
      let long = marks-size marks-are in
      ap (drop (2 * plane k)) map-left ∙ past-halves k s.taken (placed f 0 (half_of k s.taken mp)) mp (put-long k f s.taken mp long) long ∙ marks-past marks-are

  distances-left : (leaves s layer m o).memory.distances ≡ put_half k s.taken layer m.distances
  unfolding layer_kept
  distances-left = ap (λ (l : Left). l.memory.distances) (done-left s layer m o e) ∙ ap (put_half k s.taken layer) same
    where
      go : (0 < s.taken) ⊎ (s.taken ≤ 0) → (brought_out s layer m o).memory.distances ≡ m.distances
      go (inl h) = ap (λ (l : Left). l.memory.distances) (brought-is s layer m o h)
      go (inr h) = sym (ap (λ (l : Left). l.memory.distances) (brought-first s layer m.distances m.map m.positions o (omega arith)))

      same : (brought_out s layer m o).memory.distances ≡ m.distances
      same = go (less-or-not 0 s.taken)

-- whatever the state, the memory and the answer
module _ (u : Offered) where
  abbrev block : Block
  block = u.state.block

  -- the answer is 0 or not
  by_answer : (P : Left → Type 0)
      → ((layer_answer u.state u.layer u.memory (room_in u.memory u.lent)).number ≡ 0 → P (leaves u.state u.layer u.memory u.lent))
      → P (left u.memory u.lent) → P u.after
  by_answer P yes' no' = subst P (sym u.left) (go (less-or-not 0 number))
    where
      number : ℕ
      number = (layer_answer u.state u.layer u.memory (room_in u.memory u.lent)).number

      go : (0 < number) ⊎ (number ≤ 0) → P (leaves u.state u.layer u.memory u.lent)
      go (inl h) = subst P (sym (refused-left u.state u.layer u.memory u.lent (λ e. omega arith))) no'
      go (inr h) = yes' (omega arith)

  -- "Points outside the box still keep theirs", in both halves of the kept map
  pub map-beside-keeps : (j : ℕ) → j < plane block → (T (in_columns block j) → ⊥) → (r : ℕ)
      → get_or (half_of block r u.after.memory.map) j 0 ≡ get_or (half_of block r u.memory.map) j 0
  map-beside-keeps j h beside r =
      by_answer (λ l. get_or (half_of block r l.memory.map) j 0 ≡ get_or (half_of block r u.memory.map) j 0)
      (λ e. taken-beside u.state u.layer u.memory u.lent e j h beside r) refl

  -- and what lies past them
  pub map-past-keeps : drop (2 * plane block) u.after.memory.map ≡ drop (2 * plane block) u.memory.map
  map-past-keeps =
      by_answer (λ l. drop (2 * plane block) l.memory.map ≡ drop (2 * plane block) u.memory.map)
      (λ e. taken-past u.state u.layer u.memory u.lent e) refl

  -- the kept layer that was there before, and what lies past both
  pub distances-apart-keep : half_of block (u.state.taken + 1) u.after.memory.distances ≡ half_of block (u.state.taken + 1) u.memory.distances
  distances-apart-keep =
      by_answer (λ l. half_of block (u.state.taken + 1) l.memory.distances ≡ half_of block (u.state.taken + 1) u.memory.distances)
      (λ e.
      let r = (done-roomy u.state u.layer u.memory u.lent e).ready in
      ap (half_of block (u.state.taken + 1)) (distances-left u.state u.layer u.memory u.lent e)
      ∙ half-apart block u.state.taken u.memory.distances r.kept u.layer r.offered.long) refl

  pub distances-past-keep : drop (2 * plane block) u.after.memory.distances ≡ drop (2 * plane block) u.memory.distances
  distances-past-keep =
      by_answer (λ l. drop (2 * plane block) l.memory.distances ≡ drop (2 * plane block) u.memory.distances)
      (λ e.
      let r = (done-roomy u.state u.layer u.memory u.lent e).ready in
      ap (drop (2 * plane block)) (distances-left u.state u.layer u.memory u.lent e)
      ∙ past-halves block u.state.taken u.layer u.memory.distances r.offered.long r.kept) refl
