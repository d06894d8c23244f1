-- The answer by the tests that led to it, in their order, and the counts that it says. Assumes nothing.
use Prim.Native.Nat.{ℕ, ◌*◌, ◌^◌, ◌≤◌, ◌<◌}
use native.Mathlib.Omega.{arith}
use mathlib.Core.Bool.{Bool, true, false, not, ◌||◌, cond}
use mathlib.Core.List.{List}
use mathlib.Core.Path.{◌≡◌, refl, sym, ap, ◌∙◌}
use borrow.Author.Tests.{lt-ltb, le-ltb}
use lib.Dec.{T, eqb, ltb, nltb→le}
use lib.ListN.{length}
use Rattle.std.proofs.Common.{Result, Ok, Err}
use lib.Ieee.{Float}
use Rattle.lists.specs.Lists.{keep, joined}
use Rattle.rules.specs.Grid.{GridPoint, Box, Field}
use Rattle.rules.specs.Vertices.{surface_cell, vertices, cells}
use Rattle.rules.specs.Faces.{Edge, Flags, cell_edges, indices}
use Rattle.rules.specs.Call.{Call, Room, Answer, answers, answer, room_answer, bad_distance, bad_vertex_room, bad_index_room, vertex_count, index_count}
use Rattle.lists.proofs.Tests.{nor-left, nor-right}
use Rattle.rules.proofs.Accepted.{accepted-answer, done-accepted}
use Rattle.rules.proofs.Counting.{vertices-are}
use Rattle.rules.proofs.Edges.{edges_are, edge_count, index-count}
use Rattle.grid.specs.declared.Block.{Block}
use Rattle.count.specs.declared.Tally.{Tally}
use Rattle.grid.specs.Block.{box_of, flags_of, field_of}
use Rattle.grid.specs.Inside.{Inside}
use Rattle.grid.specs.declared.checks.Fault.TheVariants.{Dimensions, Box as BoxFault, Length}
use Rattle.grid.specs.Faults.{first_fault}
use Rattle.count.specs.Tally.{tally_of}
use Rattle.judge.specs.AsRules.{answer_of}
use Rattle.judge.specs.declared.Refusal.{Refusal}
use Rattle.judge.specs.declared.Refusal.TheVariants.{Grid, Map, Distance, VertexRoom, IndexRoom}
use Rattle.grid.proofs.Faults.{Faultless, first-answers, fault-some}
use Rattle.grid.proofs.Order.{box-ends}
use Rattle.grid.proofs.Rows.{box-short}
use Rattle.count.proofs.Tallies.{vertices-few}

-- ---- conditions 1 to 5

module _ (c : Call) (r : Room) where
  -- 1, 2 or 3
  pub says-fault : (first_fault c.grid.dims c.box c.size ≡ 0 → ⊥) → answers (first_fault c.grid.dims c.box c.size) 0 0 ≡ answer c r
  unfolding answer
  says-fault n = first-answers c.grid.dims c.box c.size (λ (m : ℕ). answers m 0 0) _ n

  module _ (f : Faultless c.grid.dims c.box c.size) where
    pub says-4 : ltb r.map c.size ≡ true → answers 4 0 0 ≡ answer c r
    unfolding answer
    says-4 e = rw (f.dims, f.box, f.size, e)

    pub says-5 : ltb r.map c.size ≡ false → bad_distance c.grid c.box ≡ true → answers 5 0 0 ≡ answer c r
    unfolding answer
    says-5 e h = rw (f.dims, f.box, f.size, e, h)

    pub says-room : ltb r.map c.size ≡ false → bad_distance c.grid c.box ≡ false → room_answer r (vertex_count c) (index_count c) ≡ answer c r
    unfolding answer
    says-room e h = rw (f.dims, f.box, f.size, e, h)

-- ---- conditions 6 and 7

module _ (r : Room) (v i : ℕ) where
  pub positions-short : r.positions < 3 * v → answers 6 v i ≡ room_answer r v i
  unfolding room_answer
  positions-short h = simp (lt-ltb r.positions (3 * v) h)

  pub normals-short : 3 * v ≤ r.positions → r.normals < 3 * v → answers 6 v i ≡ room_answer r v i
  unfolding room_answer
  normals-short p h = simp (le-ltb r.positions (3 * v) p, lt-ltb r.normals (3 * v) h)

  pub cells-short : 3 * v ≤ r.positions → 3 * v ≤ r.normals → r.cells < 3 * v → answers 6 v i ≡ room_answer r v i
  unfolding room_answer
  cells-short p n h = simp (le-ltb r.positions (3 * v) p, le-ltb r.normals (3 * v) n, lt-ltb r.cells (3 * v) h)

  pub strides-short : 3 * v ≤ r.positions → 3 * v ≤ r.normals → 3 * v ≤ r.cells → r.strides < v → answers 6 v i ≡ room_answer r v i
  unfolding room_answer
  strides-short p n c h = simp (le-ltb r.positions (3 * v) p, le-ltb r.normals (3 * v) n, le-ltb r.cells (3 * v) c, lt-ltb r.strides v h)

  pub crossings-short : 3 * v ≤ r.positions → 3 * v ≤ r.normals → 3 * v ≤ r.cells → v ≤ r.strides → r.crossings < v → answers 6 v i ≡ room_answer r v i
  unfolding room_answer
  crossings-short p n c s h =
      simp (le-ltb r.positions (3 * v) p, le-ltb r.normals (3 * v) n, le-ltb r.cells (3 * v) c, le-ltb r.strides v s, lt-ltb r.crossings v h)

  -- there is room for the vertices
  module _ (p : 3 * v ≤ r.positions) (n : 3 * v ≤ r.normals) (c : 3 * v ≤ r.cells) (s : v ≤ r.strides) (x : v ≤ r.crossings) where
    vertices-fit : bad_vertex_room r v ≡ false
    vertices-fit =
        simp (le-ltb r.positions (3 * v) p, le-ltb r.normals (3 * v) n, le-ltb r.cells (3 * v) c, le-ltb r.strides v s, le-ltb r.crossings v x)

    pub indices-short : r.indices < i → answers 7 v i ≡ room_answer r v i
    unfolding room_answer
    indices-short h = simp (vertices-fit, lt-ltb r.indices i h)

    pub room-enough : i ≤ r.indices → answers 0 v i ≡ room_answer r v i
    unfolding room_answer
    room-enough h = simp (vertices-fit, le-ltb r.indices i h)

-- ---- V and I are the counts of the definitions

pub tally-counts : (g : Field) (b : Box) (m : Flags) → tally_of g b m (cells b) ≡ record { vertices = length (vertices g b); indices = length (indices g b m) }
unfolding tally_of
tally-counts g b m =
    let v : length (keep (surface_cell g) (cells b)) ≡ length (vertices g b) = ap length (sym (vertices-are g b)) in
    let i : 6 * length (joined (cell_edges g b m) (keep (surface_cell g) (cells b))) ≡ length (indices g b m) =
    ap (λ (l : List GridPoint). 6 * length (joined (cell_edges g b m) l)) (sym (vertices-are g b))
    ∙ ap (λ (l : List Edge). 6 * length l) (sym (edges_are g b m)) ∙ ap (λ (n : ℕ). 6 * n) (edge_count g b m) ∙ sym (index-count g b m) in
    λ j. record { vertices = v j; indices = i j }

pub few-vertices : (grid : List Float) (k : Block) → Inside grid k → (t : Tally) → t ≡ tally_of (field_of grid k) (box_of k) (flags_of k) (cells (box_of k)) → t.vertices < 2 ^ 60
few-vertices grid k i t e =
    let same : t.vertices ≡ (tally_of (field_of grid k) (box_of k) (flags_of k) (cells (box_of k))).vertices = ap (λ (u : Tally). u.vertices) e in
    let few = vertices-few (field_of grid k) (box_of k) (flags_of k) (cells (box_of k)) in
    let short : length (cells (box_of k)) ≤ 1073741824 = rw (← box-ends (box_of k)) (box-short grid k i k.high.z (omega arith)) in
    omega arith

-- ---- what an answer of 0 says

pub record Enough (r : Room) (v i : ℕ) : Type 0 where
  pub positions : 3 * v ≤ r.positions
  pub normals : 3 * v ≤ r.normals
  pub cells : 3 * v ≤ r.cells
  pub strides : v ≤ r.strides
  pub crossings : v ≤ r.crossings
  pub indices : i ≤ r.indices

neither : (t u : Bool) (v i : ℕ) → (cond t (answers 6 v i) (cond u (answers 7 v i) (answers 0 v i))).number ≡ 0 → T (not t) × T (not u)
neither true u v i e = absurd (omega arith)
neither false true v i e = absurd (omega arith)
neither false false v i e = (tt, tt)

pub room-done : (r : Room) (v i : ℕ) → (room_answer r v i).number ≡ 0 → Enough r v i
unfolding room_answer
room-done r v i e =
    record {
      positions = nltb→le r.positions (3 * v) (nor-left short-p short_n both.0);
      normals = nltb→le r.normals (3 * v) (nor-left (ltb r.normals (3 * v)) short-c second);
      cells = nltb→le r.cells (3 * v) (nor-left (ltb r.cells (3 * v)) short-s third);
      strides = nltb→le r.strides v (nor-left (ltb r.strides v) (ltb r.crossings v) fourth);
      crossings = nltb→le r.crossings v (nor-right (ltb r.strides v) (ltb r.crossings v) fourth);
      indices = nltb→le r.indices i both.1;
    }
  where
    short-p : Bool
    short-p = ltb r.positions (3 * v)

    -- the tests of one list and of those after it
    short-s : Bool
    short-s = ltb r.strides v || ltb r.crossings v

    short-c : Bool
    short-c = ltb r.cells (3 * v) || short-s

    short_n : Bool
    short_n = ltb r.normals (3 * v) || short-c

    both : T (not (bad_vertex_room r v)) × T (not (bad_index_room r i))
    both = neither (bad_vertex_room r v) (bad_index_room r i) v i e

    second : T (not short_n)
    second = nor-right short-p short_n both.0

    third : T (not short-c)
    third = nor-right (ltb r.normals (3 * v)) short-c second

    fourth : T (not short-s)
    fourth = nor-right (ltb r.cells (3 * v)) short-s third

pub done-enough : (c : Call) (r : Room) → (answer c r).number ≡ 0 → Enough r (vertex_count c) (index_count c)
done-enough c r e = room-done r (vertex_count c) (index_count c) (ap (λ (a : Answer). a.number) (sym (accepted-answer c r (done-accepted c r e))) ∙ e)

-- a refusal's number is not that of none
pub refused-some : (r : Refusal) → (answer_of (Err r)).number ≡ 0 → ⊥
refused-some (Grid f) e = fault-some f refl e
refused-some Map e = omega arith
refused-some Distance e = omega arith
refused-some (VertexRoom t) e = omega arith
refused-some (IndexRoom t) e = omega arith

-- an answer says of which result it is, so that two results with one answer are the same
result_of : Answer → Result Tally Refusal
result_of a =
    let counts : Tally = record { vertices = a.vertices; indices = a.indices } in
    cond (eqb a.number 0) (Ok counts)
    (cond (eqb a.number 1) (Err (Grid Dimensions))
    (cond (eqb a.number 2) (Err (Grid BoxFault))
    (cond (eqb a.number 3) (Err (Grid Length))
    (cond (eqb a.number 4) (Err Map)
    (cond (eqb a.number 5) (Err Distance)
    (cond (eqb a.number 6) (Err (VertexRoom counts))
    (Err (IndexRoom counts))))))))

result-back : (r : Result Tally Refusal) → result_of (answer_of r) ≡ r
unfolding result_of
result-back (Ok t) = refl
result-back (Err (Grid Dimensions)) = refl
result-back (Err (Grid BoxFault)) = refl
result-back (Err (Grid Length)) = refl
result-back (Err Map) = refl
result-back (Err Distance) = refl
result-back (Err (VertexRoom t)) = refl
result-back (Err (IndexRoom t)) = refl

pub answer-once : (r s : Result Tally Refusal) → answer_of r ≡ answer_of s → r ≡ s
answer-once r s e = sym (result-back r) ∙ ap result_of e ∙ result-back s
