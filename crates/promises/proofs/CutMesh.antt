-- Document 01, "Cutting a box", of what the calls on the pieces have written, lent lists and all: whoever cuts a box that conditions 1 to 5 let pass, and
-- calls once for each piece, with a map as long as the grid and room for the piece's own mesh, is answered 0 each time, and the faces read from
-- the lists of all the pieces are those of the whole, each once. For any flags (document 02, request 4): "on the cut axis the lower piece has its flag off and
-- the upper keeps the whole's; on the other axes both keep the whole's". Document 01's law is the case with none. The same for any plan, of which a
-- run of cuts is a case. From the laws of cutting and of
-- what is read back. Assumes nothing.
use Prim.Native.Nat.{ℕ, ◌+◌, ◌*◌, ◌≤◌, ◌<◌}
use mathlib.Core.Bool.{false}
use mathlib.Core.List.{List, [], ◌∷◌, ◌++◌, map}
use mathlib.Core.Path.{◌≡◌, refl, sym, ap, ap₂, ◌∙◌}
use lib.Arith.{le→nltb}
use lib.Ieee.{Float, nan}
use lib.ListN.{length, get_or}
use Rattle.lists.specs.Lists.{one, many, joined}
use Rattle.rules.specs.Grid.{GridPoint, Axis, Box, Field, along}
use Rattle.rules.specs.Faces.{Edge, flag, gives, edges, changing_edges}
use Rattle.rules.specs.Call.{Call, Room, Answer, room, answer, vertex_count, index_count}
use Rattle.rules.specs.Cutting.{Piece, Cuts, pieces, Fits, Plan, upper_piece, Face, face_of}
use Rattle.lists.proofs.Lists.{All, none, more, all_then, many-map, total, total-same, total-scaled, length-joined}
use Rattle.lists.proofs.Permutation.{Perm, perm-many}
use Rattle.rules.proofs.Accepted.{Accepted, accepted-answer, pieces-accepted}
use Rattle.rules.proofs.Edges.{same_edge, edges-once}
use Rattle.rules.proofs.Seen.{seen, seen-is}
use Rattle.rules.proofs.Cutting.{cuts-plan, mesh-law, number-law, last-upper}
use Rattle.grid.specs.declared.Extent.{Extent}
use Rattle.grid.specs.Block.{point, flags}
use Rattle.judge.proofs.Judging.{room-enough}
use Rattle.promises.specs.Served.{Served, Done, piece_of, faces_read, cell_read, crossings_read}
use Rattle.promises.proofs.Runs.{Run, grid_of, dims_of, low_of, high_of, plane_of, served, BedRun, bed_grid, bed_dims, bed_low, bed_high, bed_plane, bed_served}
use Rattle.promises.proofs.ReadBack.{faces-back, all_read}
use Rattle.promises.proofs.Crossings.{one_number}

-- ---- a call on a piece

-- a point as the code has it
abbrev pub extent_of : GridPoint → Extent
extent_of p = record { x = p.x; y = p.y; z = p.z }

-- the grid as the rules have it
abbrev pub field_in : List Float → Extent → Field
field_in grid dims = record { dims = point dims; dist = λ i. get_or grid i nan }

-- the call on a piece of this grid: its box, and its flags
abbrev pub piece_call : List Float → Extent → Piece → Call
piece_call grid dims q = record { grid = field_in grid dims; size = length grid; box = q.box; flags = q.flags }

-- the lent lists have room: the map for the grid, and the six other lists for V and I
pub record HasRoom (c : Call) (r : Room) : Type 0 where
  pub map : c.size ≤ r.map
  pub positions : 3 * vertex_count c ≤ r.positions
  pub normals : 3 * vertex_count c ≤ r.normals
  pub cells : 3 * vertex_count c ≤ r.cells
  pub strides : vertex_count c ≤ r.strides
  pub crossings : vertex_count c ≤ r.crossings
  pub indices : index_count c ≤ r.indices

-- then an accepted call is done
room-done : (c : Call) (r : Room) → Accepted c.grid c.size r.map c.box → HasRoom c r → (answer c r).number ≡ 0
room-done c r a h =
    ap (λ (t : Answer). t.number)
    (accepted-answer c r a ∙ sym (room-enough r (vertex_count c) (index_count c) h.positions h.normals h.cells h.strides h.crossings h.indices))

-- conditions 1 to 5 do not hold of a box of this grid, with a map as long as the grid
abbrev pub Passing : List Float → Extent → Box → Type 0
Passing grid dims b = Accepted (field_in grid dims) (length grid) (length grid) b

-- ---- what is concluded

-- where a vertex of the one and a vertex of the other have the same cell, they have the same number of crossings
abbrev pub SameNumbers : Served → Served → Type 0
SameNumbers u u' = (v v' : ℕ) → v < u.says.vertices → v' < u'.says.vertices → cell_read u v ≡ cell_read u' v' → crossings_read u v ≡ crossings_read u' v'

-- of a box of a grid with its flags, and what came of the calls on its pieces
pub record CutMesh (g : Field) (w : Piece) (us : List Served) : Type 0 where
  -- each call is answered 0
  pub done : All Done us
  -- the faces read from the lists of all the pieces, each six looked up in its own cells and positions and known by the edge that its cells show, are the
  -- faces that the whole's edges define, each once: the same grid edges, and the same corners, by cell and position, in the same order round
  pub faces : Perm (joined faces_read us) (map (face_of g) (edges g w.box w.flags))
  -- "A face is known by its grid edge": each edge is shown by one face of all the pieces' lists, if the whole owns the edge and exactly one end is negative, and
  -- else by none
  pub once : (e : Edge) → many (λ (f : Face). same_edge e f.edge) (joined faces_read us) ≡ one (gives g w.box w.flags e)
  -- so there are as many as the whole has such edges, which is counted from the distances alone
  pub number : length (joined faces_read us) ≡ changing_edges g w.box w.flags
  -- and the pieces' I, as answered, add up to six for each: no six of a list is without its edge
  pub indices : total (λ (u : Served). u.says.indices) us ≡ 6 * changing_edges g w.box w.flags
  -- document 02, request 13: "a cell in two pieces has the same number in both", each read beside the cell in its piece's own lists
  pub crossings : All (λ (u : Served). All (SameNumbers u) us) us

-- in the faces that a box's edges define
defined-once : (g : Field) (w : Piece) (e : Edge)
    → many (λ (f : Face). same_edge e f.edge) (map (face_of g) (edges g w.box w.flags)) ≡ one (gives g w.box w.flags e)
defined-once g w e = many-map (λ (f : Face). same_edge e f.edge) (face_of g) (edges g w.box w.flags) ∙ edges-once g w.box w.flags e

-- of calls that are done
indices-total : (us : List Served) → All Done us → total (λ (u : Served). u.says.indices) us ≡ 6 * length (joined faces_read us)
indices-total us d =
    total-same (all_then all_read d)
    ∙ total-scaled 6 (λ (u : Served). length (faces_read u)) us
    ∙ ap (λ (n : ℕ). 6 * n) (sym (length-joined faces_read us))

-- ---- the calls on the pieces

-- U and made: Run and served, or BedRun and bed_served
module _ {U : Type 0} (made : U → Served) (grid : List Float) (dims : Extent) where
  -- one call made for a piece, with lists of its own that have room: the same grid and dimensions, the piece's corners and flags
  pub record Meshed (q : Piece) : Type 0 where
    pub run : U
    pub asked : (made run).call ≡ piece_call grid dims q
    pub roomy : HasRoom (piece_call grid dims q) (room (made run).before)

  -- what came of the calls, in the order of the pieces
  abbrev pub outcomes : (ps : List Piece) → All Meshed ps → List Served
  outcomes [] none = []
  outcomes (q ∷ qs) (more m ms) = made m.run ∷ outcomes qs ms

  pub piece-done : (q : Piece) (m : Meshed q) → Passing grid dims q.box → Done (made m.run)
  piece-done q m a =
      ap (λ (t : Answer). t.number) (made m.run).answered
      ∙ ap (λ (c : Call). (answer c (room (made m.run).before)).number) m.asked
      ∙ room-done (piece_call grid dims q) (room (made m.run).before) longer m.roomy
    where
      longer : Accepted (field_in grid dims) (length grid) (length (made m.run).before.map) q.box
      longer =
          record {
            dims = a.dims;
            box = a.box;
            length = a.length;
            map = le→nltb (length (made m.run).before.map) (length grid) m.roomy.map;
            distance = a.distance;
          }

  piece-faces : (q : Piece) (m : Meshed q) → Done (made m.run) → faces_read (made m.run) ≡ seen (field_in grid dims) q
  piece-faces q m d = faces-back (made m.run) d ∙ ap (λ (c : Call). seen c.grid (piece_of c)) m.asked

  all_done : (ps : List Piece) (ms : All Meshed ps) → All (λ (q : Piece). Passing grid dims q.box) ps → All Done (outcomes ps ms)
  all_done [] none none = none
  all_done (q ∷ qs) (more m ms) (more h hs) = more (piece-done q m h) (all_done qs ms hs)

  -- done, and on this grid
  all_here : (ps : List Piece) (ms : All Meshed ps) → All Done (outcomes ps ms) → All (λ (u : Served). Done u × (u.call.grid ≡ field_in grid dims)) (outcomes ps ms)
  all_here [] none none = none
  all_here (q ∷ qs) (more m ms) (more d ds) = more (d, ap (λ (c : Call). c.grid) m.asked) (all_here qs ms ds)

  all-faces : (ps : List Piece) (ms : All Meshed ps) → All Done (outcomes ps ms) → joined faces_read (outcomes ps ms) ≡ joined (seen (field_in grid dims)) ps
  unfolding joined
  all-faces [] none none = refl
  all-faces (q ∷ qs) (more m ms) (more d ds) = ap₂ {A = List Face} ◌++◌ (piece-faces q m d) (all-faces qs ms ds)

  -- ---- the law

  -- of any plan: conditions 1 to 5 hold of no piece, with a map as long as the grid; and one call for each piece
  pub plan-mesh : (ps : List Piece) (w : Piece) → Plan ps w → All (λ (q : Piece). Passing grid dims q.box) ps → (ms : All Meshed ps)
      → CutMesh (field_in grid dims) w (outcomes ps ms)
  plan-mesh ps w h pass ms =
      let g = field_in grid dims in
      let us = outcomes ps ms in
      let d = all_done ps ms pass in
      let e : joined faces_read us ≡ joined (seen g) ps = all-faces ps ms d in
      let p : Perm (joined faces_read us) (map (face_of g) (edges g w.box w.flags)) = rw (e, ← seen-is g w) (mesh-law g ps w h) in
      let n : length (joined faces_read us) ≡ changing_edges g w.box w.flags = ap length e ∙ number-law g ps w h in
      record {
        done = d;
        faces = p;
        once = λ (x : Edge). perm-many (λ (f : Face). same_edge x f.edge) p ∙ defined-once g w x;
        number = n;
        indices = indices-total us d ∙ ap (λ (k : ℕ). 6 * k) n;
        crossings = let here = all_here ps ms d in all_then (λ u h. all_then (λ u' h'. one_number u u' h.0 h'.0 (h.1 ∙ sym h'.1)) here) here;
      }

  -- beside a call for the whole, with room: it is done too, and its lists show the same faces
  pub plan-mesh-whole : (ps : List Piece) (w : Piece) → Plan ps w → All (λ (q : Piece). Passing grid dims q.box) ps → (ms : All Meshed ps)
      → Passing grid dims w.box → (whole : Meshed w) → Done (made whole.run) × Perm (joined faces_read (outcomes ps ms)) (faces_read (made whole.run))
  plan-mesh-whole ps w h pass ms a whole =
      let d = piece-done w whole a in
      (d, rw (piece-faces w whole d, seen-is (field_in grid dims) w) (plan-mesh ps w h pass ms).faces)

  -- a run of cuts is a plan: conditions 1 to 5 do not hold of the whole, with a map as long as the grid; "min ≤ k < max" at each cut, to any depth; and one
  -- call for each piece
  pub cut-mesh : (t : Cuts) (w : Piece) → Passing grid dims w.box → Fits t w → (ms : All Meshed (pieces t w))
      → CutMesh (field_in grid dims) w (outcomes (pieces t w) ms)
  cut-mesh t w a f ms = plan-mesh (pieces t w) w (cuts-plan t w f) (pieces-accepted (field_in grid dims) (length grid) (length grid) t w f a) ms

  pub cut-mesh-whole : (t : Cuts) (w : Piece) → Passing grid dims w.box → Fits t w → (ms : All Meshed (pieces t w)) → (whole : Meshed w)
      → Done (made whole.run) × Perm (joined faces_read (outcomes (pieces t w) ms)) (faces_read (made whole.run))
  cut-mesh-whole t w a f ms whole = plan-mesh-whole (pieces t w) w (cuts-plan t w f) (pieces-accepted (field_in grid dims) (length grid) (length grid) t w f a) ms a whole

  -- "At k = max - 1 .. the upper has no face": nothing is read from its lists
  pub last-upper-read : (a : Axis) (k : ℕ) (w : Piece) → along a w.box.low ≤ k → k + 1 ≡ along a w.box.high → flag a w.flags ≡ false
      → (m : Meshed (upper_piece a k w)) → Done (made m.run) → faces_read (made m.run) ≡ []
  last-upper-read a k w l h f m d = piece-faces (upper_piece a k w) m d ∙ last-upper (field_in grid dims) a k w l h f

-- ---- of surface_nets, and of bed_surface_nets, with any flags

-- the arguments that make a run a call on a piece
pub run-asks : (u : Run) (grid : List Float) (dims : Extent) (q : Piece) → grid_of u ≡ grid → dims_of u ≡ dims
    → low_of u ≡ extent_of q.box.low → high_of u ≡ extent_of q.box.high → flags (plane_of u) ≡ q.flags → (served u).call ≡ piece_call grid dims q
run-asks u grid dims q g d l h f = λ i. record { grid = field_in (g i) (d i); size = length (g i); box = record { low = point (l i); high = point (h i) }; flags = f i }

pub bed-run-asks : (u : BedRun) (grid : List Float) (dims : Extent) (q : Piece) → bed_grid u ≡ grid → bed_dims u ≡ dims
    → bed_low u ≡ extent_of q.box.low → bed_high u ≡ extent_of q.box.high → flags (bed_plane u) ≡ q.flags → (bed_served u).call ≡ piece_call grid dims q
bed-run-asks u grid dims q g d l h f = λ i. record { grid = field_in (g i) (d i); size = length (g i); box = record { low = point (l i); high = point (h i) }; flags = f i }

pub surface-nets-cut : (grid : List Float) (dims : Extent) (t : Cuts) (w : Piece) → Passing grid dims w.box → Fits t w
    → (ms : All (Meshed {U = Run} served grid dims) (pieces t w)) → CutMesh (field_in grid dims) w (outcomes served grid dims (pieces t w) ms)
surface-nets-cut grid dims = cut-mesh served grid dims

pub surface-nets-cut-whole : (grid : List Float) (dims : Extent) (t : Cuts) (w : Piece) → Passing grid dims w.box → Fits t w
    → (ms : All (Meshed {U = Run} served grid dims) (pieces t w)) (whole : Meshed {U = Run} served grid dims w)
    → Done (served whole.run) × Perm (joined faces_read (outcomes served grid dims (pieces t w) ms)) (faces_read (served whole.run))
surface-nets-cut-whole grid dims = cut-mesh-whole served grid dims

pub bed-surface-nets-cut : (grid : List Float) (dims : Extent) (t : Cuts) (w : Piece) → Passing grid dims w.box → Fits t w
    → (ms : All (Meshed {U = BedRun} bed_served grid dims) (pieces t w)) → CutMesh (field_in grid dims) w (outcomes bed_served grid dims (pieces t w) ms)
bed-surface-nets-cut grid dims = cut-mesh bed_served grid dims

pub bed-surface-nets-cut-whole : (grid : List Float) (dims : Extent) (t : Cuts) (w : Piece) → Passing grid dims w.box → Fits t w
    → (ms : All (Meshed {U = BedRun} bed_served grid dims) (pieces t w)) (whole : Meshed {U = BedRun} bed_served grid dims w)
    → Done (bed_served whole.run) × Perm (joined faces_read (outcomes bed_served grid dims (pieces t w) ms)) (faces_read (bed_served whole.run))
bed-surface-nets-cut-whole grid dims = cut-mesh-whole bed_served grid dims
