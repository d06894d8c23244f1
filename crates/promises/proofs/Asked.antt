-- bed_answer and bed_surface_nets: the answer alone is the answer of the call on lists of these lengths, with V and I; and what it tells is enough: the
-- same call with a map as long as the grid and room for these V and I is not refused with 6 or 7, and every other answer stays. Said once over a question
-- and a call of document 01, of whatever width; here of floats, in WholeAsked of whole numbers. Assumes nothing.
use Prim.Native.Nat.{ℕ, ◌*◌, ◌≤◌}
use native.Mathlib.Nat.{le_refl}
use native.Mathlib.Omega.{arith}
use mathlib.Core.Bool.{Bool, true, false, cond}
use mathlib.Core.Logic.{⊎_elim}
use mathlib.Core.Path.{◌≡◌, refl, sym, ap, subst, ◌∙◌}
use borrow.Author.Tests.{le-ltb}
use lib.Dec.{leb}
use lib.ListN.{length}
use Rattle.rules.specs.Call.{Call, Room, Answer, answers, answer, room_answer, room, vertex_count, index_count}
use Rattle.rules.specs.Call.{bad_dimensions, bad_box, bad_length, bad_distance, bad_vertex_room, bad_index_room}
use Rattle.judge.proofs.Judging.{Enough, room-enough}
use Rattle.surface_nets.specs.AsRules.{call_made}
use Rattle.bed.specs.Boundary.{asked}
use Rattle.bed.specs.Words12 as words12
use Rattle.bed.proofs.Places.{AskCall, grid_asked, words_asked, lengths_asked, answer_asked, answer-by-place}
use Rattle.promises.specs.Served.{Served}
use Rattle.promises.specs.Told.{Question, Tells, map_alone, exactly, with_room}
use Rattle.promises.proofs.Runs.{BedRun, bed_grid, bed_dims, bed_low, bed_high, bed_plane, bed_served}

-- ---- what is told is enough, of the definition

-- 6, 7 and 0 say V and I, and with room for those the answer is 0
room-told : (r s : Room) (v i : ℕ) → Enough s (room_answer r v i).vertices (room_answer r v i).indices → room_answer s v i ≡ with_room (room_answer r v i)
unfolding room_answer
room-told r s v i = go (bad_vertex_room r v) (bad_index_room r i)
  where
    done : Enough s v i → room_answer s v i ≡ answers 0 v i
    done e = sym (room-enough s v i e.positions e.normals e.cells e.strides e.crossings e.indices)

    go : (p q : Bool) → let a = cond p (answers 6 v i) (cond q (answers 7 v i) (answers 0 v i)) in Enough s a.vertices a.indices → room_answer s v i ≡ with_room a
    go true q e = done e
    go false true e = done e
    go false false e = done e

-- two lent rooms, each with a map as long as the grid
module _ (c : Call) (r s : Room) (whole : c.size ≤ r.map) (whole' : c.size ≤ s.map) where
  -- the conditions 1, 2, 3 and 5 do not look at the rooms
  pub told-enough : Enough s (answer c r).vertices (answer c r).indices → answer c s ≡ with_room (answer c r)
  unfolding answer
  told-enough =
      rw (le-ltb r.map c.size whole, le-ltb s.map c.size whole')
      (go (bad_dimensions c.grid.dims) (bad_box c.grid.dims c.box) (bad_length c.grid.dims c.size) (bad_distance c.grid c.box))
    where
      -- the answer by the four tests, where nothing is left but the room
      by : Bool → Bool → Bool → Bool → Room → Answer
      by a b d f t =
          cond a (answers 1 0 0)
          (cond b (answers 2 0 0) (cond d (answers 3 0 0) (cond f (answers 5 0 0) (room_answer t (vertex_count c) (index_count c)))))

      go : (a b d f : Bool) → Enough s (by a b d f r).vertices (by a b d f r).indices → by a b d f s ≡ with_room (by a b d f r)
      go true b d f e = refl
      go false true d f e = refl
      go false false true f e = refl
      go false false false true e = refl
      go false false false false e = room-told r s (vertex_count c) (index_count c) e

-- with room, what says V and I is 0
tells-done : (a : Answer) → Tells a.number → with_room a ≡ answers 0 a.vertices a.indices
tells-done a t =
    let n : cond (leb 6 a.number) 0 a.number ≡ 0 =
    ⊎_elim (λ (e : a.number ≡ 0). rw e refl) (⊎_elim (λ (e : a.number ≡ 6). rw e refl) (λ (e : a.number ≡ 7). rw e refl)) t in
    ap (λ (m : ℕ). answers m a.vertices a.indices) n

exact : (entries v i : ℕ) → Enough (exactly entries v i) v i
exact entries v i =
    record {
      positions = le_refl (3 * v);
      normals = le_refl (3 * v);
      cells = le_refl (3 * v);
      strides = le_refl v;
      crossings = le_refl v;
      indices = le_refl i;
    }

-- asked with nothing but a map as long as the grid: if V and I are said, then with exactly 3V, 3V, 3V, V, V and I numbers lent the answer is 0, and says them
-- again
pub exactly-told : (c : Call) → Tells (answer c (map_alone c.size)).number
    → (let a = answer c (map_alone c.size) in answer c (exactly c.size a.vertices a.indices) ≡ answers 0 a.vertices a.indices)
exactly-told c t =
    let a = answer c (map_alone c.size) in
    told-enough c (map_alone c.size) (exactly c.size a.vertices a.indices) (le_refl c.size) (le_refl c.size) (exact c.size a.vertices a.indices)
    ∙ tells-done a t

-- ---- of a question and a call that was made, of whatever width

-- the same question has one answer
pub same-said : (q q' : Question) → q.call ≡ q'.call → q.rooms ≡ q'.rooms → q.says ≡ q'.says
same-said q q' c r = q.answered ∙ (λ i. answer (c i) (r i)) ∙ sym q'.answered

module _ (q : Question) (u : Served) (same : q.call ≡ u.call) where
  -- the answer of the call, with V and I, on lists of the lengths that were asked about
  pub question-answered : q.rooms ≡ room u.before → q.says ≡ u.says
  question-answered rooms = q.answered ∙ (λ i. answer (same i) (rooms i)) ∙ sym u.answered

  -- whatever lengths were asked about, if the maps are as long as the grid: lists with room for the V and I that were told get the answer that was told, with
  -- 0 for 6 and 7
  pub question-then-lent : q.call.size ≤ q.rooms.map → u.call.size ≤ length u.before.map
      → Enough (room u.before) q.says.vertices q.says.indices → u.says ≡ with_room q.says
  question-then-lent map map' e =
      let s = room u.before in
      let e' = subst (λ (x : Answer). Enough s x.vertices x.indices) q.answered e in
      u.answered ∙ ap (λ (x : Call). answer x s) (sym same)
      ∙ told-enough q.call q.rooms s map (omega (arith, ap (λ (x : Call). x.size) same)) e' ∙ ap with_room (sym q.answered)

  -- so what says V and I is done
  pub question-then-done : q.call.size ≤ q.rooms.map → u.call.size ≤ length u.before.map
      → Enough (room u.before) q.says.vertices q.says.indices → Tells q.says.number
      → u.says ≡ answers 0 q.says.vertices q.says.indices
  question-then-done map map' e t = question-then-lent map map' e ∙ tells-done q.says t

-- ---- of calls for C over floats: the answer was asked for, and a mesh of the same box of the same grid

abbrev pub bed_question : AskCall → Question
bed_question a =
    record {
      call = asked (grid_asked a) (words_asked a);
      rooms = lengths_asked a;
      says = answer_asked a;
      answered = answer-by-place a;
    }

pub record SameAsked (a : AskCall) (u : BedRun) : Type 0 where
  pub grid : grid_asked a ≡ bed_grid u
  pub dims : words12.dims_asked (words_asked a) ≡ bed_dims u
  pub low : words12.low_asked (words_asked a) ≡ bed_low u
  pub high : words12.high_asked (words_asked a) ≡ bed_high u
  pub plane : words12.planes_asked (words_asked a) ≡ bed_plane u

module _ (a : AskCall) (u : BedRun) (same : SameAsked a u) where
  same-call : (bed_question a).call ≡ (bed_served u).call
  same-call = λ i. call_made (same.grid i) (same.dims i) (same.low i) (same.high i) (same.plane i)

  pub asked-is-answered : lengths_asked a ≡ room (bed_served u).before → answer_asked a ≡ (bed_served u).says
  asked-is-answered = question-answered (bed_question a) (bed_served u) same-call

  pub asked-then-lent : length (grid_asked a) ≤ (lengths_asked a).map → length (bed_grid u) ≤ length (bed_served u).before.map
      → Enough (room (bed_served u).before) (answer_asked a).vertices (answer_asked a).indices → (bed_served u).says ≡ with_room (answer_asked a)
  asked-then-lent = question-then-lent (bed_question a) (bed_served u) same-call

  pub asked-then-done : length (grid_asked a) ≤ (lengths_asked a).map → length (bed_grid u) ≤ length (bed_served u).before.map
      → Enough (room (bed_served u).before) (answer_asked a).vertices (answer_asked a).indices → Tells a.result
      → (bed_served u).says ≡ answers 0 (answer_asked a).vertices (answer_asked a).indices
  asked-then-done = question-then-done (bed_question a) (bed_served u) same-call
