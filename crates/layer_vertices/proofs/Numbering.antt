-- The marked cells of a row, numbered: by the entries that stood in the map where it began, which the cells before one's own do not touch. A cell, some
-- cells one by one and a row by eights go the same way, since each is a run of points. Assumes nothing.
use Prim.Native.Nat.{ℕ, zero, suc, ◌+◌, ◌-◌, ◌*◌, ◌≤◌, ◌<◌}
use native.Mathlib.Numerals.{add-one}
use native.Mathlib.Omega.{arith}
use mathlib.Core.Bool.{Bool, true, false, not, ◌&&◌, ◌||◌, cond}
use mathlib.Core.List.{List, [], ◌∷◌, ◌++◌, map, map-append}
use mathlib.Core.Logic.{inl, inr}
use mathlib.Core.Path.{◌≡◌, refl, sym, ap, ap₂, ◌∙◌}
use borrow.Author.Tests.{eq-eqb, ne_eqb, eqb-true, not-true, not-false}
use lib.Dec.{leb, eqb}
use lib.Ieee.Bits.{is_true}
use lib.Ieee.Fits.{and_r}
use lib.ListN.{length, get_or, set, take, drop}
use lib.Seq.{sets}
use Rattle.std.specs.List.{fold}
use Rattle.std.proofs.lemmas.List.{take_more, get_or-drop, length-drop}
use Rattle.lists.specs.Lists.{run, keep, some, joined}
use Rattle.rules.specs.Grid.{GridPoint, index}
use Rattle.rules.specs.Vertices.{null_vertex}
use Rattle.lists.proofs.Either.{or_left, or_right}
use Rattle.lists.proofs.Lists.{All, none, more, all_then, all_both, keep-none}
use Rattle.lists.proofs.Some.{some-append, some-map}
use Rattle.lists.proofs.Tests.{less-or-not, is-test}
use Rattle.grid.specs.Inside.{PointInside}
use Rattle.grid.specs.Layers.{in_layer}
use Rattle.layer_vertices.specs.declared.Next.{Next}
use Rattle.layer_vertices.specs.Cells.{
  Finds,
  finds,
  advanced,
  RoomToFind,
  entered,
  written,
  passed,
  found,
  Passes,
  is_mark,
  marked_in,
  none_marked,
  onward,
  run_of,
  Numbering,
  Numbered,
}
use Rattle.layer_vertices.proofs.Entries.{entered-apart, entered-bare}
use Rattle.layer_vertices.proofs.Rows.{run_none, run-split, run-rest, run-one, run-each}
use Rattle.layer_vertices.proofs.Passing.{passes-still, passes_none, passes-more, passes-as, passes-by, passes-lengths, passes-room, found_none, found-same, found_part}

-- an entry that is no mark is that of no vertex
bare : (e : ℕ) → is_mark e ≡ false → e ≡ null_vertex
bare e h = eqb-true e null_vertex (not-false (eqb e null_vertex) h)

-- points none of which is marked
pub passes-bare : (d : GridPoint) (next : Next) (s : Finds) {ps : List GridPoint} → All (λ p. marked_in d s.map p ≡ false) ps
    → Passes d (marked_in d s.map) next s ps next s
unfolding passed joined
passes-bare d next s {ps} h =
    let there : All (λ p. (marked_in d s.map p ≡ false) × (get_or s.map (in_layer d p) 0 ≡ null_vertex)) ps =
    all_then (λ p e. (e, bare (get_or s.map (in_layer d p) 0) e)) h in
    passes-still next
    (sym
    (ap₂ (λ (vs : List GridPoint) (l : List ℕ). written d next.place vs l s) (keep-none h) (entered-bare d (marked_in d s.map) next.number s.map there)))
    (found_none d (marked_in d s.map) h)

-- ---- after the first j points of a row

pub numbered-none : {d : GridPoint} (c : GridPoint) {next : Next} {s : Finds} → Numbered d c 0 next s next s
numbered-none c = passes_none (run_none c)

module _ {d : GridPoint} {next : Next} {s : Finds} (c : GridPoint) (j : ℕ) {here : Next} {s' : Finds} (p : Numbered d c j next s here s') where
  -- the later ones have the entries that they had
  kept : (m : ℕ) → All (λ q. marked_in d s'.map q ≡ marked_in d s.map q) (run_of (onward c j) m)
  unfolding passed
  kept m = run-each (onward c j) m later
    where
      later : (i : ℕ) → i < m → marked_in d s'.map (onward (onward c j) i) ≡ marked_in d s.map (onward (onward c j) i)
      later i h =
          let q : GridPoint = onward (onward c j) i in
          let apart = run-each {P = λ (o : GridPoint). in_layer d q ≡ in_layer d o → ⊥} c j (λ k l e. omega arith) in
          ap is_mark
          (ap (λ (t : Finds). get_or t.map (in_layer d q) 0) p.same
          ∙ entered-apart d (marked_in d s.map) next.number s.map (in_layer d q) apart)

  -- some more, by the entries that stand there now
  pub numbered_more : (m : ℕ) {there : Next} {s'' : Finds} → Numbered d (onward c j) m here s' there s'' → Numbered d c (j + m) next s there s''
  numbered_more m q = passes-more p (run_of (onward c j) m) (passes-by q (kept m)) (run-split c j m)

  -- some more that were not marked, and are not visited
  pub numbered-past : (m : ℕ) → All (λ q. marked_in d s.map q ≡ false) (run_of (onward c j) m) → Numbered d c (j + m) next s here s'
  numbered-past m h = numbered_more m (passes-bare d here s' (all_both (λ q e f. e ∙ f) (kept m) h))

  pub numbered-asks : {at n : ℕ} (m : ℕ) → Numbering d c at n next s → j + m ≤ n → Numbering d (onward c j) (at + j) m here s'
  numbered-asks {at} {n} m a h =
      let part : List GridPoint = run_of c j ++ run_of (onward c j) m in
      let whole : run_of c n ≡ part ++ run_of (onward c (j + m)) (n - (j + m)) =
      run-rest c (j + m) n h ∙ ap (λ (l : List GridPoint). l ++ run_of (onward c (j + m)) (n - (j + m))) (run-split c j m) in
      let within = found_part d (marked_in d s.map) (run_of c n) part (run_of (onward c (j + m)) (n - (j + m))) whole in
      record {
        x = omega (arith, a.x);
        y = a.y;
        z = a.z;
        few = a.few;
        place = omega (arith, a.place);
        holds = omega (arith, a.holds, (passes-lengths p).map);
        room = rw (found-same (kept m)) (passes-room p (run_of (onward c j) m) a.room within);
      }

-- ---- a cell

module _ {d c : GridPoint} {at : ℕ} {next : Next} {s : Finds} (a : Numbering d c at 1 next s) where
  mark_of : (t : Bool) → is_mark (get_or s.map at 0) ≡ t → marked_in d s.map c ≡ t
  mark_of t e = ap (λ (i : ℕ). is_mark (get_or s.map i 0)) (sym a.place) ∙ e

  pub cell-inside : PointInside d c
  cell-inside = record { x = omega (arith, a.x); y = a.y; z = a.z; few = a.few }

  pub cell-left : get_or s.map at 0 ≡ null_vertex → Numbered d c 1 next s next s
  cell-left e =
      let unmarked : All (λ p. marked_in d s.map p ≡ false) (run_of c 1) =
      rw (run-one c) (more (mark_of false (ap not (eq-eqb (get_or s.map at 0) null_vertex e))) none) in
      passes-bare d next s unmarked

  module _ (e : get_or s.map at 0 ≡ null_vertex → ⊥) where
    marked : marked_in d s.map c ≡ true
    marked = mark_of true (ap not (ne_eqb (get_or s.map at 0) null_vertex e))

    found-marked : found (marked_in d s.map) (run_of c 1) ≡ 1
    unfolding keep
    found-marked = ap (found (marked_in d s.map)) (run-one c) ∙ ap (λ (t : Bool). length (cond t (c ∷ []) [])) marked

    pub cell_room : RoomToFind next 1 s
    cell_room = rw found-marked at a.room

    pub cell-numbered : {cs st : List ℕ} → cs ≡ sets s.cells (3 * next.place) (c.x ∷ c.y ∷ c.z ∷ []) → st ≡ set s.strides next.place (index d c)
        → Numbered d c 1 next s (record { place = next.place + 1; number = next.number + 1 }) (finds cs st (set s.map at next.number))
    unfolding passed keep joined entered
    cell-numbered {cs} {st} ec es =
        let one_more : Next = record { place = next.place + 1; number = next.number + 1 } in
        let kept : Bool → Finds = λ t. written d next.place (cond t (c ∷ []) []) (set s.map (in_layer d c) (cond t next.number null_vertex)) s in
        let p : Passes d (marked_in d s.map) next s (c ∷ []) one_more (finds cs st (set s.map at next.number)) =
        record {
          same = (λ i. finds (ec i) (es i) (set s.map (a.place i) next.number)) ∙ ap kept (sym marked);
          on = ap (λ (t : Bool). advanced next (length (cond t (c ∷ []) []))) (sym marked);
        } in
        passes-as p (sym (run-one c))

-- ---- eight at once

-- where no number of a run passes, each one fails
none_in : (f : ℕ → Bool) (n : ℕ) → some f (run n) ≡ false → (j : ℕ) → j < n → f j ≡ false
unfolding run some
none_in f zero e j h = absurd (omega arith)
none_in f (suc n) e j h =
    elim (less-or-not j n) [ inl m ↦ none_in f n (or_left (some f (run n)) (f n || false) both) j m | inr m ↦ last (omega arith) ]
  where
    both : (some f (run n) || (f n || false)) ≡ false
    both = sym (some-append f (run n) (n ∷ [])) ∙ e

    last : j ≡ n → f j ≡ false
    last k = ap f k ∙ or_left (f n) false (or_right (some f (run n)) (f n || false) both)

pub eight-left : {d c : GridPoint} {at n : ℕ} {next : Next} {s : Finds} → Numbering d c at n next s → (leb 8 n && none_marked s.map at n) ≡ true
    → Numbered d c n next s next s
eight-left {d} {c} {at} {n} {next} {s} a e =
    let none-there : Bool = none_marked s.map at n in
    let left : none-there ≡ true = is_true none-there (and_r (leb 8 n) none-there (is-test (leb 8 n && none-there) e)) in
    let mark : ℕ → Bool = λ (i : ℕ). is_mark (get_or s.map (at + i) 0) in
    passes-bare d next s
    (run-each c n
    (λ j h.
    let there : c.x + j + d.x * c.y ≡ at + j = omega (arith, a.place) in
    ap (λ (i : ℕ). is_mark (get_or s.map i 0)) there ∙ none_in mark n (not-true (some mark (run n)) left) j h))

-- a fold to the end of the entries says what the search says
still : (b t s : Bool) → ((b && t) && not s) ≡ (b && not (not t || s))
still false t s = refl
still true false s = refl
still true true s = refl

as-told : (b : Bool) → b ≡ (b && true)
as-told false = refl
as-told true = refl

none_by_fold : (b : Bool) (l : List ℕ) → fold (λ t e. t && eqb e null_vertex) b l ≡ (b && not (some is_mark l))
unfolding some
none_by_fold b [] = as-told b
none_by_fold b (e ∷ l) = none_by_fold (b && eqb e null_vertex) l ∙ still b (eqb e null_vertex) (some is_mark l)

-- the entries of a part of the map, one by one
part-entries : (l : List ℕ) (at n : ℕ) → at + n ≤ length l → take n (drop at l) ≡ map (λ (j : ℕ). get_or l (at + j) 0) (run n)
unfolding run
part-entries l at zero h = refl
part-entries l at (suc n) h =
    let entry : ℕ → ℕ = λ (j : ℕ). get_or l (at + j) 0 in
    ap (λ (m : ℕ). take m (drop at l)) (sym (add-one n))
    ∙ take_more (drop at l) n 0 (omega (arith, length-drop at l))
    ∙ ap₂ (λ (xs : List ℕ) (x : ℕ). xs ++ (x ∷ [])) (part-entries l at n (omega arith)) (get_or-drop at l n 0)
    ∙ sym (map-append entry (run n) (n ∷ []))

pub none-of-part : (l : List ℕ) (at n : ℕ) → at + n ≤ length l → fold (λ t e. t && eqb e null_vertex) true (take n (drop at l)) ≡ none_marked l at n
none-of-part l at n h =
    none_by_fold true (take n (drop at l))
    ∙ ap (λ (xs : List ℕ). not (some is_mark xs)) (part-entries l at n h)
    ∙ ap not (some-map is_mark (λ (j : ℕ). get_or l (at + j) 0) (run n))
