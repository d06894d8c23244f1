-- Points in a row: a run of them is cut where one likes, and passing it does not ask what stood at its own places. And stores in a row, as a loop makes
-- them: a row of cells is classed by one store for each cell, and each stands at its cell's place. Assumes nothing.
use Prim.Native.Nat.{ℕ, zero, suc, ◌+◌, ◌-◌, ◌≤◌, ◌<◌}
use native.Mathlib.Omega.{arith}
use mathlib.Core.Bool.{Bool, ◌&&◌, cond}
use mathlib.Core.List.{List, [], ◌∷◌, ◌++◌, map, map-append}
use mathlib.Core.Path.{◌≡◌, refl, sym, ap, ap₂, subst, ◌∙◌}
use lib.Dec.{leb}
use lib.Ieee.{Float}
use lib.ListN.{length, set}
use lib.Seq.{sets, set-set, set_comm}
use Rattle.lists.specs.Lists.{one, up_to}
use Rattle.rules.specs.Grid.{GridPoint}
use Rattle.rules.specs.Cell.{negatives}
use Rattle.rules.specs.Vertices.{null_vertex}
use Rattle.lists.proofs.Lists.{All, all_map, map_same}
use Rattle.lists.proofs.Runs.{up_to-none, up_to-first, up_to-split, up_to-each}
use Rattle.grid.specs.declared.Block.{Block}
use Rattle.grid.specs.declared.corners.Side.{Side}
use Rattle.grid.specs.Block.{box_of}
use Rattle.grid.specs.Corners.{side_between, eight_of}
use Rattle.grid.specs.Layers.{in_layer}
use Rattle.grid.specs.Signs.{side_negatives, surface_at}
use Rattle.grid.proofs.Sides.{both-sides}
use Rattle.row_signs.specs.Signs.{row_length, row_start, row_points}
use Rattle.row_signs.specs.Codes.{Kept, four_codes, mixed_code}
use Rattle.row_signs.proofs.Stores.{stores-none, stores-grow}
use Rattle.row_signs.proofs.Keeping.{mixed-cell}
use Rattle.layer_vertices.specs.declared.Next.{Next}
use Rattle.layer_vertices.specs.Cells.{entered, passed, finds, class_of, classes, code_classes, onward, run_of}

-- ---- a run of points

abbrev at : GridPoint → ℕ → GridPoint
at c x = record { x = x; y = c.y; z = c.z }

pub run_none : (c : GridPoint) → run_of c 0 ≡ []
unfolding run_of
run_none c = ap (map (at c)) (up_to-none c.x (c.x + 0) (omega arith))

pub run-split : (c : GridPoint) (j m : ℕ) → run_of c (j + m) ≡ run_of c j ++ run_of (onward c j) m
unfolding run_of
run-split c j m =
    let far : c.x + (j + m) ≡ c.x + j + m = omega arith in
    ap (λ (e : ℕ). map (at c) (up_to c.x e)) far
    ∙ ap (map (at c)) (up_to-split c.x (c.x + j) (c.x + j + m) (omega arith) (omega arith))
    ∙ map-append (at c) (up_to c.x (c.x + j)) (up_to (c.x + j) (c.x + j + m))

pub run-rest : (c : GridPoint) (j n : ℕ) → j ≤ n → run_of c n ≡ run_of c j ++ run_of (onward c j) (n - j)
run-rest c j n h = let e : n ≡ j + (n - j) = omega arith in ap (run_of c) e ∙ run-split c j (n - j)

run-first : (c : GridPoint) (n : ℕ) → run_of c (suc n) ≡ c ∷ run_of (onward c 1) n
unfolding run_of
run-first c n =
    let next : suc c.x ≡ c.x + 1 = omega arith in
    let far : c.x + suc n ≡ c.x + 1 + n = omega arith in
    ap (map (at c)) (up_to-first c.x (c.x + suc n) (omega arith))
    ∙ ap (λ (x : ℕ). c ∷ map (at c) (up_to x (c.x + suc n))) next
    ∙ ap (λ (e : ℕ). c ∷ map (at c) (up_to (c.x + 1) e)) far

pub run-one : (c : GridPoint) → run_of c 1 ≡ c ∷ []
run-one c = run-first c 0 ∙ ap (λ (l : List GridPoint). c ∷ l) (run_none (onward c 1))

pub run-each : {P : GridPoint → Type 0} (c : GridPoint) (n : ℕ) → ((j : ℕ) → j < n → P (onward c j)) → All P (run_of c n)
unfolding run_of
run-each {P} c n h =
    all_map (at c)
    (up_to-each c.x (c.x + n)
    (λ x l k. let e : c.x + (x - c.x) ≡ x = omega arith in subst (λ (x' : ℕ). P (at c x')) e (h (x - c.x) (omega arith))))

-- ---- stores in a row

set_before : {A : Type 0} (l : List A) (i j : ℕ) (us : List A) (v : A) → i < j → set (sets l j us) i v ≡ sets (set l i v) j us
set_before l i j [] v h = refl
set_before l i j (u ∷ us) v h =
    set_before (set l j u) i (suc j) us v (omega arith) ∙ ap (λ (s : List _). sets s (suc j) us) (set_comm l j i u v (λ e. omega arith))

-- ---- a row, classed

pub classed-none : (lower upper : List Float) (at row : ℕ) (l : List ℕ) → l ≡ sets l at (classes lower upper at row 0)
classed-none lower upper at row l = stores-none (λ (j : ℕ). class_of (surface_at lower upper at row j)) l at

-- the j-th cell, by the negatives of its sides
pub classed-more : (lower upper : List Float) (at row j : ℕ) (first : List ℕ) {l : List ℕ} {low high e : ℕ} → l ≡ sets first at (classes lower upper at row j)
    → low ≡ side_negatives (side_between lower upper (at + j) row) → high ≡ side_negatives (side_between lower upper (at + j + 1) row)
    → e ≡ class_of (leb 1 (low + high) && leb (low + high) 7) → set l (at + j) e ≡ sets first at (classes lower upper at row (j + 1))
classed-more lower upper at row j first {l} {low} {high} {e} el elow ehigh ee =
    let side : ℕ → Side = λ (i : ℕ). side_between lower upper i row in
    let all : low + high ≡ negatives (eight_of (side (at + j)) (side (at + j + 1))) = omega (arith, both-sides (side (at + j)) (side (at + j + 1))) in
    ap₂ (λ (s : List ℕ) (v : ℕ). set s (at + j) v) el (ee ∙ ap (λ (n : ℕ). class_of (leb 1 n && leb n 7)) all)
    ∙ stores-grow (λ (i : ℕ). class_of (surface_at lower upper at row i)) first at j

-- the same by four codes
pub coded-more : (codes : List ℕ) (here there at j : ℕ) (first : List ℕ) {l : List ℕ} {e : ℕ} → l ≡ sets first at (code_classes codes here there j)
    → e ≡ class_of (mixed_code (four_codes codes here there j)) → set l (at + j) e ≡ sets first at (code_classes codes here there (j + 1))
coded-more codes here there at j first el ee =
    ap₂ (λ (s : List ℕ) (v : ℕ). set s (at + j) v) el ee ∙ stores-grow (λ (i : ℕ). class_of (mixed_code (four_codes codes here there i))) first at j

-- by the codes of two rows that are kept, as by the distances
pub classed-alike : {lower upper : List Float} {k : Block} {y here there : ℕ} {codes : List ℕ} → row_points k ≤ 1024 → Kept lower upper k y here codes
    → Kept lower upper k (y + 1) there codes
    → code_classes codes here there (row_length (box_of k)) ≡ classes lower upper (row_start k y) k.dims.x (row_length (box_of k))
classed-alike {k = k} short near far =
    map_same (up_to-each 0 (row_length (box_of k)) (λ j low high. ap class_of (mixed-cell short near far j high)))

-- ---- a row's own places

entered-over : (d : GridPoint) (has : GridPoint → Bool) (n m i : ℕ) (c : GridPoint) (l vs : List ℕ) → length vs ≤ n → i ≡ in_layer d c
    → entered d has m (run_of c n) (sets l i vs) ≡ entered d has m (run_of c n) l
unfolding entered
entered-over d has n m i c l [] h e = refl
entered-over d has zero m i c l (v ∷ vs) h e = absurd (omega arith)
entered-over d has (suc n) m i c l (v ∷ vs) h e =
    let own : ℕ = cond (has c) m null_vertex in
    let on : List ℕ → List ℕ = entered d has (m + one (has c)) (run_of (onward c 1) n) in
    ap (λ (ps : List GridPoint). entered d has m ps (sets (set l i v) (suc i) vs)) (run-first c n)
    ∙ ap (λ (k : ℕ). on (set (sets (set l i v) (suc i) vs) k own)) (sym e)
    ∙ ap on (set_before (set l i v) i (suc i) vs own (omega arith) ∙ ap (λ (s : List ℕ). sets s (suc i) vs) (set-set l i v own))
    ∙ entered-over d has n (m + one (has c)) (suc i) (onward c 1) (set l i own) vs (omega arith) (omega arith)
    ∙ ap (λ (k : ℕ). on (set l k own)) e
    ∙ sym (ap (λ (ps : List GridPoint). entered d has m ps l) (run-first c n))

pub passed_over : (d : GridPoint) (has : GridPoint → Bool) (next : Next) (c : GridPoint) (n i : ℕ) (cs st l vs : List ℕ) → length vs ≤ n → i ≡ in_layer d c
    → passed d has next (run_of c n) (finds cs st (sets l i vs)) ≡ passed d has next (run_of c n) (finds cs st l)
unfolding passed
passed_over d has next c n i cs st l vs h e = rw (entered-over d has n next.number i c l vs h e)
