-- "The mesher then reads that grid": what the conditions 1 to 5 of document 01 let pass before the cut they let pass after it, whatever the cut answers.
-- Assumes nothing.
use Prim.Native.Nat.{ℕ, ◌<◌}
use mathlib.Core.Bool.{not}
use mathlib.Core.List.{List}
use mathlib.Core.Path.{sym, subst}
use mathlib.Core.Logic.{⊎_elim}
use lib.Dec.{T}
use lib.ListN.{length, get_or}
use lib.Ieee.{Float, nan}
use Rattle.rules.specs.Grid.{GridPoint, Box, Field, index}
use Rattle.rules.specs.Call.{bad_box, bad_length, bad_map, bad_distance}
use Rattle.rules.proofs.Indexes.{box-within, volume, right-length}
use Rattle.rules.proofs.Accepted.{Accepted, distances-ok, ok-distances}
use Rattle.fixtures.specs.Cut.{cut_answer, cut_grid}
use Rattle.fixtures.proofs.Heads.{is-not}
use Rattle.fixtures.proofs.Answers.{done-fit}
use Rattle.fixtures.proofs.Again.{zero_or_not, refused-keeps, cut-length}
use Rattle.fixture_mesh.proofs.Bounds.{cut-capped}

-- a grid of these numbers
abbrev pub field : GridPoint → List Float → Field
field d grid = record { dims = d; dist = λ i. get_or grid i nan }

-- condition 5
pub cut-distances : (f : List ℕ) (d : GridPoint) (grid : List Float) (b : Box) → T (not (bad_box d b)) → T (not (bad_distance (field d grid) b))
    → T (not (bad_distance (field d (cut_grid f d grid)) b))
cut-distances f d grid b ok h =
    ⊎_elim
    (λ e.
    let size = right-length d (length grid) (is-not (done-fit f d grid e)) in
    ok-distances (field d (cut_grid f d grid)) b λ p t.
    let w = box-within d b p ok t in
    let l : index d p < length grid = subst (λ (n : ℕ). index d p < n) (sym size) (volume d p w.0 w.1 w.2) in
    cut-capped f d grid (index d p) l (distances-ok (field d grid) b h p t))
    (λ n. subst (λ (l : List Float). T (not (bad_distance (field d l) b))) (sym (refused-keeps f d grid n)) h)
    (zero_or_not (cut_answer f d (length grid)))

-- conditions 1 to 5, for any length of the map
pub cut-accepted : (f : List ℕ) (d : GridPoint) (grid : List Float) (entries : ℕ) (b : Box) → Accepted (field d grid) (length grid) entries b
    → Accepted (field d (cut_grid f d grid)) (length (cut_grid f d grid)) entries b
cut-accepted f d grid entries b a =
    let same = sym (cut-length f d grid) in
    record {
      dims = a.dims;
      box = a.box;
      length = subst (λ (n : ℕ). T (not (bad_length d n))) same a.length;
      map = subst (λ (n : ℕ). T (not (bad_map n entries))) same a.map;
      distance = cut-distances f d grid b a.box a.distance;
    }
