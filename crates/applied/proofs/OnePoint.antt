-- One point of a grid of dimensions 4, 4, 4 inside, (1,1,1) with -1.0, and calls on it with what came of each: on the whole box, on the two pieces of a cut at
-- x = 1, on the lower piece of a grid that differs outside it, with other numbers in the lists before, and on a flat box. The numbers written are what the published Rust makes of
-- the same calls, as oracle/oracle/examples/table_vectors.rs prints them; that each outcome fits the contract is computed from the definitions. Assumes nothing.
use Prim.Native.Nat.{ℕ, ◌+◌, ◌*◌}
use mathlib.Core.Bool.{Bool, false, true, ◌&&◌}
use mathlib.Core.List.{List, [], ◌∷◌, ◌++◌, map}
use mathlib.Core.Path.{◌≡◌, refl}
use lib.Dec.{T}
use lib.IntN.{pos}
use lib.ListN.{length, drop, replicate}
use lib.Ieee.{Float, nan, fin, binary32, fits, of_bits}
use lib.Ieee.Fits.{and_l, and_r}
use Rattle.std.specs.Prelude.{Result, Ok}
use Rattle.lists.specs.Lists.{run, joined}
use Rattle.rules.specs.Cell.{one32}
use Rattle.rules.specs.Call.{Buffers, room, answer, afterwards}
use Rattle.rules.specs.Cutting.{faces_seen}
use Rattle.rules.proofs.Cases as rules
use Rattle.lists.proofs.Lists.{All, all-at}
use Rattle.lists.proofs.Lists as lists
use Rattle.grid.specs.declared.Extent.{Extent}
use Rattle.grid.specs.declared.EachAxis.{EachAxis}
use Rattle.grid.proofs.Instances.{float-type}
use Rattle.judge.specs.declared.Tally.{Tally}
use Rattle.judge.specs.declared.Refusal.{Refusal}
use Rattle.judge.specs.AsRules.{answer_of}
use Rattle.whole_box.proofs.Steps.{with-map}
use Rattle.lists.specs.Floats.{Binary32}
use Rattle.surface_nets.specs.AsRules.{call_made}
use Rattle.promises.proofs.Runs.{Run, BedRun}
use Rattle.skin.specs.Links.{links}
use Rattle.skin.specs.Enclosed.{inner, enclosed}
use Rattle.skin.specs.Scan.{judged, examined}
use Rattle.skin.specs.Scan as scan
use Rattle.closed_mesh.proofs.Outcome.{Mesh, Test}
use Rattle.applied.proofs.Made.{run_on, bed_run_of, mesh_on, test_of}

-- ---- what goes in

-- all 1.0 but -1.0 at index 21, and the last one apart
abbrev pub front : List Float
front = replicate 21 one32 ++ (fin true 1 (pos 0) ∷ replicate 41 one32)

abbrev pub grid : List Float
grid = front ++ (one32 ∷ [])

-- the same, but that (3,3,3) is no number
abbrev pub spoiled : List Float
spoiled = front ++ (nan ∷ [])

abbrev extent : ℕ → ℕ → ℕ → Extent
extent x y z = record { x = x; y = y; z = z }

abbrev pub dims : Extent
dims = extent 4 4 4

-- no max plane
abbrev pub no_plane : EachAxis
no_plane = record { x = false; y = false; z = false }

-- the corners: of the whole, and of the pieces of the cut
abbrev pub lowest : Extent
lowest = extent 0 0 0

abbrev pub highest : Extent
highest = extent 3 3 3

abbrev pub lower_high : Extent
lower_high = extent 2 3 3

abbrev pub upper_low : Extent
upper_low = extent 1 0 0

abbrev flat_high : Extent
flat_high = extent 0 3 3

-- ---- the lists

-- floats are given by their bits
abbrev pub floats : List ℕ → List Float
floats = map (of_bits binary32)

-- seven lists for v vertices, i indices and the grid, with one number more each but the map: each number of the lists is w, or -5.0
abbrev pub lent : ℕ → ℕ → ℕ → Buffers
lent v i w =
    record {
      positions = replicate (3 * v + 1) (fin true 5 (pos 0));
      normals = replicate (3 * v + 1) (fin true 5 (pos 0));
      cells = replicate (3 * v + 1) w;
      strides = replicate (v + 1) w;
      crossings = replicate (v + 1) w;
      map = replicate 64 w;
      indices = replicate (i + 1) w;
    }

-- those numbers written, and the last of each list kept; each vertex's cell has one negative corner, and so three crossings
abbrev left : ℕ → List ℕ → List ℕ → List ℕ → List ℕ → List ℕ → List ℕ → Buffers
left w positions normals cells strides map' indices' =
    record {
      positions = floats positions ++ (fin true 5 (pos 0) ∷ []);
      normals = floats normals ++ (fin true 5 (pos 0) ∷ []);
      cells = cells ++ (w ∷ []);
      strides = strides ++ (w ∷ []);
      crossings = replicate (length strides) 3 ++ (w ∷ []);
      map = map';
      indices = indices' ++ (w ∷ []);
    }

-- a cell with no vertex, and a point of the box that is no cell
abbrev none : ℕ
none = 4294967295

abbrev whole_positions : List ℕ
whole_positions =
    0x3F555555 ∷ 0x3F555555 ∷ 0x3F555555 ∷ 0x3F955555 ∷ 0x3F555555 ∷ 0x3F555555
    ∷ 0x3F555555 ∷ 0x3F955555 ∷ 0x3F555555 ∷ 0x3F955555 ∷ 0x3F955555 ∷ 0x3F555555
    ∷ 0x3F555555 ∷ 0x3F555555 ∷ 0x3F955555 ∷ 0x3F955555 ∷ 0x3F555555 ∷ 0x3F955555
    ∷ 0x3F555555 ∷ 0x3F955555 ∷ 0x3F955555 ∷ 0x3F955555 ∷ 0x3F955555 ∷ 0x3F955555 ∷ []

abbrev whole_normals : List ℕ
whole_normals =
    0xBFB1C71C ∷ 0xBFB1C71C ∷ 0xBFB1C71C ∷ 0x3FB1C71C ∷ 0xBFB1C71C ∷ 0xBFB1C71C
    ∷ 0xBFB1C71C ∷ 0x3FB1C71C ∷ 0xBFB1C71C ∷ 0x3FB1C71C ∷ 0x3FB1C71C ∷ 0xBFB1C71C
    ∷ 0xBFB1C71C ∷ 0xBFB1C71C ∷ 0x3FB1C71C ∷ 0x3FB1C71C ∷ 0xBFB1C71C ∷ 0x3FB1C71C
    ∷ 0xBFB1C71C ∷ 0x3FB1C71C ∷ 0x3FB1C71C ∷ 0x3FB1C71C ∷ 0x3FB1C71C ∷ 0x3FB1C71C ∷ []

abbrev whole_cells : List ℕ
whole_cells =
    0 ∷ 0 ∷ 0 ∷ 1 ∷ 0 ∷ 0 ∷ 0 ∷ 1 ∷ 0 ∷ 1 ∷ 1 ∷ 0 ∷ 0 ∷ 0 ∷ 1 ∷ 1 ∷ 0 ∷ 1 ∷ 0 ∷ 1 ∷ 1 ∷ 1 ∷ 1 ∷ 1 ∷ []

abbrev whole_strides : List ℕ
whole_strides = 0 ∷ 1 ∷ 4 ∷ 5 ∷ 16 ∷ 17 ∷ 20 ∷ 21 ∷ []

abbrev whole_map : List ℕ
whole_map =
    0 ∷ 1 ∷ none ∷ none ∷ 2 ∷ 3 ∷ none ∷ none ∷ none ∷ none ∷ none ∷ none ∷ none ∷ none ∷ none ∷ none
    ∷ 4 ∷ 5 ∷ none ∷ none ∷ 6 ∷ 7 ∷ none ∷ none ∷ none ∷ none ∷ none ∷ none ∷ none ∷ none ∷ none ∷ none
    ∷ none ∷ none ∷ none ∷ none ∷ none ∷ none ∷ none ∷ none ∷ none ∷ none ∷ none ∷ none ∷ none ∷ none ∷ none ∷ none
    ∷ none ∷ none ∷ none ∷ none ∷ none ∷ none ∷ none ∷ none ∷ none ∷ none ∷ none ∷ none ∷ none ∷ none ∷ none ∷ none ∷ []

abbrev pub whole_indices : List ℕ
whole_indices =
    2 ∷ 1 ∷ 0 ∷ 2 ∷ 3 ∷ 1 ∷ 1 ∷ 4 ∷ 0 ∷ 1 ∷ 5 ∷ 4 ∷ 4 ∷ 2 ∷ 0 ∷ 4 ∷ 6 ∷ 2
    ∷ 5 ∷ 1 ∷ 3 ∷ 5 ∷ 3 ∷ 7 ∷ 3 ∷ 2 ∷ 6 ∷ 3 ∷ 6 ∷ 7 ∷ 6 ∷ 4 ∷ 5 ∷ 6 ∷ 5 ∷ 7 ∷ []

-- the lower piece has the same vertices
abbrev lower_map : ℕ → List ℕ
lower_map w =
    0 ∷ 1 ∷ none ∷ w ∷ 2 ∷ 3 ∷ none ∷ w ∷ none ∷ none ∷ none ∷ w ∷ none ∷ none ∷ none ∷ w
    ∷ 4 ∷ 5 ∷ none ∷ w ∷ 6 ∷ 7 ∷ none ∷ w ∷ none ∷ none ∷ none ∷ w ∷ none ∷ none ∷ none ∷ w
    ∷ none ∷ none ∷ none ∷ w ∷ none ∷ none ∷ none ∷ w ∷ none ∷ none ∷ none ∷ w ∷ none ∷ none ∷ none ∷ w
    ∷ none ∷ none ∷ none ∷ w ∷ none ∷ none ∷ none ∷ w ∷ none ∷ none ∷ none ∷ w ∷ none ∷ none ∷ none ∷ w ∷ []

abbrev pub lower_indices : List ℕ
lower_indices =
    2 ∷ 1 ∷ 0 ∷ 2 ∷ 3 ∷ 1 ∷ 1 ∷ 4 ∷ 0 ∷ 1 ∷ 5 ∷ 4 ∷ 4 ∷ 2 ∷ 0 ∷ 4 ∷ 6 ∷ 2
    ∷ 3 ∷ 2 ∷ 6 ∷ 3 ∷ 6 ∷ 7 ∷ 6 ∷ 4 ∷ 5 ∷ 6 ∷ 5 ∷ 7 ∷ []

abbrev upper_positions : List ℕ
upper_positions =
    0x3F955555 ∷ 0x3F555555 ∷ 0x3F555555 ∷ 0x3F955555 ∷ 0x3F955555 ∷ 0x3F555555
    ∷ 0x3F955555 ∷ 0x3F555555 ∷ 0x3F955555 ∷ 0x3F955555 ∷ 0x3F955555 ∷ 0x3F955555 ∷ []

abbrev upper_normals : List ℕ
upper_normals =
    0x3FB1C71C ∷ 0xBFB1C71C ∷ 0xBFB1C71C ∷ 0x3FB1C71C ∷ 0x3FB1C71C ∷ 0xBFB1C71C
    ∷ 0x3FB1C71C ∷ 0xBFB1C71C ∷ 0x3FB1C71C ∷ 0x3FB1C71C ∷ 0x3FB1C71C ∷ 0x3FB1C71C ∷ []

abbrev upper_cells : List ℕ
upper_cells =
    1 ∷ 0 ∷ 0 ∷ 1 ∷ 1 ∷ 0 ∷ 1 ∷ 0 ∷ 1 ∷ 1 ∷ 1 ∷ 1 ∷ []

abbrev upper_strides : List ℕ
upper_strides = 1 ∷ 5 ∷ 17 ∷ 21 ∷ []

abbrev upper_map : List ℕ
upper_map =
    77 ∷ 0 ∷ none ∷ none ∷ 77 ∷ 1 ∷ none ∷ none ∷ 77 ∷ none ∷ none ∷ none ∷ 77 ∷ none ∷ none ∷ none
    ∷ 77 ∷ 2 ∷ none ∷ none ∷ 77 ∷ 3 ∷ none ∷ none ∷ 77 ∷ none ∷ none ∷ none ∷ 77 ∷ none ∷ none ∷ none
    ∷ 77 ∷ none ∷ none ∷ none ∷ 77 ∷ none ∷ none ∷ none ∷ 77 ∷ none ∷ none ∷ none ∷ 77 ∷ none ∷ none ∷ none
    ∷ 77 ∷ none ∷ none ∷ none ∷ 77 ∷ none ∷ none ∷ none ∷ 77 ∷ none ∷ none ∷ none ∷ 77 ∷ none ∷ none ∷ none ∷ []

abbrev pub upper_indices : List ℕ
upper_indices =
    2 ∷ 0 ∷ 1 ∷ 2 ∷ 1 ∷ 3 ∷ []

-- ---- the calls, and that what came of each fits the contract

-- what a computed fact opens: the definitions of document 01 down to the arithmetic, floats from bits, the cut, and the sides and the test of request 8
unfoldable pub opened : Unit {0}
unfolding rules.opened of_bits faces_seen links inner enclosed judged
opened = tt

abbrev pub counts : ℕ → ℕ → Result Tally Refusal
counts v i = Ok (record { vertices = v; indices = i })

-- every number of the two grids is a value of binary32: not-a-number is one
fitting : List Float → Bool
fitting [] = true
fitting (x ∷ xs) = fits binary32 x && fitting xs

all_fit : (l : List Float) → T (fitting l) → All (λ (x : Float). T (fits binary32 x)) l
unfolding fitting
all_fit [] h = lists.none
all_fit (x ∷ xs) h = lists.more (and_l (fits binary32 x) (fitting xs) h) (all_fit xs (and_r (fits binary32 x) (fitting xs) h))

pub grid-fits : Binary32 grid
unfolding fitting fits opened
grid-fits i h = all-at (all_fit grid tt) i h nan

pub spoiled-fits : Binary32 spoiled
unfolding fitting fits opened
spoiled-fits i h = all-at (all_fit spoiled tt) i h nan

-- the whole: V 8, I 36
abbrev pub whole_left : Buffers
whole_left = left 77 whole_positions whole_normals whole_cells whole_strides whole_map whole_indices

pub whole-answered : answer_of (counts 8 36) ≡ answer (call_made grid dims lowest highest no_plane) (room (lent 8 36 77))
unfolding opened
whole-answered = refl

pub whole-left : whole_left ≡ afterwards (call_made grid dims lowest highest no_plane) (lent 8 36 77)
unfolding opened
whole-left = refl

abbrev pub whole : Run
whole = run_on float-type grid dims lowest highest no_plane (counts 8 36) (lent 8 36 77) whole_left whole-answered whole-left grid-fits

-- the same call of the function for C
abbrev pub bed_whole : BedRun
bed_whole = bed_run_of grid (4 ∷ 4 ∷ 4 ∷ 0 ∷ 0 ∷ 0 ∷ 3 ∷ 3 ∷ 3 ∷ 0 ∷ 0 ∷ 0 ∷ []) 0 8 36 (lent 8 36 77) whole_left whole-answered whole-left grid-fits

abbrev pub whole_mesh : Mesh
whole_mesh = mesh_on float-type grid dims lowest highest no_plane (counts 8 36) (lent 8 36 77) whole_left whole-answered whole-left grid-fits

-- the lower piece: V 8, I 30
abbrev lower_left : ℕ → Buffers
lower_left w = left w whole_positions whole_normals whole_cells whole_strides (lower_map w) lower_indices

pub lower-answered : answer_of (counts 8 30) ≡ answer (call_made grid dims lowest lower_high no_plane) (room (lent 8 30 77))
unfolding opened
lower-answered = refl

pub lower-left : lower_left 77 ≡ afterwards (call_made grid dims lowest lower_high no_plane) (lent 8 30 77)
unfolding opened
lower-left = refl

abbrev pub lower : Run
lower = run_on float-type grid dims lowest lower_high no_plane (counts 8 30) (lent 8 30 77) (lower_left 77) lower-answered lower-left grid-fits

-- the upper piece: V 4, I 6
abbrev upper_left : Buffers
upper_left = left 77 upper_positions upper_normals upper_cells upper_strides upper_map upper_indices

pub upper-answered : answer_of (counts 4 6) ≡ answer (call_made grid dims upper_low highest no_plane) (room (lent 4 6 77))
unfolding opened
upper-answered = refl

pub upper-left : upper_left ≡ afterwards (call_made grid dims upper_low highest no_plane) (lent 4 6 77)
unfolding opened
upper-left = refl

abbrev pub upper : Run
upper = run_on float-type grid dims upper_low highest no_plane (counts 4 6) (lent 4 6 77) upper_left upper-answered upper-left grid-fits

-- the lower piece of the spoiled grid, with 88 where 77 was
pub elsewhere-answered : answer_of (counts 8 30) ≡ answer (call_made spoiled dims lowest lower_high no_plane) (room (lent 8 30 88))
unfolding opened
elsewhere-answered = refl

pub elsewhere-left : lower_left 88 ≡ afterwards (call_made spoiled dims lowest lower_high no_plane) (lent 8 30 88)
unfolding opened
elsewhere-left = refl

abbrev pub elsewhere : Run
elsewhere = run_on float-type spoiled dims lowest lower_high no_plane (counts 8 30) (lent 8 30 88) (lower_left 88) elsewhere-answered elsewhere-left spoiled-fits

-- a flat box, x from 0 to 0: V 0, I 0, and the lists as they were but the map, where its 16 points have no vertex
abbrev flat_left : Buffers
flat_left = with-map (lent 8 36 77) (joined (λ (n : ℕ). none ∷ 77 ∷ 77 ∷ 77 ∷ []) (run 16))

pub flat-answered : answer_of (counts 0 0) ≡ answer (call_made grid dims lowest flat_high no_plane) (room (lent 8 36 77))
unfolding opened
flat-answered = refl

pub flat-left : flat_left ≡ afterwards (call_made grid dims lowest flat_high no_plane) (lent 8 36 77)
unfolding opened
flat-left = refl

abbrev pub flat : Run
flat = run_on float-type grid dims lowest flat_high no_plane (counts 0 0) (lent 8 36 77) flat_left flat-answered flat-left grid-fits

-- the upper piece once more, in the lists that the whole left: with x 0 the map shows the whole's vertices, and else its own
abbrev again_map : List ℕ
again_map =
    0 ∷ 0 ∷ none ∷ none ∷ 2 ∷ 1 ∷ none ∷ none ∷ none ∷ none ∷ none ∷ none ∷ none ∷ none ∷ none ∷ none
    ∷ 4 ∷ 2 ∷ none ∷ none ∷ 6 ∷ 3 ∷ none ∷ none ∷ none ∷ none ∷ none ∷ none ∷ none ∷ none ∷ none ∷ none
    ∷ replicate 32 none

abbrev again_left : Buffers
again_left =
    left 77 (upper_positions ++ drop 12 whole_positions) (upper_normals ++ drop 12 whole_normals) (upper_cells ++ drop 12 whole_cells) (upper_strides ++ drop 4 whole_strides) again_map
    (upper_indices ++ drop 6 whole_indices)

pub again-answered : answer_of (counts 4 6) ≡ answer (call_made grid dims upper_low highest no_plane) (room whole_left)
unfolding opened
again-answered = refl

pub again-left : again_left ≡ afterwards (call_made grid dims upper_low highest no_plane) whole_left
unfolding opened
again-left = refl

abbrev pub again : Run
again = run_on float-type grid dims upper_low highest no_plane (counts 4 6) whole_left again_left again-answered again-left grid-fits

-- and alone, in the lists that the whole was lent
abbrev alone_left : Buffers
alone_left =
    record {
      positions = floats upper_positions ++ replicate 13 (fin true 5 (pos 0));
      normals = floats upper_normals ++ replicate 13 (fin true 5 (pos 0));
      cells = upper_cells ++ replicate 13 77;
      strides = upper_strides ++ replicate 5 77;
      crossings = replicate 4 3 ++ replicate 5 77;
      map = upper_map;
      indices = upper_indices ++ replicate 31 77;
    }

pub alone-answered : answer_of (counts 4 6) ≡ answer (call_made grid dims upper_low highest no_plane) (room (lent 8 36 77))
unfolding opened
alone-answered = refl

pub alone-left : alone_left ≡ afterwards (call_made grid dims upper_low highest no_plane) (lent 8 36 77)
unfolding opened
alone-left = refl

abbrev pub alone : Run
alone = run_on float-type grid dims upper_low highest no_plane (counts 4 6) (lent 8 36 77) alone_left alone-answered alone-left grid-fits

-- the test of the premise of request 8: yes
pub whole-examined : scan.answers 0 true ≡ examined grid dims lowest highest
unfolding opened
whole-examined = refl

abbrev pub whole_test : Test
whole_test = test_of grid dims lowest highest (Ok true) whole-examined
