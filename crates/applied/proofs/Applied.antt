-- Main theorems over the contracts, applied to the calls of OnePoint: what it asks for is there, and the numbers that come out are those of the lists. Assumes
-- nothing.
use Prim.Native.Nat.{ℕ, ◌<◌}
use mathlib.Core.Bool.{false}
use mathlib.Core.List.{List, [], ◌∷◌, ◌++◌}
use mathlib.Core.Path.{◌≡◌, refl, sym, ◌∙◌}
use native.Mathlib.Omega.{arith}
use borrow.Fn.Kinds.{ParamKind, ResultKind}
use lib.Dec.{T, lit≤}
use lib.ListN.{length, get_or, take, replicate, get_or-append}
use lib.Ieee.{nan, binary32, of_bits}
use Rattle.lists.specs.Lists.{many, joined}
use Rattle.rules.specs.Grid.{GridPoint, axis_x, Box, index, in_box}
use Rattle.rules.specs.Cell.{one32}
use Rattle.rules.specs.Call.{answers}
use Rattle.rules.specs.Faces.{all_three}
use Rattle.rules.specs.Cutting.{Piece, Cuts, uncut, cut, pieces, Fits, lower_piece, upper_piece}
use Rattle.rules.proofs.Indexes.{within}
use Rattle.lists.proofs.Lists.{All, none, more, all-at, total}
use Rattle.rules.proofs.Crossings.{Possible}
use Rattle.lists.proofs.Permutation.{Perm}
use Rattle.rules.proofs.Locality.{SameWritten}
use Rattle.grid.specs.Block.{point}
use Rattle.grid.proofs.Instances.{float-type}
use Rattle.cube.proofs.ClosedCell.{InCell}
use Rattle.surface_nets.proofs.surface_nets.Kinds as kinds
use Rattle.surface_nets.proofs.surface_nets.Reads as reads
use Rattle.promises.specs.Served.{Served, Done, faces_read, crossings_read, vertices_read}
use Rattle.promises.proofs.OneOutcome.{Outcome, FitsContract}
use Rattle.promises.proofs.Once.{surface-nets-once}
use Rattle.promises.proofs.Runs.{Run, served, bed_served}
use Rattle.promises.proofs.Done.{done-accepts}
use Rattle.promises.proofs.Local.{runs-alike, surface-nets-local, bed-is-surface-nets}
use Rattle.promises.proofs.Again.{no-cell-shows, outside-keeps, surface-nets-again}
use Rattle.promises.proofs.Flat.{surface-nets-flat}
use Rattle.promises.proofs.ClosedMesh.{ClosedMesh, surface-nets-closed, bed-surface-nets-closed}
use Rattle.promises.proofs.Crossings.{surface-nets-crossings}
use Rattle.promises.proofs.CutMesh.{CutMesh, field_in, Passing, Meshed, outcomes, surface-nets-cut, surface-nets-cut-whole}
use Rattle.promises.proofs.CutVertices.{in_layer, surface-nets-cut-vertices}
use Rattle.skin.specs.Links.{link, same_link, links, face_links}
use Rattle.closed_mesh.proofs.Calls as request8
use Rattle.closed_mesh.proofs.Closed.{mesh-neighbours}
use Rattle.mesh_file.specs.Mesh.{file_length}
use Rattle.mesh_file.specs.Reading.{read_of}
use Rattle.mesh_file.specs.Reading as reading
use Rattle.mesh_file.specs.Writing.{wrote, writing, written}
use Rattle.kept_mesh.specs.Parts.{mesh_of}
use Rattle.kept_mesh.proofs.Kept.{KeptMesh, surface-nets-kept, bed-surface-nets-kept}
use Rattle.applied.proofs.OnePoint.{front, grid, spoiled, dims, opened, whole_indices, whole, bed_whole, whole_mesh, whole_test, lower, upper, elsewhere, flat, again, alone}

-- ---- one outcome alone

-- whatever fits the contract of surface_nets at these arguments is what stands there: the answer 0, V 8 and I 36, and the seven lists
abbrev ps : List (ParamKind 9)
ps = kinds.ps float-type.type float-type.laws float-type.copy

abbrev r : ResultKind 9
r = kinds.r float-type.type float-type.laws float-type.copy

pub one-outcome : (o : Outcome 9 ps r whole.lifetimes whole.args)
    → FitsContract 9 ps r (reads.Learnt float-type.type float-type.laws float-type.copy float-type.distance float-type.distance_dict float-type.clone float-type.clone_dict)
    whole.lifetimes whole.args o
    → o ≡ whole.outcome
one-outcome o l = surface-nets-once float-type whole.lifetimes whole.args o whole.outcome l whole.fits

-- ---- every position in its cell

done : Done (served whole)
done = refl

pub whole-closed : ClosedMesh (served whole)
whole-closed = surface-nets-closed whole done

-- of the last vertex, on z: the bits 0x3F955555 are those of a number from 1 to 2
pub last-inside : InCell 1 (of_bits binary32 0x3F955555)
last-inside = whole-closed.inside 7 2 (lit≤ tt) (lit≤ tt)

-- ---- the number of crossings

-- three, of the last vertex
pub last-crossings : Possible 3
last-crossings = (surface-nets-crossings whole done 7 (lit≤ tt)).1

-- ---- what lies outside the box never matters

abbrev lower_box : Box
lower_box = (served lower).call.box

same-distance : (p : GridPoint) → T (in_box lower_box p) → (p.x < 4) × (p.y < 4) × (p.z < 4) → get_or grid (index (point dims) p) nan ≡ get_or spoiled (index (point dims) p) nan
same-distance p t d =
    let w = within lower_box p t in
    let first : index (point dims) p < length front = omega arith in
    get_or-append front (one32 ∷ []) nan (index (point dims) p) first ∙ sym (get_or-append front (nan ∷ []) nan (index (point dims) p) first)

pub lower-local : ((served lower).says ≡ (served elsewhere).says) × SameWritten (served lower).call (served lower).after (served elsewhere).after
lower-local =
    let l = surface-nets-local lower elsewhere (runs-alike lower elsewhere refl refl refl refl refl same-distance) refl in
    (l.0, l.1 refl)

-- ---- two calls in a row

pub upper-again : ((served again).says ≡ (served alone).says) × SameWritten (served again).call (served again).after (served alone).after
upper-again =
    let l = surface-nets-again whole again alone refl refl (runs-alike again alone refl refl refl refl refl (λ p t d. refl)) in
    (l.0, l.1 refl)

-- of the second, the point (3, 0, 0) on the max side in x, and the point (0, 1, 0) outside its box, which keeps vertex 2 of the first
pub side-blank : get_or (served again).after.map 3 0 ≡ 4294967295
side-blank = no-cell-shows (served again) refl 3 (lit≤ tt) tt (λ t. t)

pub outside_kept : get_or (served again).after.map 4 0 ≡ 2
outside_kept = outside-keeps (served again) refl 4 (lit≤ tt) (λ t. t)

-- ---- a flat box

pub flat-none : (served flat).says ≡ answers 0 0 0
flat-none = surface-nets-flat flat (record { axis = axis_x; flat = refl; accepted = done-accepts (served flat) refl })

-- ---- a cut

abbrev pub cut_once : Cuts
cut_once = cut axis_x 1 uncut uncut

abbrev box : Box
box = (served whole).call.box

-- with no max plane
abbrev pub bare : Piece
bare = record { box = box; flags = all_three false }

pub fits-once : Fits cut_once bare
fits-once = omega arith

pub passes : Passing grid dims box
passes = done-accepts (served whole) done

-- one call for each piece, with room
unfoldable pub lower_meshed : Meshed {U = Run} served grid dims (lower_piece axis_x 1 bare)
unfolding opened
lower_meshed =
    record {
      run = lower;
      asked = refl;
      roomy = record { map = lit≤ tt; positions = lit≤ tt; normals = lit≤ tt; cells = lit≤ tt; strides = lit≤ tt; crossings = lit≤ tt; indices = lit≤ tt };
    }

unfoldable pub upper_meshed : Meshed {U = Run} served grid dims (upper_piece axis_x 1 bare)
unfolding opened
upper_meshed =
    record {
      run = upper;
      asked = refl;
      roomy = record { map = lit≤ tt; positions = lit≤ tt; normals = lit≤ tt; cells = lit≤ tt; strides = lit≤ tt; crossings = lit≤ tt; indices = lit≤ tt };
    }

unfoldable pub whole_meshed : Meshed {U = Run} served grid dims bare
unfolding opened
whole_meshed =
    record {
      run = whole;
      asked = refl;
      roomy = record { map = lit≤ tt; positions = lit≤ tt; normals = lit≤ tt; cells = lit≤ tt; strides = lit≤ tt; crossings = lit≤ tt; indices = lit≤ tt };
    }

pub both : All (Meshed {U = Run} served grid dims) (pieces cut_once bare)
unfolding opened lower_meshed upper_meshed
both = more lower_meshed (more upper_meshed none)

pub pieces-mesh : CutMesh (field_in grid dims) bare (outcomes served grid dims (pieces cut_once bare) both)
pieces-mesh = surface-nets-cut grid dims cut_once bare passes fits-once both

-- as many faces as the whole has edges with one negative end, six; so the two I, 30 and 6, are 36 together
pub six-faces : length (joined faces_read (served lower ∷ served upper ∷ [])) ≡ 6
unfolding opened both lower_meshed upper_meshed
six-faces = pieces-mesh.number

pub six-each : total (λ (u : Served). u.says.indices) (served lower ∷ served upper ∷ []) ≡ 36
unfolding opened both lower_meshed upper_meshed
six-each = pieces-mesh.indices

-- the cell (1,0,0) is in both pieces, as the vertex 1 of the lower and the vertex 0 of the upper
pub cell-in-both : crossings_read (served lower) 1 ≡ crossings_read (served upper) 0
unfolding opened both lower_meshed upper_meshed
cell-in-both = all-at (all-at pieces-mesh.crossings 0 (lit≤ tt) (served lower)) 1 (lit≤ tt) (served lower) 1 0 (lit≤ tt) (lit≤ tt) refl

-- the whole's faces, each once
pub same-faces : Perm (joined faces_read (served lower ∷ served upper ∷ [])) (faces_read (served whole))
unfolding opened both lower_meshed upper_meshed whole_meshed
same-faces = (surface-nets-cut-whole grid dims cut_once bare passes fits-once both whole_meshed).1

-- the whole's eight vertices, and once more the four of layer 1
pub twelve-vertices : Perm (vertices_read (served lower) ++ vertices_read (served upper)) (vertices_read (served whole) ++ in_layer axis_x 1 (vertices_read (served whole)))
unfolding lower_meshed upper_meshed whole_meshed
twelve-vertices = surface-nets-cut-vertices grid dims axis_x 1 bare passes (lit≤ tt) (lit≤ tt) lower_meshed upper_meshed whole_meshed

-- ---- no hole

pub whole-even : (i j : ℕ) → many (same_link (link i j)) (links whole_indices) ≡ many (same_link (link j i)) (links whole_indices)
whole-even = request8.surface-nets-closed whole_test whole_mesh refl refl refl

-- the side from 2 to 1 occurs once, so the one from 1 to 2 does
pub one_side : many (same_link (link 1 2)) (links whole_indices) ≡ 1
unfolding opened
one_side = whole-even 1 2

-- the cells (0,1,1) and (1,1,1), neighbours on x whose square has four owned edges, have the vertices 6 and 7
pub neighbours : many (same_link (link 6 7)) (face_links whole_indices) ≡ many (same_link (link 7 6)) (face_links whole_indices)
unfolding opened
neighbours = mesh-neighbours (request8.mesh-is whole_mesh refl) axis_x 6 7 (lit≤ tt) (lit≤ tt) refl (record { near = tt; far = tt; left = tt; right = tt })

-- ---- the mesh can be kept

pub whole-kept : KeptMesh (served whole)
whole-kept = surface-nets-kept whole done (lit≤ tt)

-- 8 vertices, 12 triangles and the closing record are 672 bytes, which read back as such a mesh
abbrev file : List ℕ
file = replicate 672 0

pub whole-written : writing (mesh_of (served whole)) 672 ≡ wrote 0 672
whole-written = whole-kept.answered file (lit≤ tt)

pub whole-read : read_of (take (file_length (mesh_of (served whole))) (written (mesh_of (served whole)) file)) ≡ reading.whole 8 12
whole-read = whole-kept.reads file (lit≤ tt)

-- ---- the function for C

pub bed-the-same : ((served whole).says ≡ (bed_served bed_whole).says) × ((served whole).after ≡ (bed_served bed_whole).after)
bed-the-same = bed-is-surface-nets whole bed_whole refl refl

pub bed-closed : ClosedMesh (bed_served bed_whole)
bed-closed = bed-surface-nets-closed bed_whole refl

pub bed-kept : KeptMesh (bed_served bed_whole)
bed-kept = bed-surface-nets-kept bed_whole refl (lit≤ tt)
