-- `levels::answers::layer_answer` meets its contract: at each return the tests that led there say which condition answers. Assumes nothing.
use Rattle.std.proofs.Common.{◌≡◌, false, List, sym, ◌∙◌, le_trans, le_of_eq}
use lib.Ieee.{Float}
use Rattle.rules.specs.Grid.{GridPoint, Box}
use Rattle.rules.specs.Call.{bad_dimensions, bad_box}
use Rattle.grid.specs.Block.{point, box_of}
use Rattle.grid.proofs.Places.{as-long}
use Rattle.levels.specs.Call.{outside, bad_layers, bad_distances}
use Rattle.levels.proofs.Answering.{lengths-told, layer-1, layer-2, layer-77, layer-3, layer-5, layer-78, layer-0}
use Rattle.levels.proofs.answers.layer_answer.Given.{Over}
use Rattle.levels.proofs.answers.layer_answer.Goals as goal
use Rattle.levels.proofs.answers.layer_answer.Goals.{After-bad_lengths, Else-bad_box, Else-bad_dimensions, Else-bad_distances, Else-bad_lengths, Else-is_outside, Start}

abbrev lower_of : (g : Over) → Start g → List Float
lower_of g c = let a = c.args in g.D.Distance.floats a.lower.now

abbrev upper_of : (g : Over) → Start g → List Float
upper_of g c = let a = c.args in g.D.Distance.floats a.upper.now

abbrev dims-of : (g : Over) → Start g → GridPoint
dims-of g c = point c.args.k.dims

abbrev asked_box : (g : Over) → Start g → Box
asked_box g c = box_of c.args.k

abbrev dims-of-2 : (g : Over) → Else-bad_dimensions g → GridPoint
dims-of-2 g c = point c.args.k.dims

dims-good : (g : Over) (c : Else-bad_dimensions g) → bad_dimensions (dims-of-2 g c) ≡ false
dims-good g c = sym c.bad_dimensions.ensures ∙ c.if-bad_dimensions.false

abbrev dims-of-3 : (g : Over) → Else-bad_box g → GridPoint
dims-of-3 g c = point c.args.k.dims

abbrev asked_box-2 : (g : Over) → Else-bad_box g → Box
asked_box-2 g c = box_of c.args.k

box-good : (g : Over) (c : Else-bad_box g) → bad_box (dims-of-3 g c) (asked_box-2 g c) ≡ false
box-good g c = sym c.bad_box.ensures ∙ c.if-bad_box.false

abbrev asked_box-3 : (g : Over) → Else-is_outside g → Box
asked_box-3 g c = box_of c.args.k

inside : (g : Over) (c : Else-is_outside g) → outside (asked_box-3 g c) c.args.z ≡ false
inside g c = sym c.is_outside.ensures ∙ c.if-is_outside.false

abbrev dims-of-4 : (g : Over) → After-bad_lengths g → GridPoint
dims-of-4 g c = point c.args.k.dims

abbrev asked_box-4 : (g : Over) → After-bad_lengths g → Box
asked_box-4 g c = box_of c.args.k

abbrev lower_of-2 : (g : Over) → After-bad_lengths g → List Float
lower_of-2 g c = let a = c.args in g.D.Distance.floats a.lower.now

abbrev upper_of-2 : (g : Over) → After-bad_lengths g → List Float
upper_of-2 g c = let a = c.args in g.D.Distance.floats a.upper.now

lengths-are : (g : Over) (c : After-bad_lengths g) → bad_layers (dims-of-4 g c) (asked_box-4 g c) (lower_of-2 g c) (upper_of-2 g c) c.args.z ≡ c.bad_lengths.result
lengths-are g c = lengths-told (dims-of-4 g c) (asked_box-4 g c) (lower_of-2 g c) (upper_of-2 g c) c.args.z (sym (as-long g.met.D.Distance.floats_are c.args.lower.now)) (sym (as-long g.met.D.Distance.floats_are c.args.upper.now)) c.bad_lengths.ensures

abbrev dims-of-5 : (g : Over) → Else-bad_lengths g → GridPoint
dims-of-5 g c = point c.args.k.dims

abbrev asked_box-5 : (g : Over) → Else-bad_lengths g → Box
asked_box-5 g c = box_of c.args.k

abbrev lower_of-3 : (g : Over) → Else-bad_lengths g → List Float
lower_of-3 g c = let a = c.args in g.D.Distance.floats a.lower.now

abbrev upper_of-3 : (g : Over) → Else-bad_lengths g → List Float
upper_of-3 g c = let a = c.args in g.D.Distance.floats a.upper.now

lengths-are-2 : (g : Over) (c : Else-bad_lengths g) → bad_layers (dims-of-5 g c) (asked_box-5 g c) (lower_of-3 g c) (upper_of-3 g c) c.args.z ≡ c.bad_lengths.result
lengths-are-2 g c = lengths-told (dims-of-5 g c) (asked_box-5 g c) (lower_of-3 g c) (upper_of-3 g c) c.args.z (sym (as-long g.met.D.Distance.floats_are c.args.lower.now)) (sym (as-long g.met.D.Distance.floats_are c.args.upper.now)) c.bad_lengths.ensures

lengths-good : (g : Over) (c : Else-bad_lengths g) → bad_layers (dims-of-5 g c) (asked_box-5 g c) (lower_of-3 g c) (upper_of-3 g c) c.args.z ≡ false
lengths-good g c = lengths-are-2 g c ∙ c.if-bad_lengths.false

abbrev dims-of-6 : (g : Over) → Else-bad_distances g → GridPoint
dims-of-6 g c = point c.args.k.dims

abbrev asked_box-6 : (g : Over) → Else-bad_distances g → Box
asked_box-6 g c = box_of c.args.k

abbrev lower_of-4 : (g : Over) → Else-bad_distances g → List Float
lower_of-4 g c = let a = c.args in g.D.Distance.floats a.lower.now

abbrev upper_of-4 : (g : Over) → Else-bad_distances g → List Float
upper_of-4 g c = let a = c.args in g.D.Distance.floats a.upper.now

distances-good : (g : Over) (c : Else-bad_distances g) → bad_distances (dims-of-6 g c) (asked_box-6 g c) (lower_of-4 g c) (upper_of-4 g c) c.args.z ≡ false
distances-good g c = sym c.bad_distances.ensures ∙ c.if-bad_distances.false

pub returns-then-bad_dimensions : goal.returns-then-bad_dimensions
returns-then-bad_dimensions g c =
    layer-1 (lower_of g (goal.at.returns-then-bad_dimensions g c).Start) (upper_of g (goal.at.returns-then-bad_dimensions g c).Start) (dims-of g (goal.at.returns-then-bad_dimensions g c).Start) (asked_box g (goal.at.returns-then-bad_dimensions g c).Start) c.args.z c.args.room (sym c.bad_dimensions.ensures ∙ c.if-bad_dimensions.true)

pub returns-then-bad_box : goal.returns-then-bad_box
returns-then-bad_box g c =
    layer-2 (lower_of g (goal.at.returns-then-bad_box g c).Start) (upper_of g (goal.at.returns-then-bad_box g c).Start) (dims-of g (goal.at.returns-then-bad_box g c).Start) (asked_box g (goal.at.returns-then-bad_box g c).Start) c.args.z c.args.room (dims-good g (goal.at.returns-then-bad_box g c).Else-bad_dimensions) (sym c.bad_box.ensures ∙ c.if-bad_box.true)

pub returns-then-is_outside : goal.returns-then-is_outside
returns-then-is_outside g c =
    layer-77 (lower_of g (goal.at.returns-then-is_outside g c).Start) (upper_of g (goal.at.returns-then-is_outside g c).Start) (dims-of g (goal.at.returns-then-is_outside g c).Start) (asked_box g (goal.at.returns-then-is_outside g c).Start) c.args.z c.args.room (dims-good g (goal.at.returns-then-is_outside g c).Else-bad_dimensions) (box-good g (goal.at.returns-then-is_outside g c).Else-bad_box)
    (sym c.is_outside.ensures ∙ c.if-is_outside.true)

pub returns-then-bad_lengths : goal.returns-then-bad_lengths
returns-then-bad_lengths g c =
    layer-3 (lower_of g (goal.at.returns-then-bad_lengths g c).Start) (upper_of g (goal.at.returns-then-bad_lengths g c).Start) (dims-of g (goal.at.returns-then-bad_lengths g c).Start) (asked_box g (goal.at.returns-then-bad_lengths g c).Start) c.args.z c.args.room (dims-good g (goal.at.returns-then-bad_lengths g c).Else-bad_dimensions) (box-good g (goal.at.returns-then-bad_lengths g c).Else-bad_box) (inside g (goal.at.returns-then-bad_lengths g c).Else-is_outside)
    (lengths-are g (goal.at.returns-then-bad_lengths g c).After-bad_lengths ∙ c.if-bad_lengths.true)

pub returns-then-bad_distances : goal.returns-then-bad_distances
returns-then-bad_distances g c =
    layer-5 (lower_of g (goal.at.returns-then-bad_distances g c).Start) (upper_of g (goal.at.returns-then-bad_distances g c).Start) (dims-of g (goal.at.returns-then-bad_distances g c).Start) (asked_box g (goal.at.returns-then-bad_distances g c).Start) c.args.z c.args.room (dims-good g (goal.at.returns-then-bad_distances g c).Else-bad_dimensions) (box-good g (goal.at.returns-then-bad_distances g c).Else-bad_box) (inside g (goal.at.returns-then-bad_distances g c).Else-is_outside) (lengths-good g (goal.at.returns-then-bad_distances g c).Else-bad_lengths)
    (sym c.bad_distances.ensures ∙ c.if-bad_distances.true)

pub returns-then-room-column_count : goal.returns-then-room-column_count
returns-then-room-column_count g c =
    layer-78 (lower_of g (goal.at.returns-then-room-column_count g c).Start) (upper_of g (goal.at.returns-then-room-column_count g c).Start) (dims-of g (goal.at.returns-then-room-column_count g c).Start) (asked_box g (goal.at.returns-then-room-column_count g c).Start) c.args.z c.args.room (dims-good g (goal.at.returns-then-room-column_count g c).Else-bad_dimensions) (box-good g (goal.at.returns-then-room-column_count g c).Else-bad_box) (inside g (goal.at.returns-then-room-column_count g c).Else-is_outside) (lengths-good g (goal.at.returns-then-room-column_count g c).Else-bad_lengths)
    (distances-good g (goal.at.returns-then-room-column_count g c).Else-bad_distances) (le_trans c.if-room-column_count.true (le_of_eq c.column_count.ensures))

pub returns : goal.returns
returns g c =
    layer-0 (lower_of g (goal.at.returns g c).Start) (upper_of g (goal.at.returns g c).Start) (dims-of g (goal.at.returns g c).Start) (asked_box g (goal.at.returns g c).Start) c.args.z c.args.room (dims-good g (goal.at.returns g c).Else-bad_dimensions) (box-good g (goal.at.returns g c).Else-bad_box) (inside g (goal.at.returns g c).Else-is_outside) (lengths-good g (goal.at.returns g c).Else-bad_lengths)
    (distances-good g (goal.at.returns g c).Else-bad_distances) (le_trans (le_of_eq (sym c.column_count.ensures)) c.if-room-column_count.false)
