-- The definitions on numbers no two of which are alike. Blocks as words: the dimensions not read, flags set by any word but 0. Two blocks that share edges, one that lies out of
-- the whole, and a gap: the owners of single edges as document 01's words on owned edges have them, counted by hand. The refusals. Computed by the kernel. Assumes nothing.
use Prim.Native.Nat.{ℕ}
use native.Mathlib.Omega.{arith}
use mathlib.Core.Bool.{Bool, true, false}
use mathlib.Core.List.{List, [], ◌∷◌, ◌++◌}
use mathlib.Core.Logic.{inl, inr}
use mathlib.Core.Path.{◌≡◌, refl}
use lib.ListN.{replicate}
use Rattle.lists.specs.Lists.{some, run, up_to, keep}
use Rattle.rules.specs.Grid.{Axis, axis_x, axis_y, axis_z}
use Rattle.rules.specs.Faces.{edge, owned}
use Rattle.rules.specs.Cutting.{Piece}
use Rattle.plan.specs.declared.Block.{Block}
use Rattle.plan.specs.Plan.{bad_piece, plan_answer}
use Rattle.witness.specs.Witness.{block_in, piece_in, owners, Before, refusal, edge_words}

-- ---- a block in words, the second of two

abbrev two : List ℕ
two = 91 ∷ 92 ∷ 93 ∷ 1 ∷ 2 ∷ 3 ∷ 4 ∷ 5 ∷ 6 ∷ 0 ∷ 0 ∷ 0 ∷ 94 ∷ 95 ∷ 96 ∷ 21 ∷ 22 ∷ 23 ∷ 31 ∷ 32 ∷ 33 ∷ 0 ∷ 7 ∷ 0 ∷ []

abbrev second : Block
second =
    record {
      min_x = 21;
      min_y = 22;
      min_z = 23;
      max_x = 31;
      max_y = 32;
      max_z = 33;
      max_plane_x = false;
      max_plane_y = true;
      max_plane_z = false;
    }

pub second_block : block_in two 1 ≡ second
second_block = refl

-- ---- owners

-- a tank from (0, 0, 0) to (6, 4, 3) with the max plane of z
abbrev pub tank : List ℕ
tank = 0 ∷ 0 ∷ 0 ∷ 0 ∷ 0 ∷ 0 ∷ 6 ∷ 4 ∷ 3 ∷ 0 ∷ 0 ∷ 1 ∷ []

abbrev pub words : ℕ → ℕ → ℕ → ℕ → ℕ → ℕ → ℕ → ℕ → ℕ → List ℕ
words x y z x' y' z' fx fy fz = 0 ∷ 0 ∷ 0 ∷ x ∷ y ∷ z ∷ x' ∷ y' ∷ z' ∷ fx ∷ fy ∷ fz ∷ []

-- it is cut on x at 2 into [0, 3] and [2, 6], and the upper on y at 1 into [0, 2] and [1, 4]; before them a block of one cell, which owns nothing
abbrev pub plan : List ℕ
plan = words 5 3 1 6 4 2 0 0 0 ++ (words 0 0 0 3 4 3 0 0 9 ++ (words 2 0 0 6 2 3 0 0 1 ++ words 2 1 0 6 4 3 0 0 1))

-- the lower piece with its max plane of x left on; and the upper ends one step out of the tank
abbrev pub wrong : List ℕ
wrong = words 5 3 1 6 4 2 0 0 0 ++ (words 0 0 0 3 4 3 1 0 9 ++ (words 2 0 0 6 2 3 0 0 1 ++ words 2 1 0 6 4 4 0 0 1))

abbrev owners_in : List ℕ → Axis → ℕ → ℕ → ℕ → List ℕ
owners_in ws a x y z = owners (piece_in ws) 4 (piece_in tank 0) (edge a (record { x = x; y = y; z = z }))

abbrev whole_owns : Axis → ℕ → ℕ → ℕ → Bool
whole_owns a x y z = owned (piece_in tank 0).box (piece_in tank 0).flags (edge a (record { x = x; y = y; z = z }))

-- x edges from y 1 and z 1 up: of the plan each has one owner from x 0 to 4, and none at 5, the last cell
pub x-edges : owners_in plan axis_x 0 1 1 ≡ 1 ∷ []
unfolding owned keep up_to run
x-edges = refl

pub x-edges-upper : owners_in plan axis_x 2 1 1 ≡ 2 ∷ []
unfolding owned keep up_to run
x-edges-upper = refl

pub x-edges-last : owners_in plan axis_x 5 1 1 ≡ []
unfolding owned keep up_to run
x-edges-last = refl

pub x-edges-whole : whole_owns axis_x 4 1 1 ≡ true
unfolding owned
x-edges-whole = refl

pub x-edges-whole-last : whole_owns axis_x 5 1 1 ≡ false
unfolding owned
x-edges-whole-last = refl

-- with the lower piece's max plane left on, the x edges from x 2 have two
pub doubled : owners_in wrong axis_x 2 1 1 ≡ 1 ∷ 2 ∷ []
unfolding owned keep up_to run
doubled = refl

pub doubled-told : edge_words (edge axis_x (record { x = 2; y = 1; z = 1 })) (owners_in wrong axis_x 2 1 1) ≡ 0 ∷ 2 ∷ 1 ∷ 1 ∷ 1 ∷ 2 ∷ []
unfolding owned keep up_to run
doubled-told = refl

-- out of the tank: the z edge from (3, 2, 3)
pub outside : owners_in wrong axis_z 3 2 3 ≡ 3 ∷ []
unfolding owned keep up_to run
outside = refl

pub outside_told : edge_words (edge axis_z (record { x = 3; y = 2; z = 3 })) (owners_in wrong axis_z 3 2 3) ≡ 2 ∷ 3 ∷ 2 ∷ 3 ∷ 3 ∷ 4294967295 ∷ []
unfolding owned keep up_to run
outside_told = refl

pub outside-whole : whole_owns axis_z 3 2 3 ≡ false
unfolding owned
outside-whole = refl

-- ---- an edge as it is told, and which of two comes first

pub told-in-order : edge_words (edge axis_y (record { x = 4; y = 5; z = 6 })) (7 ∷ 8 ∷ 9 ∷ []) ≡ 1 ∷ 4 ∷ 5 ∷ 6 ∷ 7 ∷ 8 ∷ []
told-in-order = refl

pub by-axis : Before (edge axis_x (record { x = 9; y = 8; z = 7 })) (edge axis_y (record { x = 1; y = 2; z = 3 }))
by-axis = inl (omega arith)

pub by-z : Before (edge axis_z (record { x = 9; y = 8; z = 3 })) (edge axis_z (record { x = 1; y = 2; z = 4 }))
by-z = inr (refl, inl (omega arith))

pub by-y : Before (edge axis_z (record { x = 9; y = 2; z = 4 })) (edge axis_z (record { x = 1; y = 3; z = 4 }))
by-y = inr (refl, inr (refl, inl (omega arith)))

pub by-x : Before (edge axis_z (record { x = 1; y = 3; z = 4 })) (edge axis_z (record { x = 2; y = 3; z = 4 }))
by-x = inr (refl, inr (refl, inr (refl, omega arith)))

pub not_itself : Before (edge axis_y (record { x = 1; y = 3; z = 4 })) (edge axis_y (record { x = 1; y = 3; z = 4 })) → ⊥
not_itself (inl h) = omega arith
not_itself (inr (a, inl h)) = omega arith
not_itself (inr (a, inr (z, inl h))) = omega arith
not_itself (inr (a, inr (z, inr (y, h)))) = omega arith

-- ---- the refusals, in their order: not in twelves; more than 200; a coordinate past 2^24, a min above its max

abbrev none : Piece
none = piece_in [] 0

pub not-in-twelves : refusal (1 ∷ []) none ≡ 40
unfolding refusal
not-in-twelves = refl

pub twelves-first : refusal (replicate 2413 16777217) none ≡ 40
unfolding refusal
twelves-first = refl

pub list-first : refusal (replicate 2412 16777217) none ≡ 41
unfolding refusal plan_answer up_to run
list-first = refl

pub too_far : refusal (words 0 0 0 4 16777217 3 0 0 0) none ≡ 42
unfolding refusal plan_answer bad_piece some up_to run
too_far = refl

pub far-enough : refusal (words 0 0 0 4 16777216 3 0 0 0) none ≡ 0
unfolding refusal plan_answer bad_piece some up_to run
far-enough = refl

pub bad-whole : refusal [] (piece_in (words 0 0 5 1 1 4 0 0 0) 0) ≡ 42
unfolding refusal plan_answer bad_piece some up_to run
bad-whole = refl
