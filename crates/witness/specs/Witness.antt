-- Document 02, request 10, where a plan is checked with no: the first edge at which blocks are no plan, the first two blocks that own it, and the answers.
-- Definitions only. Assumes nothing.
use Rattle.std.specs.Prelude.{ℕ, ◌+◌, ◌*◌, ◌/◌, ◌%◌, ◌<◌, Bool, not, cond, List, [], ◌∷◌, map, ◌⊎◌, ◌≡◌, eqb, length, get_or, Result, Ok, Err}
use Rattle.lists.specs.Lists.{one, up_to, keep}
use Rattle.rules.specs.Grid.{GridPoint, Axis, axis_x, axis_y, axis_z}
use Rattle.rules.specs.Faces.{Edge, owned}
use Rattle.rules.specs.Cutting.{Piece, Plan}
use Rattle.plan.specs.declared.Block.{Block}
use Rattle.plan.specs.Plan.{piece, block, plan_answer, refusal_number}
use Rattle.witness.specs.declared.words.NoEdge.{NoEdge}
use Rattle.witness.specs.declared.words.NoEdge.TheVariants.{NotInTwelves, Refused, Planned}

-- ---- blocks as words, twelve each: dimensions, which are not read, min, max and the max plane's flags, of which any word but 0 is set

abbrev pub word_in : List ℕ → ℕ → ℕ → ℕ
word_in words i k = get_or words (12 * i + k) 0

abbrev pub flag_in : List ℕ → ℕ → ℕ → Bool
flag_in words i k = not (eqb (word_in words i k) 0)

abbrev pub block_in : List ℕ → ℕ → Block
block_in words i =
    block (word_in words i 3) (word_in words i 4) (word_in words i 5) (word_in words i 6) (word_in words i 7) (word_in words i 8)
    (flag_in words i 9) (flag_in words i 10) (flag_in words i 11)

abbrev pub piece_in : List ℕ → ℕ → Piece
piece_in words i = piece (block_in words i)

-- the blocks of a list of words
abbrev pub count_in : List ℕ → ℕ
count_in words = length words / 12

abbrev pub pieces_in : List ℕ → List Piece
pieces_in words = map (piece_in words) (up_to 0 (count_in words))

-- ---- an edge at which n blocks are no plan of the whole

module _ (blocks : ℕ → Piece) (n : ℕ) (whole : Piece) where
  -- the numbers of the blocks that own an edge, in their order
  abbrev pub owners : Edge → List ℕ
  owners e = keep (λ (i : ℕ). owned (blocks i).box (blocks i).flags e) (up_to 0 n)

  -- it is owned by exactly one block if the whole owns it, and else by none
  abbrev pub Right : Edge → Type 0
  Right e = length (owners e) ≡ one (owned whole.box whole.flags e)

-- x, y, z
abbrev pub axis_number : Axis → ℕ
axis_number axis_x = 0
axis_number axis_y = 1
axis_number axis_z = 2

-- by z, then by y, then by x
abbrev pub Earlier : GridPoint → GridPoint → Type 0
Earlier p q = (p.z < q.z) ⊎ ((p.z ≡ q.z) × ((p.y < q.y) ⊎ ((p.y ≡ q.y) × (p.x < q.x))))

-- by the axis, then by the lowest point
abbrev pub Before : Edge → Edge → Type 0
Before e f = (axis_number e.axis < axis_number f.axis) ⊎ ((e.axis ≡ f.axis) × Earlier e.from f.from)

-- not right, and every edge before it is
pub record FirstWrong (blocks : ℕ → Piece) (n : ℕ) (whole : Piece) (e : Edge) : Type 0 where
  pub wrong : Right blocks n whole e → ⊥
  pub first : (f : Edge) → Before f e → Right blocks n whole f

-- ---- the answers

-- 40: the words are not in twelves; and else check_plan's, 41 or 42; or 0
unfoldable pub refusal : List ℕ → Piece → ℕ
refusal words whole = cond (eqb (length words % 12) 0) (plan_answer (pieces_in words) whole) 40

-- why no edge is told, by its number
abbrev pub reason_number : NoEdge → ℕ
reason_number NotInTwelves = 40
reason_number (Refused why) = refusal_number why
reason_number Planned = 43

-- the answer number of a result: 0, or why no edge is told
abbrev pub outcome_number : {A : Type 0} → Result A NoEdge → ℕ
outcome_number (Ok _) = 0
outcome_number (Err reason) = reason_number reason

-- in the place of a block's number
abbrev pub no_block : ℕ
no_block = 4294967295

-- an edge as it is told: its axis and its lowest point, and the first and the second block that own it
abbrev pub edge_words : Edge → List ℕ → List ℕ
edge_words e os = axis_number e.axis ∷ e.from.x ∷ e.from.y ∷ e.from.z ∷ get_or os 0 no_block ∷ get_or os 1 no_block ∷ []

-- refused with nothing changed; 43 with nothing changed, and the blocks are a plan; or 0, and the first wrong edge is told
pub data Tells (words : List ℕ) (whole : Piece) (answer : ℕ) (old new : List ℕ) : Type 0 where
  refused : (refusal words whole ≡ 0 → ⊥) → answer ≡ refusal words whole → new ≡ old → Tells words whole answer old new
  holds : refusal words whole ≡ 0 → answer ≡ 43 → Plan (pieces_in words) whole → new ≡ old → Tells words whole answer old new
  told : refusal words whole ≡ 0 → answer ≡ 0 → (e : Edge) → FirstWrong (piece_in words) (count_in words) whole e
      → new ≡ edge_words e (owners (piece_in words) (count_in words) whole e) → Tells words whole answer old new
