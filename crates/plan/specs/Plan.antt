-- Document 02, request 10: a block as the rules have it, the two refusals, and what an answer with its yes or no says.
-- Definitions only. Assumes nothing.
use Rattle.std.specs.Prelude.{ℕ, Bool, false, ◌||◌, cond, List, ◌≡◌, T, ltb, length, Result, Ok, Err}
use Rattle.lists.specs.Lists.{some}
use Rattle.rules.specs.Grid.{Box}
use Rattle.rules.specs.Cutting.{Piece, Plan}
use Rattle.plan.specs.declared.Block.{Block}
use Rattle.plan.specs.declared.refusal.Refusal.{Refusal}
use Rattle.plan.specs.declared.refusal.Refusal.TheVariants.{TooMany, BadBox}

-- the box and the flags of a block
abbrev pub piece : Block → Piece
piece b =
    record {
      box = record {
        low = record { x = b.min_x; y = b.min_y; z = b.min_z };
        high = record { x = b.max_x; y = b.max_y; z = b.max_z };
      };
      flags = record { x = b.max_plane_x; y = b.max_plane_y; z = b.max_plane_z };
    }

-- the block of loose numbers
abbrev pub block : ℕ → ℕ → ℕ → ℕ → ℕ → ℕ → Bool → Bool → Bool → Block
block x y z x' y' z' fx fy fz =
    record {
      min_x = x;
      min_y = y;
      min_z = z;
      max_x = x';
      max_y = y';
      max_z = z';
      max_plane_x = fx;
      max_plane_y = fy;
      max_plane_z = fz;
    }

-- ---- the refusals

-- 41: "a list over 200"
abbrev pub too_many : ℕ → Bool
too_many n = ltb 200 n

-- 42: "a box, whole or block, with min above max on an axis or a coordinate above 16,777,216"
abbrev pub bad_side : ℕ → ℕ → Bool
bad_side low high = ltb high low || (ltb 16777216 low || ltb 16777216 high)

abbrev pub bad_box : Box → Bool
bad_box b = bad_side b.low.x b.high.x || (bad_side b.low.y b.high.y || bad_side b.low.z b.high.z)

unfoldable pub bad_piece : Piece → Bool
bad_piece q = bad_box q.box

abbrev pub bad_block : Block → Bool
bad_block b = bad_piece (piece b)

-- "Refused: 41 ..; then 42": and else 0
unfoldable pub plan_answer : List Piece → Piece → ℕ
plan_answer ps w = cond (too_many (length ps)) 41 (cond (bad_piece w || some bad_piece ps) 42 0)

-- ---- the answer and its yes or no

-- the refusals by their numbers
abbrev pub refusal_number : Refusal → ℕ
refusal_number TooMany = 41
refusal_number BadBox = 42

-- the answer number of a result: 0, or the refusal's
abbrev pub answer_number : {A : Type 0} → Result A Refusal → ℕ
answer_number (Ok _) = 0
answer_number (Err why) = refusal_number why

-- its yes or no, which is no on a refusal
abbrev pub is_yes : Result Bool Refusal → Bool
is_yes (Ok yes') = yes'
is_yes (Err _) = false

-- "it says yes exactly if every edge the whole owns is owned by exactly one block and no block owns any other edge": `Plan` of the rules. A refusal
-- says no.
pub record Checks (ps : List Piece) (w : Piece) (answer : ℕ) (holds : Bool) : Type 0 where
  pub number : answer ≡ plan_answer ps w
  pub yes : T holds → (answer ≡ 0) × Plan ps w
  pub sure : answer ≡ 0 → Plan ps w → T holds
