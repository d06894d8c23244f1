-- What the code says of itself: the three tests of a plan, one function for each of the code's. Definitions only. Assumes nothing.
use Rattle.std.specs.Prelude.{ℕ, ◌≤◌, Bool, not, ◌&&◌, List, T, All, take, length}
use Rattle.std.specs.List.{list_any, list_all, fold, enumerate_from}
use Rattle.plan.specs.declared.Block.{Block}
use Rattle.plan.specs.declared.size.Sum.{Sum}
use Rattle.plan.specs.Triples.{Sums}
use Rattle.plan.specs.Plan.{bad_block}
use Rattle.plan.specs.Region.{owned_of, owned_meet, owned_inside}
use Rattle.plan.specs.Size.{sizes_of, added_all, same_sums}

-- what a block owns lies in what the whole owns
abbrev pub is_inside : Block → Block → Bool
is_inside w b = owned_inside (owned_of b) (owned_of w)

-- a block, with its place, shares no edge with one before it
abbrev pub is_apart : List Block → ℕ × Block → Bool
is_apart bs p = not (list_any (λ c. owned_meet (owned_of p.1) (owned_of c)) (take p.0 bs))

abbrev pub no_sum : Sum
no_sum = record { high = 0; low = 0 }

abbrev pub no_sums : Sums
no_sums = record { x = no_sum; y = no_sum; z = no_sum }

abbrev pub with_sizes : Sums → Block → Sums
with_sizes s b = added_all s (sizes_of (owned_of b))

-- how many edges all blocks own
abbrev pub sums_of : List Block → Sums
sums_of bs = fold with_sizes no_sums bs

-- up to 200 blocks, none of which 42 refuses
abbrev pub Good : List Block → Type 0
Good bs = (length bs ≤ 200) × All (λ b. T (not (bad_block b))) bs

-- the three together
abbrev pub covers_once : List Block → Block → Bool
covers_once bs w = list_all (is_inside w) bs && (list_all (is_apart bs) (enumerate_from 0 bs) && same_sums (sums_of bs) (sizes_of (owned_of w)))
