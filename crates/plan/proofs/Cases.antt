-- Plans that the kernel computes: the tests of a check on them, and what its answer says, a plan or none. The pinwheel, which no run of cuts makes; each of
-- its blocks left out, doubled or moved; blocks of one cell; sizes past 64 bits; the refusals and their order. Assumes nothing.
use Prim.Native.Nat.{ℕ, zero, suc, ◌+◌, ◌<◌}
use native.Mathlib.Nat.{not-suc-le-zero, le_of_suc-le-suc}
use mathlib.Core.Bool.{Bool, true, false, ◌&&◌}
use mathlib.Core.List.{List, [], ◌∷◌, map}
use mathlib.Core.Path.{◌≡◌, refl, subst}
use lib.Dec.{T, eqb, eqb→eq}
use lib.Ieee.Fits.{and_i, and_l, and_r, eq→eqb}
use lib.ListN.{length, get_or, replicate}
use Rattle.lists.specs.Lists.{some}
use Rattle.plan.specs.declared.Block.{Block}
use Rattle.plan.specs.Plan.{piece, block, bad_piece, plan_answer, Checks}
use Rattle.plan.specs.Region.{owned_of, regions_meet, owned_meet, region_inside, owned_inside}
use Rattle.plan.specs.Size.{size_of, same_sum}
use Rattle.plan.specs.Tests.{covers_once}
use Rattle.plan.proofs.Decided.{tests-plan, plan-tests}

-- ---- what a check comes to

abbrev number : List Block → Block → ℕ
number bs w = plan_answer (map piece bs) (piece w)

abbrev says : List Block → Block → Bool
says bs w = eqb (number bs w) 0 && covers_once bs w

checked : (bs : List Block) (w : Block) → Checks (map piece bs) (piece w) (number bs w) (says bs w)
checked bs w =
    let Z = eqb (number bs w) 0 in
    record {
      number = refl;
      yes = λ t. (eqb→eq (number bs w) 0 (and_l Z (covers_once bs w) t), tests-plan bs w (and_r Z (covers_once bs w) t));
      sure = λ z h. and_i Z (covers_once bs w) (eq→eqb z) (plan-tests bs w h);
    }

-- ---- the table

pub record Case : Type 0 where
  pub blocks : List Block
  pub whole : Block
  pub answer : ℕ
  pub holds : Bool

abbrev same : Bool → Bool → Bool
same true b = b
same false true = false
same false false = true

same-is : (a b : Bool) → T (same a b) → a ≡ b
same-is true true t = refl
same-is true false t = absurd t
same-is false true t = absurd t
same-is false false t = refl

abbrev right : Case → Bool
right c = eqb (number c.blocks c.whole) c.answer && same (says c.blocks c.whole) c.holds

abbrev all : List Case → Bool
all [] = true
all (c ∷ cs) = right c && all cs

-- ---- the cases

-- in x and y, z from 0 to 3
abbrev flat : ℕ → ℕ → ℕ → ℕ → Block
flat x x' y y' = block x y 0 x' y' 3 false false false

abbrev pinwheel : List Block
pinwheel = flat 0 3 0 2 ∷ flat 2 4 0 3 ∷ flat 1 4 2 4 ∷ flat 0 2 1 4 ∷ flat 1 3 1 3 ∷ []

abbrev tank : Block
tank = block 0 0 0 4 4 3 false false false

abbrev case : List Block → Block → ℕ → Bool → Case
case bs w a h = record { blocks = bs; whole = w; answer = a; holds = h }

-- one cell, with all flags
abbrev cell : ℕ → Block
cell k = block k k k (k + 1) (k + 1) (k + 1) true true true

abbrev large : Block
large = block 0 0 0 4194305 4194305 4194305 true true true

-- both halves of the large box, cut at 2,000,000
abbrev below : Block
below = block 0 0 0 2000001 4194305 4194305 false true true

abbrev above : Block
above = block 2000000 0 0 4194305 4194305 4194305 true true true

abbrev pub table : List Case
table =
    case pinwheel tank 0 true
    -- one left out
    ∷ case (flat 2 4 0 3 ∷ flat 1 4 2 4 ∷ flat 0 2 1 4 ∷ flat 1 3 1 3 ∷ []) tank 0 false
    ∷ case (flat 0 3 0 2 ∷ flat 1 4 2 4 ∷ flat 0 2 1 4 ∷ flat 1 3 1 3 ∷ []) tank 0 false
    ∷ case (flat 0 3 0 2 ∷ flat 2 4 0 3 ∷ flat 0 2 1 4 ∷ flat 1 3 1 3 ∷ []) tank 0 false
    ∷ case (flat 0 3 0 2 ∷ flat 2 4 0 3 ∷ flat 1 4 2 4 ∷ flat 1 3 1 3 ∷ []) tank 0 false
    ∷ case (flat 0 3 0 2 ∷ flat 2 4 0 3 ∷ flat 1 4 2 4 ∷ flat 0 2 1 4 ∷ []) tank 0 false
    -- one doubled
    ∷ case (flat 0 3 0 2 ∷ pinwheel) tank 0 false
    ∷ case (flat 2 4 0 3 ∷ pinwheel) tank 0 false
    ∷ case (flat 1 4 2 4 ∷ pinwheel) tank 0 false
    ∷ case (flat 0 2 1 4 ∷ pinwheel) tank 0 false
    ∷ case (flat 1 3 1 3 ∷ pinwheel) tank 0 false
    -- one moved by one
    ∷ case (flat 1 4 0 2 ∷ flat 2 4 0 3 ∷ flat 1 4 2 4 ∷ flat 0 2 1 4 ∷ flat 1 3 1 3 ∷ []) tank 0 false
    ∷ case (flat 0 3 0 2 ∷ flat 2 4 1 4 ∷ flat 1 4 2 4 ∷ flat 0 2 1 4 ∷ flat 1 3 1 3 ∷ []) tank 0 false
    ∷ case (flat 0 3 0 2 ∷ flat 2 4 0 3 ∷ flat 0 3 2 4 ∷ flat 0 2 1 4 ∷ flat 1 3 1 3 ∷ []) tank 0 false
    ∷ case (flat 0 3 0 2 ∷ flat 2 4 0 3 ∷ flat 1 4 2 4 ∷ flat 0 2 0 3 ∷ flat 1 3 1 3 ∷ []) tank 0 false
    ∷ case (flat 0 3 0 2 ∷ flat 2 4 0 3 ∷ flat 1 4 2 4 ∷ flat 0 2 1 4 ∷ flat 2 4 1 3 ∷ []) tank 0 false
    -- blocks of one cell own nothing and may lie anywhere, twice
    ∷ case (cell 0 ∷ cell 7 ∷ cell 7 ∷ pinwheel) tank 0 true
    ∷ case [] (cell 5) 0 true
    ∷ case [] tank 0 false
    -- a flag of the whole
    ∷ case (tank ∷ []) tank 0 true
    ∷ case (tank ∷ []) (block 0 0 0 4 4 3 true false false) 0 false
    ∷ case (block 0 0 0 4 4 3 true false false ∷ []) tank 0 false
    -- 2^66 edges on each axis
    ∷ case [] large 0 false
    ∷ case (large ∷ []) large 0 true
    ∷ case (below ∷ above ∷ []) large 0 true
    ∷ case (above ∷ above ∷ []) large 0 false
    -- the refusals
    ∷ case (replicate 201 tank) (block 1 0 0 0 4 3 false false false) 41 false
    ∷ case [] (block 1 0 0 0 4 3 false false false) 42 false
    ∷ case (tank ∷ block 0 0 0 4 16777217 3 false false false ∷ tank ∷ []) tank 42 false
    ∷ case (block 16777216 0 0 16777216 0 0 true true true ∷ []) tank 0 false
    ∷ case (block 16777216 0 0 16777216 0 0 true true true ∷ tank ∷ []) tank 0 true
    ∷ []

test : T (all table)
unfolding plan_answer bad_piece owned_of regions_meet owned_meet region_inside owned_inside size_of same_sum some replicate get_or length
test = tt

-- ---- what an entry says

each : (cs : List Case) → T (all cs) → (i : ℕ) (d : Case) → i < length cs → T (right (get_or cs i d))
each [] t i d h = absurd (not-suc-le-zero h)
each (c ∷ cs) t zero d h = and_l (right c) (all cs) t
each (c ∷ cs) t (suc i) d h = each cs (and_r (right c) (all cs) t) i d (le_of_suc-le-suc h)

-- each case's answer is what the definitions say of its blocks: on a yes they are a plan, and on a no with answer 0 they are none
pub cases : (i : ℕ) (d : Case) → i < length table → Checks (map piece (get_or table i d).blocks) (piece (get_or table i d).whole) (get_or table i d).answer (get_or table i d).holds
cases i d h = go (get_or table i d) (each table test i d h)
  where
    go : (c : Case) → T (right c) → Checks (map piece c.blocks) (piece c.whole) c.answer c.holds
    go c t =
        let n = number c.blocks c.whole in
        let y = says c.blocks c.whole in
        let N = eqb n c.answer in
        subst (λ a. Checks (map piece c.blocks) (piece c.whole) a c.holds) (eqb→eq n c.answer (and_l N (same y c.holds) t))
        (subst (Checks (map piece c.blocks) (piece c.whole) n) (same-is y c.holds (and_r N (same y c.holds) t)) (checked c.blocks c.whole))
