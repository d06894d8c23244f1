-- What the code says of itself: of one axis, what is seen from a point, and the point that comes next. Definitions only. Assumes nothing.
use Rattle.std.specs.Prelude.{ℕ, zero, suc, ◌≤◌, ◌<◌, Bool, true, not, ◌&&◌, ◌||◌, cond, List, [], ◌≡◌, T, ltb, length, get_or, slice_get, All, Option, Some, None, is_some, MatchOption}
use Rattle.std.specs.Option.{option_or, option_and}
use Rattle.lists.specs.Lists.{one, up_to, keep, below}
use Rattle.rules.specs.Grid.{GridPoint, Axis, axis_x, axis_y, axis_z, is_cell}
use Rattle.rules.specs.Cutting.{Piece}
use Rattle.plan.specs.declared.Block.{Block}
use Rattle.plan.specs.declared.region.Span.{Span}
use Rattle.plan.specs.declared.triple.Triple.{Triple}
use Rattle.plan.specs.Triples.{Region}
use Rattle.plan.specs.Plan.{piece, bad_block}
use Rattle.plan.specs.Region.{owned_of, box_of}
use Rattle.plan.specs.Words.{block_of}
use Rattle.witness.specs.declared.axis.Axis.{Axis as Way}
use Rattle.witness.specs.declared.axis.Axis.TheVariants.{X, Y, Z}
use Rattle.witness.specs.declared.look.Seen.{Seen}
use Rattle.witness.specs.declared.search.Wrong.{Wrong}
use Rattle.witness.specs.Witness.{Earlier}

-- no corner lies so far out
abbrev pub far : ℕ
far = 33554432

-- ---- blocks, twelve words each

-- the block number i
abbrev pub block_at : List (List ℕ) → ℕ → Block
block_at blocks i = block_of (get_or blocks i [])

abbrev pub piece_at : List (List ℕ) → ℕ → Piece
piece_at blocks i = piece (block_at blocks i)

-- no more than 200, and none of them, nor the whole, is refused
abbrev pub Good : List (List ℕ) → Block → Type 0
Good blocks whole = (length blocks ≤ 200) × All (λ b. T (not (bad_block (block_of b)))) blocks × T (not (bad_block whole))

-- ---- the edges on an axis

abbrev pub axis_of : Way → Axis
axis_of X = axis_x
axis_of Y = axis_y
axis_of Z = axis_z

unfoldable pub region_of : Axis → Block → Region
region_of axis_x b = (owned_of b).x
region_of axis_y b = (owned_of b).y
region_of axis_z b = (owned_of b).z

abbrev pub blocks_on : Way → List (List ℕ) → ℕ → Region
blocks_on way blocks i = region_of (axis_of way) (block_at blocks i)

-- a point
abbrev pub Place : Type 0
Place = Triple ℕ

abbrev pub placed : Place → GridPoint
placed p = record { x = p.x; y = p.y; z = p.z }

-- the point lies in the region
unfoldable pub inside : Region → GridPoint → Bool
inside r p = is_cell (box_of r) p

-- ---- how far nothing changes

abbrev pub holds_at : Span → ℕ → Bool
holds_at s k = below s.from s.to k

unfoldable pub next_of : Span → ℕ → ℕ
next_of s k = cond (ltb k s.from) s.from (cond (ltb k s.to) s.to far)

unfoldable pub nearer_of : Bool → Span → ℕ → ℕ → ℕ
nearer_of counts s k n = cond (counts && ltb (next_of s k) n) (next_of s k) n

unfoldable pub nearest : Region → Place → Place → Place
nearest r p n =
    record {
      x = nearer_of (holds_at r.y p.y && holds_at r.z p.z) r.x p.x n.x;
      y = nearer_of (holds_at r.z p.z) r.y p.y n.y;
      z = nearer_of true r.z p.z n.z;
    }

-- ---- what is seen from a point

abbrev pub first_look : Region → Place → Seen
first_look w p = record { first = None; second = None; next = nearest w p (record { x = far; y = far; z = far }) }

-- one owner more
abbrev pub counted : Seen → ℕ → Place → Seen
counted l i n = record { first = option_or l.first (Some i); second = option_or l.second (option_and l.first (Some i)); next = n }

abbrev pub passed : Seen → Place → Seen
passed l n = record { first = l.first; second = l.second; next = n }

unfoldable pub looked_of : Seen → ℕ → Region → Place → Seen
looked_of l i r p = cond (inside r (placed p)) (counted l i (nearest r p l.next)) (passed l (nearest r p l.next))

-- past the first n blocks
unfoldable pub look_to : (ℕ → Region) → Seen → Place → ℕ → Seen
look_to rs l p zero = l
look_to rs l p (suc n) = looked_of (look_to rs l p n) n (rs n) p

-- ---- from point to point

unfoldable pub wrong_in : Seen → Region → Place → Bool
wrong_in l w p = cond (inside w (placed p)) (not (is_some l.first) || is_some l.second) (is_some l.first)

abbrev pub more : Place → Bool
more n = ltb n.x far || (ltb n.y far || ltb n.z far)

unfoldable pub goes_on : Seen → Region → Place → Bool
goes_on l w p = not (wrong_in l w p) && more l.next

unfoldable pub moved_to : Place → Place → Place
moved_to n p =
    cond (ltb n.x far) (record { x = n.x; y = p.y; z = p.z })
    (cond (ltb n.y far) (record { x = 0; y = n.y; z = p.z }) (record { x = 0; y = 0; z = n.z }))

-- ---- the search on one axis

module _ (rs : ℕ → Region) (n : ℕ) (w : Region) where
  abbrev pub owners_at : GridPoint → List ℕ
  owners_at p = keep (λ (i : ℕ). inside (rs i) p) (up_to 0 n)

  abbrev pub RightAt : GridPoint → Type 0
  RightAt p = length (owners_at p) ≡ one (inside w p)

abbrev pub Near : Place → Type 0
Near p = (p.x < far) × (p.y < far) × (p.z < far)

-- the first wrong point with its first two owners
pub record WrongAt (rs : ℕ → Region) (n : ℕ) (w : Region) (f : Wrong) : Type 0 where
  pub near : Near f.at
  pub wrong : RightAt rs n w (placed f.at) → ⊥
  pub before : (q : GridPoint) → Earlier q (placed f.at) → RightAt rs n w q
  pub first : f.first ≡ slice_get (owners_at rs n w (placed f.at)) 0
  pub second : f.second ≡ slice_get (owners_at rs n w (placed f.at)) 1

-- that, or none is wrong
abbrev pub Searched : (ℕ → Region) → ℕ → Region → Way → Option Wrong → Type 0
Searched rs n w way r = MatchOption r ((q : GridPoint) → RightAt rs n w q) (λ f. (f.axis ≡ way) × WrongAt rs n w f)
