-- Plans that are none, and one that is, which the kernel computes: from the first point on, step by step, to the first wrong edge. What is wanted was found by counting every
-- edge of the tank and one step beyond it, by a program that takes nothing from here. Assumes nothing.
use Prim.Native.Nat.{ℕ, zero, suc, ◌<◌}
use native.Mathlib.Omega.{arith}
use mathlib.Core.Bool.{Bool, true, false, not, cond}
use mathlib.Core.List.{List, [], ◌∷◌, ◌++◌, map}
use Rattle.plan.specs.declared.Block.{Block}
use mathlib.Core.Path.{◌≡◌, refl}
use lib.Dec.{T}
use Rattle.lists.specs.Lists.{up_to, run, keep}
use Rattle.rules.specs.Grid.{axis_x, axis_y, axis_z}
use Rattle.rules.specs.Faces.{Edge, edge, owned}
use Rattle.rules.specs.Cutting.{Plan}
use Rattle.plan.specs.Triples.{Region}
use Rattle.plan.specs.Plan.{bad_piece, bad_block}
use Rattle.plan.specs.Region.{owned_of}
use Rattle.std.specs.Prelude.{Option, Some, None}
use Rattle.witness.specs.declared.axis.Axis.{Axis as Way}
use Rattle.witness.specs.declared.axis.Axis.TheVariants.{X, Y, Z}
use Rattle.witness.specs.declared.look.Seen.{Seen}
use Rattle.witness.specs.declared.search.Wrong.{Wrong}
use Rattle.witness.specs.Witness.{block_in, piece_in, owners, FirstWrong, edge_words}
use Rattle.witness.specs.Steps.{Place, Near, axis_of, region_of, inside, next_of, nearer_of, nearest, first_look, looked_of, look_to, wrong_in, goes_on, moved_to, Searched}
use Rattle.witness.proofs.Walk.{Bounded, BeforeRight, start_right, step, ended}
use Rattle.witness.proofs.Refusals.{good-bounded}
use Rattle.witness.proofs.Named.{named-x, named-y, named-z}
use Rattle.witness.proofs.Instances.{tank, words, plan, wrong}

-- ---- a search, step by step

abbrev seen_from : (ℕ → Region) → ℕ → Region → Place → Seen
seen_from rs n w p = look_to rs (first_look w p) p n

-- the place after k steps, or after fewer where the search ends before
unfoldable pub after : (ℕ → Region) → ℕ → Region → ℕ → Place
after rs n w zero = record { x = 0; y = 0; z = 0 }
after rs n w (suc k) = let p = after rs n w k in cond (goes_on (seen_from rs n w p) w p) (moved_to (seen_from rs n w p).next p) p

abbrev pub found_after : (ℕ → Region) → ℕ → Region → Way → ℕ → Option Wrong
found_after rs n w way k =
    let p = after rs n w k in
    cond (wrong_in (seen_from rs n w p) w p) (Some (record { axis = way; at = p; first = (seen_from rs n w p).first; second = (seen_from rs n w p).second })) None

module _ (rs : ℕ → Region) (n : ℕ) (w : Region) (bounds : (i : ℕ) → i < n → Bounded (rs i)) (bound : Bounded w) where
  kept : (k : ℕ) → Near (after rs n w k) × BeforeRight rs n w (after rs n w k)
  unfolding after
  kept zero = ((omega arith, omega arith, omega arith), start_right rs n w)
  kept (suc k) = go (goes_on (seen_from rs n w p) w p) refl (kept k)
    where
      p : Place
      p = after rs n w k

      go : (t : Bool) → goes_on (seen_from rs n w p) w p ≡ t → Near p × BeforeRight rs n w p
          → Near (cond t (moved_to (seen_from rs n w p).next p) p) × BeforeRight rs n w (cond t (moved_to (seen_from rs n w p).next p) p)
      go true e h = let s = step rs n w bounds bound p (moved_to (seen_from rs n w p).next p) (seen_from rs n w p) refl refl e h.0 h.1 in (s.0, s.1)
      go false e h = h

  pub searched : (way : Way) (k : ℕ) → goes_on (seen_from rs n w (after rs n w k)) w (after rs n w k) ≡ false → Searched rs n w way (found_after rs n w way k)
  searched way k e =
      let p = after rs n w k in
      ended rs n w bounds bound p (kept k).1 (kept k).0 way (seen_from rs n w p) (wrong_in (seen_from rs n w p) w p) refl refl e

-- ---- four blocks in the tank

abbrev on : List ℕ → Way → ℕ → Region
on ws way i = region_of (axis_of way) (block_in ws i)

abbrev whole : Way → Region
whole way = region_of (axis_of way) (block_in tank 0)

four : (P : ℕ → Type 0) → P 0 → P 1 → P 2 → P 3 → (i : ℕ) → i < 4 → P i
four P a b c d zero h = a
four P a b c d (suc zero) h = b
four P a b c d (suc (suc zero)) h = c
four P a b c d (suc (suc (suc zero))) h = d
four P a b c d (suc (suc (suc (suc i)))) h = absurd (omega arith)

-- none of the four is refused, nor the tank
abbrev Fine : List ℕ → Type 0
Fine ws = T (not (bad_block (block_in ws 0))) × T (not (bad_block (block_in ws 1))) × T (not (bad_block (block_in ws 2))) × T (not (bad_block (block_in ws 3)))

tank-fine : T (not (bad_block (block_in tank 0)))
unfolding bad_piece
tank-fine = tt

abbrev found : List ℕ → Way → ℕ → Option Wrong
found ws way k = found_after (on ws way) 4 (whole way) way k

abbrev place : List ℕ → Way → ℕ → Place
place ws way k = after (on ws way) 4 (whole way) k

abbrev stops : List ℕ → Way → ℕ → Bool
stops ws way k = goes_on (seen_from (on ws way) 4 (whole way) (place ws way k)) (whole way) (place ws way k)

search-of : (ws : List ℕ) → Fine ws → (way : Way) (k : ℕ) → stops ws way k ≡ false → Searched (on ws way) 4 (whole way) way (found ws way k)
search-of ws h way k e =
    searched (on ws way) 4 (whole way)
    (four (λ (i : ℕ). Bounded (on ws way i)) (good-bounded (axis_of way) (block_in ws 0) h.0) (good-bounded (axis_of way) (block_in ws 1) h.1)
    (good-bounded (axis_of way) (block_in ws 2) h.2) (good-bounded (axis_of way) (block_in ws 3) h.3))
    (good-bounded (axis_of way) (block_in tank 0) tank-fine) way k e

abbrev blocks : List ℕ → ℕ → Block
blocks ws i = block_in ws i

abbrev First : List ℕ → Edge → List ℕ → Type 0
First ws e told = FirstWrong (piece_in ws) 4 (piece_in tank 0) e × (edge_words e (owners (piece_in ws) 4 (piece_in tank 0) e) ≡ told)

-- the lower piece's max plane left on, and the upper ending out of the tank: the x edge from (2, 1, 1) has the owners 1 and 2
pub doubled-first : First wrong (edge axis_x (record { x = 2; y = 1; z = 1 })) (0 ∷ 2 ∷ 1 ∷ 1 ∷ 1 ∷ 2 ∷ [])
unfolding after bad_piece owned_of region_of inside next_of nearer_of nearest looked_of look_to wrong_in goes_on moved_to owned keep up_to run
doubled-first = ((named-x (blocks wrong) 4 (block_in tank 0) _ (search-of wrong (tt, tt, tt, tt) X 8 refl)).wrong, refl)

-- the upper alone ends out of the tank: the x edge from (2, 2, 3) has the owner 3, and the tank does not own it
abbrev high : List ℕ
high = words 5 3 1 6 4 2 0 0 0 ++ (words 0 0 0 3 4 3 0 0 9 ++ (words 2 0 0 6 2 3 0 0 1 ++ words 2 1 0 6 4 4 0 0 1))

pub outside-first : First high (edge axis_x (record { x = 2; y = 2; z = 3 })) (0 ∷ 2 ∷ 2 ∷ 3 ∷ 3 ∷ 4294967295 ∷ [])
unfolding after bad_piece owned_of region_of inside next_of nearer_of nearest looked_of look_to wrong_in goes_on moved_to owned keep up_to run
outside-first = ((named-x (blocks high) 4 (block_in tank 0) _ (search-of high (tt, tt, tt, tt) X 40 refl)).wrong, refl)

-- a max plane of y too many: every x edge is right, and the y edge from (3, 3, 1) has the owner 3, and the tank does not own it
abbrev walled : List ℕ
walled = words 5 3 1 6 4 2 0 0 0 ++ (words 0 0 0 3 4 3 0 0 9 ++ (words 2 0 0 6 2 3 0 0 1 ++ words 2 1 0 6 4 3 0 1 1))

pub walled-first : First walled (edge axis_y (record { x = 3; y = 3; z = 1 })) (1 ∷ 3 ∷ 3 ∷ 1 ∷ 3 ∷ 4294967295 ∷ [])
unfolding after bad_piece owned_of region_of inside next_of nearer_of nearest looked_of look_to wrong_in goes_on moved_to owned keep up_to run
walled-first = (
  (named-y (blocks walled) 4 (block_in tank 0) _ (search-of walled (tt, tt, tt, tt) X 40 refl) (search-of walled (tt, tt, tt, tt) Y 40 refl)).wrong,
  refl,
)

-- a max plane of z too few: every x and every y edge is right, and the z edge from (3, 2, 2) has no owner, and the tank owns it
abbrev bare : List ℕ
bare = words 5 3 1 6 4 2 0 0 0 ++ (words 0 0 0 3 4 3 0 0 9 ++ (words 2 0 0 6 2 3 0 0 1 ++ words 2 1 0 6 4 3 0 0 0))

pub bare-first : First bare (edge axis_z (record { x = 3; y = 2; z = 2 })) (2 ∷ 3 ∷ 2 ∷ 2 ∷ 4294967295 ∷ 4294967295 ∷ [])
unfolding after bad_piece owned_of region_of inside next_of nearer_of nearest looked_of look_to wrong_in goes_on moved_to owned keep up_to run
bare-first = (
  (named-z (blocks bare) 4 (block_in tank 0) (found bare Z 40) (search-of bare (tt, tt, tt, tt) X 40 refl) (search-of bare (tt, tt, tt, tt) Y 40 refl)
      (search-of bare (tt, tt, tt, tt) Z 40 refl)).wrong,
  refl,
)

-- and the plan is one
pub tank-planned : Plan (map (piece_in plan) (up_to 0 4)) (piece_in tank 0)
unfolding after bad_piece owned_of region_of inside next_of nearer_of nearest looked_of look_to wrong_in goes_on moved_to
tank-planned =
    named-z (blocks plan) 4 (block_in tank 0) (found plan Z 40) (search-of plan (tt, tt, tt, tt) X 40 refl) (search-of plan (tt, tt, tt, tt) Y 40 refl)
    (search-of plan (tt, tt, tt, tt) Z 40 refl)
