-- The answer of `is_enclosed` from what its tests found, one after the other, and what they leave of grid and box. Assumes nothing.
use Prim.Native.Nat.{ℕ}
use native.Mathlib.Omega.{arith}
use mathlib.Core.Bool.{Bool, true, false, not, cond}
use mathlib.Core.Path.{◌≡◌, ap}
use Rattle.lists.specs.Lists.{many}
use Rattle.rules.specs.Grid.{Box, Field}
use Rattle.rules.specs.Faces.{Flags, indices}
use Rattle.rules.specs.Call.{bad_dimensions, bad_box, bad_length}
use Rattle.lists.proofs.Tests.{is-test}
use Rattle.grid.specs.declared.Extent.{Extent}
use Rattle.grid.specs.declared.Block.{Block}
use Rattle.grid.specs.Faults.{first_fault}
use Rattle.grid.proofs.Faults.{Faultless, first-answers}
use Rattle.skin.specs.Links.{link, same_link, links}
use Rattle.skin.specs.Enclosed.{enclosed}
use Rattle.skin.specs.Scan.{Tested, stray_box, answers, judged}
use Rattle.skin.proofs.Premise.{skin-closed}
use Rattle.skin.proofs.Scans.{box-is}

-- the box with no max plane, as the code has it
abbrev pub block_of : Extent → Extent → Extent → Block
block_of dims low high = record { dims = dims; low = low; high = high; max_plane = record { x = false; y = false; z = false } }

-- ---- the answer

module _ (g : Field) (b : Box) (size : ℕ) where
  pub judged-fault : (first_fault g.dims b size ≡ 0 → ⊥) → answers (first_fault g.dims b size) false ≡ judged g b size
  unfolding judged
  judged-fault n = first-answers g.dims b size (λ (m : ℕ). answers m false) (answers 0 (enclosed g b)) n

  pub judged-0 : Faultless g.dims b size → {found : Bool} → found ≡ stray_box g b → answers 0 (not found) ≡ judged g b size
  unfolding judged
  judged-0 f q = rw (f.dims, f.box, f.size, q) (ap (answers 0) (box-is g b))

-- ---- what the answer says of the mesh

answered : {n m : ℕ} {x y : Bool} → answers n x ≡ answers m y → (n ≡ m) × (x ≡ y)
answered e = (ap (λ (r : Tested). r.answer) e, ap (λ (r : Tested). r.enclosed) e)

-- answer 0 and yes: no hole, for any flags
pub yes-closed : (g : Field) (b : Box) (size : ℕ) → judged g b size ≡ answers 0 true → (m : Flags) (i j : ℕ)
    → many (same_link (link i j)) (links (indices g b m)) ≡ many (same_link (link j i)) (links (indices g b m))
unfolding judged
yes-closed g b size e m i j = skin-closed g b (is-test (enclosed g b) (go (bad_dimensions g.dims) (bad_box g.dims b) (bad_length g.dims size) e)) m i j
  where
    go : (p q r : Bool) → cond p (answers 1 false) (cond q (answers 2 false) (cond r (answers 3 false) (answers 0 (enclosed g b)))) ≡ answers 0 true → enclosed g b ≡ true
    go true q r e = absurd (omega (arith, (answered e).0))
    go false true r e = absurd (omega (arith, (answered e).0))
    go false false true e = absurd (omega (arith, (answered e).0))
    go false false false e = (answered e).1
