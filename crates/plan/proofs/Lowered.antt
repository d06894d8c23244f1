-- A block as it lies in memory, by places: C hands blocks over as they lie, and a contract goes by the fields' names, so that two flags exchanged in the struct would leave every
-- contract true. On numbers no two of which are alike, and with each flag set alone. The order is that of include/bed.h. Computed by the kernel. Assumes nothing.
use Prim.Native.Nat.{ℕ}
use mathlib.Core.Bool.{Bool, true, false}
use mathlib.Core.Path.{◌≡◌, refl}
use package.mir.Syntax.{w32}
use package.mir.Val.{Val, Vals, vint, vbool, vstruct, vcons, vnil}
use Rattle.plan.specs.declared.Block.{Block}
use Rattle.plan.proofs.Block.TheLaws.{lowered}

-- the block from (21, 22, 23) to (31, 32, 33)
abbrev named : Bool → Bool → Bool → Block
named x y z =
    record {
      min_x = 21;
      min_y = 22;
      min_z = 23;
      max_x = 31;
      max_y = 32;
      max_z = 33;
      max_plane_x = x;
      max_plane_y = y;
      max_plane_z = z;
    }

-- min x, y, z, max x, y, z, then three flags
abbrev word : ℕ → Vals → Vals
word n vs = vcons (vint w32 n) vs

abbrev placed : Bool → Bool → Bool → Val
placed a b c = vstruct (word 21 (word 22 (word 23 (word 31 (word 32 (word 33 (vcons (vbool a) (vcons (vbool b) (vcons (vbool c) vnil)))))))))

pub first-flag : lowered (named true false false) ≡ placed true false false
first-flag = refl

pub second-flag : lowered (named false true false) ≡ placed false true false
second-flag = refl

pub third-flag : lowered (named false false true) ≡ placed false false true
third-flag = refl
