-- `volume::sum::determinant` meets its contract: the products are whole numbers far below 2^63, and so is what they differ by.
-- Assumes nothing.
use Prim.Native.Nat.{ℕ, ◌+◌, ◌^◌, ◌<◌}
use native.Mathlib.Omega.{arith}
use mathlib.Core.Path.{◌≡◌, sym, ap₂, subst, ◌∙◌}
use lib.IntN.{pos, ◌-ℤ◌}
use mir.Syntax.{w64}
use mir.Val.{SFits, to_z}
use mir.Facts.{to_z-of_z, to_z_pos}
use Rattle.volume.specs.Volume.{determinant}
use Rattle.volume.proofs.Bounds.{determinant-most, fits-64}
use Rattle.volume.proofs.sum.determinant.Goals as goal
use Rattle.volume.proofs.sum.determinant.Goals.{After-product-6}

difference : (m n : ℕ) → m < 2 ^ 63 → n < 2 ^ 63 → to_z w64 m -ℤ to_z w64 n ≡ pos m -ℤ pos n
difference m n h k = ap₂ ◌-ℤ◌ (to_z_pos w64 h) (to_z_pos w64 k)

-- what is subtracted, as whole numbers
read : (c : After-product-6) → to_z w64 (c.product.result + c.product-2.result + c.product-3.result)
    -ℤ to_z w64 (c.product-4.result + c.product-5.result + c.product-6.result)
    ≡ determinant c.args.a c.args.b
    c.args.c
unfolding determinant
read c =
    let p = c.product.ensures in
    let q = c.product-2.ensures in
    let r = c.product-3.ensures in
    let s = c.product-4.ensures in
    let t = c.product-5.ensures in
    let u = c.product-6.ensures in
    let f : ℕ = c.product.result + c.product-2.result + c.product-3.result in
    let e : ℕ = c.product-4.result + c.product-5.result + c.product-6.result in
    difference f e (omega (arith, p.upper_bound, q.upper_bound, r.upper_bound)) (omega (arith, s.upper_bound, t.upper_bound, u.upper_bound)) ∙ (λ i. pos (p.value i + q.value i + r.value i) -ℤ pos (s.value i + t.value i + u.value i))

pub returns : goal.returns
returns c =
    let d = determinant c.args.a c.args.b c.args.c in
    let n = c.requires in
    let fits : SFits w64 d = fits-64 d (omega (arith, determinant-most c.args.a c.args.b c.args.c n.near n.near_2 n.near_3)) in
    let e = read (goal.at.returns c).After-product-6 in
    to_z-of_z {w = w64} (subst (SFits w64) (sym e) fits) ∙ e
