-- Document 01, "the rounded position lies within the cell on each axis": for any finite corner values of a surface cell, and cells below 2 ^ 24, each component of the
-- position is from the cell's coordinate up to the next whole number, finite, and never -0.0. Assumes nothing.
use Rattle.std.proofs.Common.{ℕ, ◌+◌, ◌^◌, ◌<◌, T, List, le_of_lt, arith}
use lib.Ieee.{Float, binary32, le}
use Rattle.rounding.specs.Values.{UpTo, Between}
use Rattle.rounding.proofs.Sign.{plain-finite}
use Rattle.rounding.proofs.Whole.{shift, whole_le, le-whole}
use Rattle.rules.specs.Grid.{GridPoint}
use Rattle.rules.specs.Cell.{Vector, ◌⊕◌, float, surface, centroid, position}
use Rattle.cube.proofs.Corners.{Each, Finite, Cell}
use Rattle.cube.proofs.UnitCentroid.{centroid-up}

-- a point whose coordinates are whole numbers that binary32 counts, each with the next one
abbrev pub Counted : GridPoint → Type 0
Counted c = (c.x < 2 ^ 24) × (c.y < 2 ^ 24) × (c.z < 2 ^ 24)

-- a relation between a coordinate and a component, on each axis
abbrev pub OnAxes : (ℕ → Float → Type 0) → GridPoint → Vector → Type 0
OnAxes R c v = R c.x v.x × R c.y v.y × R c.z v.z

on-axes : (R S : ℕ → Float → Type 0) (c : GridPoint) (v : Vector) → Counted c → ((n : ℕ) (x : Float) → n < 2 ^ 24 → R n x → S n x) → OnAxes R c v → OnAxes S c v
on-axes R S c v h f r = (f c.x v.x h.0 r.0, f c.y v.y h.1 r.1, f c.z v.z h.2 r.2)

-- from the coordinate up to the next one, as fractions, with the sign clear
abbrev pub InCell : ℕ → Float → Type 0
InCell n x = Between n (n + 1) x

-- the same by the order of floats
abbrev pub InCellOrder : ℕ → Float → Type 0
InCellOrder n x = T (le (float n) x) × T (le x (float (n + 1)))

component : (n : ℕ) (s : Float) → n < 2 ^ 24 → UpTo 1 s → InCell n (float n ⊕ s)
component n s h u = shift binary32 n s (le_of_lt h) (omega arith) u

pub closed-cell : (d : List Float) (c : GridPoint) → Cell d → T (surface d) → Counted c → OnAxes InCell c (position c (centroid d))
unfolding position
closed-cell d c k s h =
    let u = centroid-up d k s in
    (component c.x (centroid d).x h.0 u.0, component c.y (centroid d).y h.1 u.1, component c.z (centroid d).z h.2 u.2)

pub closed-cell-order : (d : List Float) (c : GridPoint) → Cell d → T (surface d) → Counted c → OnAxes InCellOrder c (position c (centroid d))
closed-cell-order d c k s h = on-axes InCell InCellOrder c (position c (centroid d)) h ordered (closed-cell d c k s h)
  where
    ordered : (n : ℕ) (x : Float) → n < 2 ^ 24 → InCell n x → InCellOrder n x
    ordered n x l r = (whole_le binary32 n x (le_of_lt l) r.0 r.1, le-whole binary32 (n + 1) x (omega arith) r.0 r.2)

pub position-finite : (d : List Float) (c : GridPoint) → Cell d → T (surface d) → Counted c → Each Finite (position c (centroid d))
position-finite d c k s h =
    let r = closed-cell d c k s h in
    let p = position c (centroid d) in
    (plain-finite p.x r.0.0, plain-finite p.y r.1.0, plain-finite p.z r.2.0)
