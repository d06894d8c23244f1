-- Two outcomes that fit a public function's contract are equal: for each, over the contract itself (OneResult). Assumes nothing.
use Rattle.std.proofs.Common.{◌≡◌, sym, refl, ap, ◌∙◌}
use Rattle.std.specs.Prelude.{Option, Some, None}
use mathlib.Core.Option.{Option as Maybe, none, some}
use lib.Ieee.{Float}
use Rattle.rules.specs.Cell.{Vector}
use Rattle.cube.specs.AsRules.{vector, fraction_of}
use Rattle.cube.specs.declared.point.Point.{Point}
use Rattle.cube.specs.declared.centroid.Crossings.{Crossings}
use Rattle.cube.specs.declared.centroid.Average.{Average}
use Rattle.cube.proofs.OneResult.{OneResult}
use Rattle.cube.proofs.point.PointAdd.add.Kinds as add-kinds
use Rattle.cube.proofs.point.PointAdd.add.Reads as add
use Rattle.cube.proofs.point.PointSub.sub.Kinds as sub-kinds
use Rattle.cube.proofs.point.PointSub.sub.Reads as sub
use Rattle.cube.proofs.point.F32MulPoint.mul.Kinds as scale-kinds
use Rattle.cube.proofs.point.F32MulPoint.mul.Reads as scale
use Rattle.cube.proofs.point.PointDivF32.div.Kinds as divide-kinds
use Rattle.cube.proofs.point.PointDivF32.div.Reads as divide
use Rattle.cube.proofs.point.Point.squared_distance.Kinds as squared-distance-kinds
use Rattle.cube.proofs.point.Point.squared_distance.Reads as squared-distance
use Rattle.cube.proofs.point.position_in.Kinds as position-in-kinds
use Rattle.cube.proofs.point.position_in.Reads as position_in
use Rattle.cube.proofs.crossing.negative.Kinds as negative-kinds
use Rattle.cube.proofs.crossing.negative.Reads as negative
use Rattle.cube.proofs.crossing.estimate_surface_edge_intersection.Kinds as estimate-surface-edge-intersection-kinds
use Rattle.cube.proofs.crossing.estimate_surface_edge_intersection.Reads as estimate-surface-edge-intersection
use Rattle.cube.proofs.centroid.sum_of_edge_intersections.Kinds as sum-of-edge-intersections-kinds
use Rattle.cube.proofs.centroid.sum_of_edge_intersections.Reads as sum-of-edge-intersections
use Rattle.cube.proofs.centroid.centroid_of_edge_intersections.Kinds as centroid-of-edge-intersections-kinds
use Rattle.cube.proofs.centroid.centroid_of_edge_intersections.Reads as centroid-of-edge-intersections
use Rattle.cube.proofs.gradient.sdf_gradient.Kinds as sdf-gradient-kinds
use Rattle.cube.proofs.gradient.sdf_gradient.Reads as sdf-gradient
use Rattle.cube.proofs.classing.negative_corners.Kinds as negative-corners-kinds
use Rattle.cube.proofs.classing.negative_corners.Reads as negative-corners
use Rattle.cube.proofs.classing.is_surface.Kinds as is-surface-kinds
use Rattle.cube.proofs.classing.is_surface.Reads as is-surface

-- ---- a point is its vector

abbrev point : Vector → Point
point v = record { x = v.x; y = v.y; z = v.z }

pub vector-injective : {p q : Point} → vector p ≡ vector q → p ≡ q
vector-injective e = ap point e

-- two points that have one vector
same-vector : {p q : Point} {v : Vector} → vector p ≡ v → vector q ≡ v → p ≡ q
same-vector l l' = vector-injective (l ∙ sym l')

same-crossings : {c c' : Crossings} → c.sum ≡ c'.sum → c.count ≡ c'.count → c ≡ c'
same-crossings p q = λ i. record { sum = p i; count = q i }

same-average : {a a' : Average} → a.point ≡ a'.point → a.crossings ≡ a'.crossings → a ≡ a'
same-average p q = λ i. record { point = p i; crossings = q i }

-- ---- an edge's answer is its fraction, or none

abbrev with_fraction : Maybe Float → Option Float
with_fraction none = None
with_fraction (some f) = Some f

back : (c : Option Float) → with_fraction (fraction_of c) ≡ c
back None = refl
back (Some f) = refl

pub fraction-injective : (c c' : Option Float) → fraction_of c ≡ fraction_of c' → c ≡ c'
fraction-injective c c' e = sym (back c) ∙ (ap with_fraction e ∙ back c')

-- ---- the functions

pub add_once : OneResult 0 add-kinds.ps add-kinds.r add.Learnt
add_once κs a z z' e e' l l' = same-vector l l'

pub sub_once : OneResult 0 sub-kinds.ps sub-kinds.r sub.Learnt
sub_once κs a z z' e e' l l' = same-vector l l'

pub scale-once : OneResult 0 scale-kinds.ps scale-kinds.r scale.Learnt
scale-once κs a z z' e e' l l' = same-vector l l'

pub divide-once : OneResult 0 divide-kinds.ps divide-kinds.r divide.Learnt
divide-once κs a z z' e e' l l' = same-vector l l'

pub squared-distance-once : OneResult 0 squared-distance-kinds.ps squared-distance-kinds.r squared-distance.Learnt
squared-distance-once κs a z z' e e' l l' = l ∙ sym l'

pub position-in-once : OneResult 0 position-in-kinds.ps position-in-kinds.r position_in.Learnt
position-in-once κs a z z' e e' l l' = same-vector l l'

pub negative-once : OneResult 0 negative-kinds.ps negative-kinds.r negative.Learnt
negative-once κs a z z' e e' l l' = l ∙ sym l'

pub estimate-surface-edge-intersection-once : OneResult 0 estimate-surface-edge-intersection-kinds.ps estimate-surface-edge-intersection-kinds.r
    estimate-surface-edge-intersection.Learnt
estimate-surface-edge-intersection-once κs a z z' e e' l l' = fraction-injective z z' (l ∙ sym l')

pub sum-of-edge-intersections-once : OneResult 1 sum-of-edge-intersections-kinds.ps sum-of-edge-intersections-kinds.r sum-of-edge-intersections.Learnt
sum-of-edge-intersections-once κs a z z' e e' l l' = same-crossings (same-vector l.0 l'.0) (l.1 ∙ sym l'.1)

pub centroid-of-edge-intersections-once : OneResult 1 centroid-of-edge-intersections-kinds.ps centroid-of-edge-intersections-kinds.r centroid-of-edge-intersections.Learnt
centroid-of-edge-intersections-once κs a z z' e e' l l' = same-average (same-vector l.0 l'.0) (l.1 ∙ sym l'.1)

pub sdf-gradient-once : OneResult 1 sdf-gradient-kinds.ps sdf-gradient-kinds.r sdf-gradient.Learnt
sdf-gradient-once κs a z z' e e' l l' = same-vector l l'

pub negative-corners-once : OneResult 0 negative-corners-kinds.ps negative-corners-kinds.r negative-corners.Learnt
negative-corners-once κs a z z' e e' l l' = l ∙ sym l'

pub is-surface-once : OneResult 1 is-surface-kinds.ps is-surface-kinds.r is-surface.Learnt
is-surface-once κs a z z' e e' l l' = l ∙ sym l'
