-- The areas of the faces, summed over the edges of a box and regrouped: by the squares between neighbouring cells, each with the terms of its four edges, and then by
-- the cells, each with its six squares. Weights of the cells compare with those of their edges as the sums do. Assumes nothing.
use Prim.Native.Nat.{ℕ, ◌+◌, ◌-◌, ◌*◌, ◌≤◌}
use native.Mathlib.Nat.{mul_comm}
use native.Mathlib.Omega.{arith}
use mathlib.Core.List.{List, [], ◌∷◌}
use mathlib.Core.Logic.{◌⊎◌, inl, inr}
use mathlib.Core.Path.{◌≡◌, refl, sym, ap, ap₂, subst, subst₂, ◌∙◌}
use Rattle.lists.proofs.Lists.{all-each, total, total-same, total-plus, total-scaled}
use Rattle.rules.specs.Grid.{GridPoint, Axis, axis_x, axis_y, axis_z, Box, along, step_up, step_down, turned}
use Rattle.rules.specs.Faces.{edge, axis_b, axis_c, cell1, cell2, cell3, cell4, points}
use Rattle.weighed_mesh.specs.Facing.{on_axis}
use Rattle.bounded_mesh.specs.Round.{away, distance, turning, area_round, Placing, InCells, round}
use Rattle.bounded_mesh.proofs.Sums.{zero-times, shifted, total-most}

-- ---- steps up and down

back-down : (n : ℕ) → n + 1 - 1 ≡ n
back-down n = omega arith

pub down-up : (a : Axis) (p : GridPoint) → step_down a (step_up a p) ≡ p
down-up axis_x p = λ i. record { x = back-down p.x i; y = p.y; z = p.z }
down-up axis_y p = λ i. record { x = p.x; y = back-down p.y i; z = p.z }
down-up axis_z p = λ i. record { x = p.x; y = p.y; z = back-down p.z i }

-- a step along an edge leaves the two other axes
pub up-b : (a : Axis) (p : GridPoint) → along (axis_b a) (step_up a p) ≡ along (axis_b a) p
up-b axis_x p = refl
up-b axis_y p = refl
up-b axis_z p = refl

pub up-c : (a : Axis) (p : GridPoint) → along (axis_c a) (step_up a p) ≡ along (axis_c a) p
up-c axis_x p = refl
up-c axis_y p = refl
up-c axis_z p = refl

-- ---- one square

-- the terms of an edge: of v1 and v2, v2 and v4, v4 and v3, v3 and v1
module _ (v : Placing) (a : Axis) (p : GridPoint) where
  abbrev pub side12 : ℕ
  side12 = turning a p (v (cell1 (edge a p))) (v (cell2 (edge a p)))

  abbrev pub side24 : ℕ
  side24 = turning a p (v (cell2 (edge a p))) (v (cell4 (edge a p)))

  abbrev pub side43 : ℕ
  side43 = turning a p (v (cell4 (edge a p))) (v (cell3 (edge a p)))

  abbrev pub side31 : ℕ
  side31 = turning a p (v (cell3 (edge a p))) (v (cell1 (edge a p)))

  -- how far the vertices of the cells above and below the square with this normal axis are from it
  abbrev pub above : ℕ
  above = distance a p (v p)

  abbrev pub below : ℕ
  below = distance a p (v (step_down a p))

-- the two distances of a vertex from the two ends of its cell
two_ends : (n m : ℕ) → (256 * n ≤ m) × (m ≤ 256 * (n + 1)) → away m (256 * n) + away m (256 * (n + 1)) ≡ 256
two_ends n m h = omega (arith, h.0, h.1)

four-edges : (h g t1 t2 u1 u2 s1 s2 r1 r2 : ℕ) → t1 + u1 ≡ 256 → t2 + u2 ≡ 256 → s1 + r1 ≡ 256 → s2 + r2 ≡ 256
    → h * t2 + t1 * g + (g * u1 + u2 * h) + (s2 * h + g * s1) + (r1 * g + h * r2) ≡ 512 * (h + g)
four-edges h g t1 t2 u1 u2 s1 s2 r1 r2 e1 e2 e3 e4 =
    omega (arith, ap (λ (n : ℕ). g * n) e1, ap (λ (n : ℕ). h * n) e2, ap (λ (n : ℕ). g * n) e3, ap (λ (n : ℕ). h * n) e4)

module _ (v : Placing) (w : InCells v) where
  -- a vertex's two distances, from a point and from the next one up
  ends_at : (t : Axis) (c p : GridPoint) → along t c ≡ along t p → along t (step_up t p) ≡ along t p + 1 → distance t p (v c) + distance t (step_up t p) (v c) ≡ 256
  ends_at t c p e f =
      ap (λ (m : ℕ). distance t p (v c) + away (on_axis t (v c)) (256 * m)) f ∙ two_ends (along t p) (on_axis t (v c))
      (subst (λ (m : ℕ). (256 * m ≤ on_axis t (v c)) × (on_axis t (v c) ≤ 256 * (m + 1))) e (w c t))

  edges_at : (n t s : Axis) (p : GridPoint) → along t (step_up t p) ≡ along t p + 1 → along s (step_up s p) ≡ along s p + 1 → along t (step_down n p) ≡ along t p → along s (step_down n p) ≡ along s p
      → above v n p * distance t p (v (step_down n p)) + distance t p (v p) * below v n p
      + (below v n p * distance t (step_up t p) (v p) + distance t (step_up t p) (v (step_down n p)) * above v n p)
      + (distance s p (v (step_down n p)) * above v n p + below v n p * distance s p (v p))
      + (distance s (step_up s p) (v p) * below v n p + above v n p * distance s (step_up s p) (v (step_down n p)))
      ≡ 512 * (above v n p + below v n p)
  edges_at n t s p ft fs et es =
      four-edges (above v n p) (below v n p) (distance t p (v p)) (distance t p (v (step_down n p))) (distance t (step_up t p) (v p)) (distance t (step_up t p) (v (step_down n p)))
      (distance s p (v p)) (distance s p (v (step_down n p))) (distance s (step_up s p) (v p)) (distance s (step_up s p) (v (step_down n p)))
      (ends_at t p p refl ft) (ends_at t (step_down n p) p et ft) (ends_at s p p refl fs) (ends_at s (step_down n p) p es fs)

  -- the four terms of the square at p with the normal axis n, the cell that stands there said as c for two edges and as d for one
  abbrev Says : Axis → GridPoint → GridPoint → GridPoint → Type 0
  Says n p c d =
      side12 v (turned (turned n)) p + turning (turned (turned n)) (step_up (turned n) p) (v (step_down n c)) (v c) + side31 v (turned n) p
      + turning (turned n) (step_up (turned (turned n)) p) (v d) (v (step_down n d))
      ≡ 512 * (above v n p + below v n p)

  -- opposite edges of a square have their terms together from the whole side of the square
  pub square-is : (n : Axis) (p : GridPoint)
      → side12 v (turned (turned n)) p + side43 v (turned (turned n)) (step_up (turned n) p) + side31 v (turned n) p + side24 v (turned n) (step_up (turned (turned n)) p)
      ≡ 512 * (above v n p + below v n p)
  unfolding turning
  square-is axis_x p = subst₂ (Says axis_x p) (sym (down-up axis_y p)) (sym (down-up axis_z p)) (edges_at axis_x axis_y axis_z p refl refl refl refl)
  square-is axis_y p = subst₂ (Says axis_y p) (sym (down-up axis_z p)) (sym (down-up axis_x p)) (edges_at axis_y axis_z axis_x p refl refl refl refl)
  square-is axis_z p = subst₂ (Says axis_z p) (sym (down-up axis_x p)) (sym (down-up axis_y p)) (edges_at axis_z axis_x axis_y p refl refl refl refl)

  up-along : (n : Axis) (p : GridPoint) → along n (step_up n p) ≡ along n p + 1
  up-along axis_x p = refl
  up-along axis_y p = refl
  up-along axis_z p = refl

  -- the two squares of a cell across an axis are 256 steps apart
  pub across : (n : Axis) (p : GridPoint) → above v n p + below v n (step_up n p) ≡ 256
  across n p = ap (λ (c : GridPoint). above v n p + distance n (step_up n p) (v c)) (down-up n p) ∙ ends_at n p p refl (up-along n p)

-- ---- sums over the three axes

abbrev pub axes : (Axis → ℕ) → ℕ
axes f = f axis_x + f axis_y + f axis_z

module _ (b : Box) where
  -- over the axes and the points of the box
  abbrev pub whole : (Axis → GridPoint → ℕ) → ℕ
  whole f = total (λ (p : GridPoint). axes (λ (a : Axis). f a p)) (points b)

  pub by-axes : (f : Axis → GridPoint → ℕ) → whole f ≡ axes (λ (a : Axis). total (f a) (points b))
  by-axes f =
      total-plus (λ (p : GridPoint). f axis_x p + f axis_y p) (f axis_z) (points b)
      ∙ ap (λ (n : ℕ). n + total (f axis_z) (points b)) (total-plus (f axis_x) (f axis_y) (points b))

  three-pairs : (x y z x' y' z' : ℕ) → (x + x') + (y + y') + (z + z') ≡ (x + y + z) + (x' + y' + z')
  three-pairs x y z x' y' z' = omega arith

  pub whole-plus : (f h : Axis → GridPoint → ℕ) → whole (λ (a : Axis) (p : GridPoint). f a p + h a p) ≡ whole f + whole h
  whole-plus f h =
      total-same (all-each (λ (p : GridPoint). three-pairs (f axis_x p) (f axis_y p) (f axis_z p) (h axis_x p) (h axis_y p) (h axis_z p)) (points b))
      ∙ total-plus (λ (p : GridPoint). axes (λ (a : Axis). f a p)) (λ (p : GridPoint). axes (λ (a : Axis). h a p)) (points b)

  three-times : (k x y z : ℕ) → k * x + k * y + k * z ≡ k * (x + y + z)
  three-times k x y z = omega arith

  pub whole_scaled : (k : ℕ) (f : Axis → GridPoint → ℕ) → whole (λ (a : Axis) (p : GridPoint). k * f a p) ≡ k * whole f
  whole_scaled k f =
      total-same (all-each (λ (p : GridPoint). three-times k (f axis_x p) (f axis_y p) (f axis_z p)) (points b)) ∙ total-scaled k (λ (p : GridPoint). axes (λ (a : Axis). f a p)) (points b)

  three-most : (x y z x' y' z' : ℕ) → x ≤ x' → y ≤ y' → z ≤ z' → x + y + z ≤ x' + y' + z'
  three-most x y z x' y' z' h k l = omega arith

  pub whole-most : {f h : Axis → GridPoint → ℕ} → ((a : Axis) (p : GridPoint) → f a p ≤ h a p) → whole f ≤ whole h
  whole-most {f} {h} c =
      total-most (all-each (λ (p : GridPoint). three-most (f axis_x p) (f axis_y p) (f axis_z p) (h axis_x p) (h axis_y p) (h axis_z p) (c axis_x p) (c axis_y p) (c axis_z p)) (points b))

  -- where a number for each axis and point is nothing on the two end planes of an axis
  abbrev pub Ends : (Axis → Axis) → (Axis → GridPoint → ℕ) → Type 0
  Ends t k = (a : Axis) (p : GridPoint) → (along (t a) p ≡ along (t a) b.low) ⊎ (along (t a) p ≡ along (t a) b.high + 1) → k a p ≡ 0

  moved : (k : Axis → GridPoint → ℕ) (t : Axis → Axis) → Ends t k → (f : Axis → GridPoint → ℕ) (a : Axis)
      → total (λ (p : GridPoint). k a p * f a p) (points b) ≡ total (λ (p : GridPoint). k a (step_up (t a) p) * f a (step_up (t a) p)) (points b)
  moved k t e f a =
      shifted b (t a) (λ (p : GridPoint). k a p * f a p) (λ (p : GridPoint) h. zero-times (k a p) (f a p) (e a p (inl h)))
      (λ (p : GridPoint) h. zero-times (k a p) (f a p) (e a p (inr h)))

  pub split-four : (k a b c d : ℕ) → k * (a + b + c + d) ≡ k * a + k * b + k * c + k * d
  split-four k a b c d = omega arith

  in_four : (f1 f2 f3 f4 : GridPoint → ℕ)
      → total (λ (p : GridPoint). f1 p + f2 p + f3 p + f4 p) (points b) ≡ total f1 (points b) + total f2 (points b) + total f3 (points b) + total f4 (points b)
  in_four f1 f2 f3 f4 =
      total-plus (λ (p : GridPoint). f1 p + f2 p + f3 p) f4 (points b) ∙ ap (λ (n : ℕ). n + total f4 (points b))
      (total-plus (λ (p : GridPoint). f1 p + f2 p) f3 (points b) ∙ ap (λ (n : ℕ). n + total f3 (points b)) (total-plus f1 f2 (points b)))

  module _ (v : Placing) (k : Axis → GridPoint → ℕ) (at_b : Ends axis_b k) (at_c : Ends axis_c k) where
    -- an edge axis's four sums, two of them moved
    on-axis : (a : Axis) → total (λ (p : GridPoint). k a p * round v (area_round a p) (edge a p)) (points b)
        ≡ total (λ (p : GridPoint). k a p * side12 v a p) (points b)
        + total (λ (p : GridPoint). k a (step_up (axis_b a) p) * side24 v a (step_up (axis_b a) p)) (points b)
        + total (λ (p : GridPoint). k a (step_up (axis_c a) p) * side43 v a (step_up (axis_c a) p)) (points b)
        + total (λ (p : GridPoint). k a p * side31 v a p) (points b)
    on-axis a =
        total-same (all-each (λ (p : GridPoint). split-four (k a p) (side12 v a p) (side24 v a p) (side43 v a p) (side31 v a p)) (points b))
        ∙ in_four (λ (p : GridPoint). k a p * side12 v a p) (λ (p : GridPoint). k a p * side24 v a p) (λ (p : GridPoint). k a p * side43 v a p) (λ (p : GridPoint). k a p * side31 v a p)
        ∙ ap₂ (λ (m n : ℕ). total (λ (p : GridPoint). k a p * side12 v a p) (points b) + m + n + total (λ (p : GridPoint). k a p * side31 v a p) (points b))
        (moved k axis_b at_b (side24 v) a) (moved k axis_c at_c (side43 v) a)

    -- the four terms of a square, each with its edge's weight
    abbrev pub square_sum : Axis → GridPoint → ℕ
    square_sum n p =
        k (turned (turned n)) p * side12 v (turned (turned n)) p
        + k (turned (turned n)) (step_up (turned n) p) * side43 v (turned (turned n)) (step_up (turned n) p)
        + k (turned n) p * side31 v (turned n) p
        + k (turned n) (step_up (turned (turned n)) p) * side24 v (turned n) (step_up (turned (turned n)) p)

    on-square : (n : Axis) → total (square_sum n) (points b)
        ≡ total (λ (p : GridPoint). k (turned (turned n)) p * side12 v (turned (turned n)) p) (points b)
        + total (λ (p : GridPoint). k (turned (turned n)) (step_up (turned n) p) * side43 v (turned (turned n)) (step_up (turned n) p)) (points b)
        + total (λ (p : GridPoint). k (turned n) p * side31 v (turned n) p) (points b)
        + total (λ (p : GridPoint). k (turned n) (step_up (turned (turned n)) p) * side24 v (turned n) (step_up (turned (turned n)) p)) (points b)
    on-square n =
        in_four (λ (p : GridPoint). k (turned (turned n)) p * side12 v (turned (turned n)) p)
        (λ (p : GridPoint). k (turned (turned n)) (step_up (turned n) p) * side43 v (turned (turned n)) (step_up (turned n) p)) (λ (p : GridPoint). k (turned n) p * side31 v (turned n) p)
        (λ (p : GridPoint). k (turned n) (step_up (turned (turned n)) p) * side24 v (turned n) (step_up (turned (turned n)) p))

    twelve : (a b c d a' b' c' d' a'' b'' c'' d'' : ℕ)
        → (a + b + c + d) + (a' + b' + c' + d') + (a'' + b'' + c'' + d'') ≡ (a'' + c'' + d' + b') + (a + c + d'' + b'') + (a' + c' + d + b)
    twelve a b c d a' b' c' d' a'' b'' c'' d'' = omega arith

    abbrev T12 : Axis → ℕ
    T12 a = total (λ (p : GridPoint). k a p * side12 v a p) (points b)

    abbrev T24 : Axis → ℕ
    T24 a = total (λ (p : GridPoint). k a (step_up (axis_b a) p) * side24 v a (step_up (axis_b a) p)) (points b)

    abbrev T43 : Axis → ℕ
    T43 a = total (λ (p : GridPoint). k a (step_up (axis_c a) p) * side43 v a (step_up (axis_c a) p)) (points b)

    abbrev T31 : Axis → ℕ
    T31 a = total (λ (p : GridPoint). k a p * side31 v a p) (points b)

    -- all edges' areas, by squares
    pub by-squares : whole (λ (a : Axis) (p : GridPoint). k a p * round v (area_round a p) (edge a p)) ≡ whole square_sum
    by-squares =
        by-axes (λ (a : Axis) (p : GridPoint). k a p * round v (area_round a p) (edge a p))
        ∙ (λ i. on-axis axis_x i + on-axis axis_y i + on-axis axis_z i)
        ∙ twelve (T12 axis_x) (T24 axis_x) (T43 axis_x) (T31 axis_x) (T12 axis_y) (T24 axis_y) (T43 axis_y) (T31 axis_y) (T12 axis_z) (T24 axis_z) (T43 axis_z) (T31 axis_z)
        ∙ sym (by-axes square_sum ∙ (λ i. on-square axis_x i + on-square axis_y i + on-square axis_z i))

-- ---- weights that compare

-- at most, or at least
pub record Order (R : ℕ → ℕ → Type 0) : Type 0 where
  pub same : {m n : ℕ} → m ≡ n → R m n
  pub chain : {m n o : ℕ} → R m n → R n o → R m o
  pub plus : {m n m' n' : ℕ} → R m n → R m' n' → R (m + m') (n + n')
  pub times : {m n : ℕ} (k : ℕ) → R m n → R (m * k) (n * k)

module _ {R : ℕ → ℕ → Type 0} (r : Order R) where
  pub totals : {A : Type 0} {f h : A → ℕ} → ((x : A) → R (f x) (h x)) → (l : List A) → R (total f l) (total h l)
  unfolding total
  totals c [] = r.same refl
  totals c (x ∷ l) = r.plus (c x) (totals c l)

  module _ (b : Box) (v : Placing) (w : InCells v) (cell : GridPoint → ℕ) (square line : Axis → GridPoint → ℕ) where
    -- a cell with its squares across each axis, a square with its four edges; and no weight on the end planes
    pub record Weights : Type 0 where
      pub low : (n : Axis) (p : GridPoint) → R (cell p) (square n p)
      pub high : (n : Axis) (p : GridPoint) → R (cell p) (square n (step_up n p))
      pub near : (n : Axis) (p : GridPoint) → R (square n p) (line (turned (turned n)) p)
      pub far : (n : Axis) (p : GridPoint) → R (square n p) (line (turned (turned n)) (step_up (turned n) p))
      pub left : (n : Axis) (p : GridPoint) → R (square n p) (line (turned n) p)
      pub right : (n : Axis) (p : GridPoint) → R (square n p) (line (turned n) (step_up (turned (turned n)) p))
      pub at_b : Ends b axis_b line
      pub at_c : Ends b axis_c line
      pub at_n : Ends b (λ (n : Axis). n) square

    module _ (k : Weights) where
      one-square : (n : Axis) (p : GridPoint) → R (square n p * (512 * (above v n p + below v n p))) (square_sum b v line k.at_b k.at_c n p)
      one-square n p =
          r.chain
          (r.same
          (ap (λ (m : ℕ). square n p * m) (sym (square-is v w n p))
          ∙ split-four b (square n p) (side12 v (turned (turned n)) p) (side43 v (turned (turned n)) (step_up (turned n) p)) (side31 v (turned n) p)
          (side24 v (turned n) (step_up (turned (turned n)) p))))
          (r.plus
          (r.plus
          (r.plus (r.times (side12 v (turned (turned n)) p) (k.near n p)) (r.times (side43 v (turned (turned n)) (step_up (turned n) p)) (k.far n p)))
          (r.times (side31 v (turned n) p) (k.left n p)))
          (r.times (side24 v (turned n) (step_up (turned (turned n)) p)) (k.right n p)))

      two-parts : (k m n : ℕ) → k * (512 * (m + n)) ≡ k * (512 * m) + k * (512 * n)
      two-parts k m n = omega arith

      whole-cell : (c m n : ℕ) → m + n ≡ 256 → c * 131072 ≡ c * (512 * m) + c * (512 * n)
      whole-cell c m n e = omega (arith, ap (λ (n : ℕ). c * (512 * n)) e)

      one_cell : (n : Axis) (p : GridPoint) → R (cell p * 131072) (square n p * (512 * above v n p) + square n (step_up n p) * (512 * below v n (step_up n p)))
      one_cell n p =
          r.chain (r.same (whole-cell (cell p) (above v n p) (below v n (step_up n p)) (across v w n p)))
          (r.plus (r.times (512 * above v n p) (k.low n p)) (r.times (512 * below v n (step_up n p)) (k.high n p)))

      -- the squares across one axis, each half with the cell that it belongs to
      pub by-cells : (n : Axis) → total (λ (p : GridPoint). square n p * (512 * (above v n p + below v n p))) (points b)
          ≡ total (λ (p : GridPoint). square n p * (512 * above v n p) + square n (step_up n p) * (512 * below v n (step_up n p))) (points b)
      by-cells n =
          total-same (all-each (λ (p : GridPoint). two-parts (square n p) (above v n p) (below v n p)) (points b))
          ∙ total-plus (λ (p : GridPoint). square n p * (512 * above v n p)) (λ (p : GridPoint). square n p * (512 * below v n p)) (points b)
          ∙ ap (λ (m : ℕ). total (λ (p : GridPoint). square n p * (512 * above v n p)) (points b) + m)
          (moved b square (λ (a : Axis). a) k.at_n (λ (a : Axis) (p : GridPoint). 512 * below v a p) n)
          ∙ sym (total-plus (λ (p : GridPoint). square n p * (512 * above v n p)) (λ (p : GridPoint). square n (step_up n p) * (512 * below v n (step_up n p))) (points b))

      across-axis : (n : Axis) → R (total (λ (p : GridPoint). cell p * 131072) (points b)) (total (square_sum b v line k.at_b k.at_c n) (points b))
      across-axis n = r.chain (totals (one_cell n) (points b)) (r.chain (r.same (sym (by-cells n))) (totals (one-square n) (points b)))

      scaled : total (λ (p : GridPoint). cell p * 131072) (points b) ≡ 131072 * total cell (points b)
      scaled =
          total-same (all-each (λ (p : GridPoint). mul_comm (cell p) 131072) (points b)) ∙ total-scaled 131072 cell (points b)

      three : (m n : ℕ) → m ≡ 131072 * n → 393216 * n ≡ m + m + m
      three m n e = omega arith

      pub areas-compare : R (393216 * total cell (points b)) (whole b (λ (a : Axis) (p : GridPoint). line a p * round v (area_round a p) (edge a p)))
      areas-compare =
          r.chain (r.same (three (total (λ (p : GridPoint). cell p * 131072) (points b)) (total cell (points b)) scaled))
          (r.chain (r.plus (r.plus (across-axis axis_x) (across-axis axis_y)) (across-axis axis_z))
          (r.same (sym (by-squares b v line k.at_b k.at_c ∙ by-axes b (square_sum b v line k.at_b k.at_c)))))
