-- What is looked up of a cell is its vertex: in the layer itself by what stands there once it is marked, in the layer below by what was kept.
-- Assumes nothing.
use Rattle.std.proofs.Common.{◌≡◌, ℕ, zero, suc, ◌+◌, ◌-◌, ◌*◌, ◌<◌, ◌≤◌, Bool, true, false, cond, ◌&&◌, T, List, [], ◌∷◌, ◌++◌, map, length, get_or, take, drop, sym, ap, ◌∙◌, subst, arith, length-append, take-append-drop, take_all, le-ltb, lt-ltb, eq-eqb, ne_eqb}
use lib.Ieee.{Float, nan, lt}
use lib.Ieee.Bits.{is_true}
use lib.Ieee.Fits.{and_i}
use lib.ListN.{length-map, get_or-map}
use Rattle.lists.specs.Lists.{one, many, place}
use Rattle.rules.specs.Grid.{GridPoint, Box, Field, same_point, is_cell, value}
use Rattle.rules.specs.Cell.{Vector, negative, squared_distance}
use Rattle.rules.specs.Vertices.{surface_cell, layer_vertices, vertex_number, vertex_position}
use Rattle.rules.specs.Faces.{Edge, cell1, cell2, cell3, cell4, six}
use Rattle.rules.specs.Call.{flat_vectors}
use Rattle.lists.proofs.Tests.{one_of, one-most}
use Rattle.lists.proofs.Lists.{many-some, place-below, place-passes}
use Rattle.rules.proofs.Counting.{same_point-sound, same_point-itself, is_layer_cell, cell-layer, layer_vertices-once}
use Rattle.rules.proofs.Seen.{ThreeAt, three-over, length-vectors, flat_vectors-at}
use Rattle.grid.specs.Layers.{in_layer}
use Rattle.layer_faces.specs.declared.Firsts.{Firsts}
use Rattle.layer_faces.specs.Below.{nowhere, position_at, Kept, kept_number, number_over, position_over, shorter_over, face_over, Standing}
use Rattle.layer_faces.specs.Quads.{Seen, quad_of, way, own, looked}

-- ---- a list of positions that begins with the vertex `first`

pub position-before : (l : List Float) (first v : ℕ) → v < first → nowhere ≡ position_at l first v
unfolding position_at
position-before l first v h = rw (lt-ltb v first h)

pub position_past : (l : List Float) (first v : ℕ) → first ≤ v → length l < 3 * (v - first) + 3 → nowhere ≡ position_at l first v
unfolding position_at
position_past l first v h k = rw (le-ltb v first h, lt-ltb (length l) (3 * (v - first) + 3) k)

pub position-there : (l : List Float) (first v : ℕ) → first ≤ v → 3 * (v - first) + 3 ≤ length l
    → ◌≡◌ {A = Vector} (record { x = get_or l (3 * (v - first)) nan; y = get_or l (3 * (v - first) + 1) nan; z = get_or l (3 * (v - first) + 2) nan }) (position_at l first v)
unfolding position_at
position-there l first v h k = rw (le-ltb v first h, le-ltb (length l) (3 * (v - first) + 3) k)

-- three numbers that were read there
pub position-read : (l : List Float) (first v place : ℕ) {start : ℕ} {x y z : Float} → start ≡ first → place + start ≡ v → 3 * place + 3 ≤ length l → x ≡ get_or l (3 * place) nan
    → y ≡ get_or l (3 * place + 1) nan → z ≡ get_or l (3 * place + 2) nan → ◌≡◌ {A = Vector} (record { x = x; y = y; z = z }) (position_at l first v)
position-read l first v place e h k ex ey ez =
    let back : place ≡ v - first = omega arith in
    (λ i. record { x = ex i; y = ey i; z = ez i })
    ∙ ap (λ (m : ℕ). record { x = get_or l (3 * m) nan; y = get_or l (3 * m + 1) nan; z = get_or l (3 * m + 2) nan }) back
    ∙ position-there l first v (omega arith) (omega arith)

pub position_in : (l : List Float) (first n : ℕ) (v : Vector) → 3 * n + 3 ≤ length l
    → ThreeAt (λ (q : Vector). q.x) (λ (q : Vector). q.y) (λ (q : Vector). q.z) l n nan v → position_at l first (first + n) ≡ v
position_in l first n v h t =
    let back : first + n - first ≡ n = omega arith in
    sym (position-there l first (first + n) (omega arith) (omega arith))
    ∙ ap (λ (m : ℕ). record { x = get_or l (3 * m) nan; y = get_or l (3 * m + 1) nan; z = get_or l (3 * m + 2) nan }) back
    ∙ (λ i. record { x = t.first i; y = t.second i; z = t.third i })

-- of a list that begins with the positions of a layer's vertices
pub position-among : (g : Field) (b : Box) (first : ℕ) (c : GridPoint) → T (is_cell b c) → T (surface_cell g c) → (l : List Float)
    → take (3 * length (layer_vertices g b c.z)) l ≡ flat_vectors (map (vertex_position g) (layer_vertices g b c.z))
    → position_at l first (vertex_number g b first c) ≡ vertex_position g c
position-among g b first c t s l e = position_in l first n (vertex_position g c) (omega (arith, long, within)) there
  where
    vs : List GridPoint
    vs = layer_vertices g b c.z

    n : ℕ
    n = place (same_point c) vs

    has : 0 < many (same_point c) vs
    has = omega (arith, layer_vertices-once g b c.z c, one_of (is_layer_cell b c.z c && surface_cell g c) (and_i (is_layer_cell b c.z c) (surface_cell g c) (cell-layer b c t) s))

    within : n < length vs
    within = place-below (same_point c) vs has

    is : get_or vs n c ≡ c
    is = sym (same_point-sound c (get_or vs n c) (place-passes (same_point c) vs c has))

    front : List Float
    front = flat_vectors (map (vertex_position g) vs)

    whole : front ++ drop (3 * length vs) l ≡ l
    whole = ap (λ (f : List Float). f ++ drop (3 * length vs) l) (sym e) ∙ take-append-drop (3 * length vs) l

    long : 3 * length vs ≤ length l
    long = omega (arith, ap length whole, length-append front (drop (3 * length vs) l), length-vectors (vertex_position g) vs)

    in-front : ThreeAt (λ (q : Vector). q.x) (λ (q : Vector). q.y) (λ (q : Vector). q.z) front n nan (vertex_position g c)
    in-front = flat_vectors-at (map (vertex_position g) vs) n (vertex_position g c) (rw (length-map vs (vertex_position g)) within)
        (get_or-map (vertex_position g) vs n c ∙ ap (vertex_position g) is)

    there : ThreeAt (λ (q : Vector). q.x) (λ (q : Vector). q.y) (λ (q : Vector). q.z) l n nan (vertex_position g c)
    there =
        subst (λ (f : List Float). ThreeAt (λ (q : Vector). q.x) (λ (q : Vector). q.y) (λ (q : Vector). q.z) f n nan (vertex_position g c)) whole
        (three-over (λ (q : Vector). q.x) (λ (q : Vector). q.y) (λ (q : Vector). q.z) front (drop (3 * length vs) l) n nan (vertex_position g c)
        (omega (arith, length-vectors (vertex_position g) vs, within)) in-front)

-- of the positions of a layer's vertices
pub position-of : (g : Field) (b : Box) (first : ℕ) (c : GridPoint) → T (is_cell b c) → T (surface_cell g c)
    → position_at (flat_vectors (map (vertex_position g) (layer_vertices g b c.z))) first (vertex_number g b first c) ≡ vertex_position g c
position-of g b first c t s =
    let vs = layer_vertices g b c.z in
    let all = flat_vectors (map (vertex_position g) vs) in
    position-among g b first c t s all (take_all (3 * length vs) all (omega (arith, length-vectors (vertex_position g) vs)))

-- ---- the number of the vertex v

-- an element that a list holds once stands at its own place
own-place : {A : Type 0} (f : A → Bool) (d : A) (l : List A) (v : ℕ) → v < length l → T (f (get_or l v d)) → many f l < 2 → place f l ≡ v
unfolding place many
own-place f d [] v h t k = absurd (omega arith)
own-place f d (x ∷ xs) zero h t k = ap (λ (y : Bool). cond y 0 (suc (place f xs))) (is_true (f x) t)
own-place f d (x ∷ xs) (suc v) h t k = go (f x) k (own-place f d xs v (omega arith) t)
  where
    go : (y : Bool) → one y + many f xs < 2 → (many f xs < 2 → place f xs ≡ v) → cond y 0 (suc (place f xs)) ≡ suc v
    go true k r = absurd (omega (arith, many-some f xs v d (omega arith) t))
    go false k r = ap suc (r (omega arith))

pub own-number : (g : Field) (b : Box) (z v : ℕ) (c : GridPoint) → v < length (layer_vertices g b z) → c ≡ get_or (layer_vertices g b z) v c
    → place (same_point c) (layer_vertices g b z) ≡ v
own-number g b z v c k is =
    own-place (same_point c) c (layer_vertices g b z) v k (subst (λ (p : GridPoint). T (same_point c p)) is (same_point-itself c))
    (omega (arith, layer_vertices-once g b z c, one-most (is_layer_cell b z c && surface_cell g c)))

-- ---- a looked-up vertex is that of a cell

pub record Names (g : Field) (b : Box) (first z : ℕ) (below : Kept) (v : Seen) (c : GridPoint) : Type 0 where
  pub number : v.number ≡ number_over g b first z below c
  pub position : v.position ≡ position_over g z below c

-- what is known of the layer below
abbrev pub kept_of : Firsts → List ℕ → List Float → Kept
kept_of first under kept = record { map = under; positions = kept; first = first.below }

module _ (g : Field) (b : Box) (z : ℕ) (first : Firsts) (mp : List ℕ) (ps : List Float) (under : List ℕ) (kept : List Float) where
  abbrev rest : Kept
  rest = kept_of first under kept

  -- a cell of the layer by what the rules say of it
  by-rules : (v : Seen) (c : GridPoint) → c.z ≡ z → v.number ≡ vertex_number g b first.here c → v.position ≡ vertex_position g c → Names g b first.here z rest v c
  by-rules v c e n p =
      record {
        number = n ∙ sym (ap (λ (y : Bool). cond y (vertex_number g b first.here c) (kept_number g.dims rest c)) (eq-eqb c.z z e));
        position = p ∙ sym (ap (λ (y : Bool). cond y (vertex_position g c) (position_at kept first.below (kept_number g.dims rest c))) (eq-eqb c.z z e));
      }

  -- a cell of the layer below
  pub names-below : (c : GridPoint) → (c.z ≡ z → ⊥) → (cell back : ℕ) → cell - back ≡ in_layer g.dims c → Names g b first.here z
      (kept_of first under kept) (looked first mp ps under kept cell (way false back)) c
  names-below c e cell back ea =
      let number : get_or under (cell - back) 0 ≡ kept_number g.dims rest c = ap (λ (j : ℕ). get_or under j 0) ea in
      record {
        number = number ∙ sym (ap (λ (y : Bool). cond y (vertex_number g b first.here c) (kept_number g.dims rest c)) (ne_eqb c.z z e));
        position =
            ap (position_at kept first.below) number
            ∙ sym (ap (λ (y : Bool). cond y (vertex_position g c) (position_at kept first.below (kept_number g.dims rest c))) (ne_eqb c.z z e));
      }

  module _ (cs : List ℕ) (h : Standing g b first.here z cs mp ps) where
    -- a cell of the layer
    pub names-here : (c : GridPoint) → T (is_cell b c) → T (surface_cell g c) → c.z ≡ z → (cell back : ℕ) → cell - back ≡ in_layer g.dims c → Names g b first.here z
        (kept_of first under kept) (looked first mp ps under kept cell (way true back)) c
    names-here c t on e cell back ea =
        by-rules (looked first mp ps under kept cell (way true back)) c e number
        (ap (position_at ps first.here) number
        ∙ ap (λ (l : List Float). position_at l first.here (vertex_number g b first.here c))
        (h.positions ∙ ap (λ (y : ℕ). flat_vectors (map (vertex_position g) (layer_vertices g b y))) (sym e))
        ∙ position-of g b first.here c t on)
      where
        number : get_or mp (cell - back) 0 ≡ vertex_number g b first.here c
        number = ap (λ (j : ℕ). get_or mp j 0) ea ∙ h.numbers c t e on

    -- the cell of the vertex v, by v alone
    pub names-own : (v : ℕ) (c : GridPoint) → v < length (layer_vertices g b z) → c ≡ get_or (layer_vertices g b z) v c → c.z ≡ z → Names g b first.here z (kept_of first under kept)
        (own first.here ps v) c
    names-own v c k is e =
        by-rules (own first.here ps v) c e
        (ap (λ (n : ℕ). first.here + n) (sym (own-number g b z v c k is) ∙ ap (λ (y : ℕ). place (same_point c) (layer_vertices g b y)) (sym e)))
        (ap (λ (l : List Float). record { x = get_or l (3 * v) nan; y = get_or l (3 * v + 1) nan; z = get_or l (3 * v + 2) nan }) h.positions
        ∙ (λ i. record { x = there.first i; y = there.second i; z = there.third i }))
      where
        vs : List GridPoint
        vs = layer_vertices g b z

        there : ThreeAt (λ (q : Vector). q.x) (λ (q : Vector). q.y) (λ (q : Vector). q.z) (flat_vectors (map (vertex_position g) vs)) v nan (vertex_position g c)
        there = flat_vectors-at (map (vertex_position g) vs) v (vertex_position g c) (rw (length-map vs (vertex_position g)) k)
            (get_or-map (vertex_position g) vs v c ∙ ap (vertex_position g) (sym is))

-- ---- the six numbers of a face

pub quad_is : (g : Field) (b : Box) (first z : ℕ) (below : Kept) (e : Edge) (v1 v2 v3 v4 : Seen) {n : Bool} → n ≡ negative (value g e.from)
    → Names g b first z below v1 (cell1 e) → Names g b first z below v2 (cell2 e) → Names g b first z below v3 (cell3 e) → Names g b first z below v4 (cell4 e)
    → quad_of n v1 v2 v3 v4 ≡ face_over g b first z below e
unfolding quad_of face_over shorter_over
quad_is g b first z below e v1 v2 v3 v4 sign h1 h2 h3 h4 =
    λ i.
    six (lt (squared_distance (h1.position i) (h4.position i)) (squared_distance (h2.position i) (h3.position i))) (sign i)
    (h1.number i) (h2.number i) (h3.number i) (h4.number i)
