-- The layer's part of the map: points enter their numbers one after the other, each at its own place, so that after a layer each entry is that of
-- its one point or the old one. From the one point that a place has in its layer. Assumes nothing.
use Prim.Native.Nat.{ℕ, suc, ◌+◌, ◌≤◌, ◌<◌}
use native.Mathlib.Nat.{add-zero, zero-add, mod-add-div, mod-eq_of_lt, div-eq_of_lt, add-mul-mod_self_left, add-mul-div_left}
use native.Mathlib.Omega.{arith}
use mathlib.Core.Bool.{Bool, true, false, ◌&&◌, cond}
use mathlib.Core.List.{List, [], ◌∷◌, ◌++◌}
use mathlib.Core.Path.{◌≡◌, refl, sym, ap, subst, ◌∙◌}
use lib.Dec.{T, eqb}
use lib.Ieee.Bits.{is_true}
use lib.Ieee.Fits.{and_i, and_l, and_r}
use lib.ListN.{length, get_or, set, length-set}
use lib.Seq.{ext_get_or, get_or-set_same, get_or-set_other, set-get_or}
use Rattle.lists.specs.Lists.{one, keep, many, place, placed, below}
use Rattle.rules.specs.Grid.{GridPoint, Box, same_point, is_cell}
use Rattle.rules.specs.Vertices.{layer_cells, null_vertex}
use Rattle.lists.proofs.Tests.{is-test, one_of, below-high, below_in}
use Rattle.lists.proofs.Lists.{All, none, more, all_then, all_both, all-each, length-placed, get_d-placed}
use Rattle.rules.proofs.Counting.{same_point-sound, same_point-itself, is_layer_cell, layer-z, cell-layer, layer_cells-once, layer_cells-all}
use Rattle.rules.proofs.Indexes.{same_point_lem}
use Rattle.grid.specs.Layers.{in_layer}
use Rattle.layer_vertices.specs.Marked.{layer_point}
use Rattle.layer_vertices.specs.Cells.{entered, cleared}

-- ---- one more element that a test may keep

pub kept-length : {A : Type 0} (t : Bool) (c : A) (l : List A) → length (cond t (c ∷ l) l) ≡ one t + length l
kept-length true c l = omega arith
kept-length false c l = omega arith

-- ---- points one after the other

module _ (d : GridPoint) (has : GridPoint → Bool) where
  pub entered-append : (n : ℕ) (s t : List GridPoint) (l : List ℕ) → entered d has n (s ++ t) l ≡ entered d has (n + length (keep has s)) t (entered d has n s l)
  unfolding entered keep
  entered-append n [] t l = ap (λ (m : ℕ). entered d has m t l) (sym (add-zero n))
  entered-append n (c ∷ s) t l =
      let put : List ℕ = set l (in_layer d c) (cond (has c) n null_vertex) in
      let e : n + one (has c) + length (keep has s) ≡ n + length (cond (has c) (c ∷ keep has s) (keep has s)) = omega (arith, kept-length (has c) c (keep has s)) in
      entered-append (n + one (has c)) s t put ∙ ap (λ (m : ℕ). entered d has m t (entered d has (n + one (has c)) s put)) e

  pub entered-length : (n : ℕ) (cs : List GridPoint) (l : List ℕ) → length (entered d has n cs l) ≡ length l
  unfolding entered
  entered-length n [] l = refl
  entered-length n (c ∷ cs) l =
      entered-length (n + one (has c)) cs (set l (in_layer d c) (cond (has c) n null_vertex)) ∙ length-set l (in_layer d c) (cond (has c) n null_vertex)

  -- an entry that is no passed point's
  apart-from : (j n : ℕ) (l : List ℕ) {cs : List GridPoint} → All (λ c. j ≡ in_layer d c → ⊥) cs → get_or (entered d has n cs l) j 0 ≡ get_or l j 0
  unfolding entered
  apart-from j n l none = refl
  apart-from j n l (more {x = c} p q) =
      apart-from j (n + one (has c)) (set l (in_layer d c) (cond (has c) n null_vertex)) q
      ∙ get_or-set_other l (in_layer d c) j (cond (has c) n null_vertex) 0 p

  pub entered-apart : (n : ℕ) (l : List ℕ) {cs : List GridPoint} (j : ℕ) → All (λ c. j ≡ in_layer d c → ⊥) cs → get_or (entered d has n cs l) j 0 ≡ get_or l j 0
  entered-apart n l j a = apart-from j n l a

  -- the number of a list's first point, and that of a later one
  first-number : (p : GridPoint) (l : List GridPoint) (n : ℕ) → cond (has p) n null_vertex ≡ cond (has p) (n + place (same_point p) (keep has (p ∷ l))) null_vertex
  unfolding keep place
  first-number p l n = go (has p)
    where
      rest : List GridPoint
      rest = keep has l

      go : (t : Bool) → cond t n null_vertex ≡ cond t (n + place (same_point p) (cond t (p ∷ rest) rest)) null_vertex
      go true = sym (ap (λ (s : Bool). n + cond s 0 (suc (place (same_point p) rest))) (is_true (same_point p p) (same_point-itself p)) ∙ add-zero n)
      go false = refl

  later-number : (p c : GridPoint) (l : List GridPoint) (n : ℕ) → same_point p c ≡ false
      → n + one (has c) + place (same_point p) (keep has l) ≡ n + place (same_point p) (keep has (c ∷ l))
  unfolding keep place
  later-number p c l n e = go (has c)
    where
      rest : List GridPoint
      rest = keep has l

      past : place (same_point p) (c ∷ rest) ≡ suc (place (same_point p) rest)
      past = ap (λ (s : Bool). cond s 0 (suc (place (same_point p) rest))) e

      go : (t : Bool) → n + one t + place (same_point p) rest ≡ n + place (same_point p) (cond t (c ∷ rest) rest)
      go true = omega (arith, past)
      go false = omega arith

  -- points none of which has a vertex, whatever their numbers would be
  pub entered-none : (n m : ℕ) (l : List ℕ) {cs : List GridPoint} → All (λ c. has c ≡ false) cs → entered d has n cs l ≡ entered d (λ c. false) m cs l
  unfolding entered
  entered-none n m l none = refl
  entered-none n m l (more {x = c} {xs = cs} p q) =
      ap (λ (t : Bool). entered d has (n + one t) cs (set l (in_layer d c) (cond t n null_vertex))) p ∙ entered-none (n + 0) (m + 0) (set l (in_layer d c) null_vertex) q

  -- points none of which has a vertex, nor an entry: nothing changes
  bare-of : (l : List ℕ) (n : ℕ) {cs : List GridPoint} → All (λ c. (has c ≡ false) × (get_or l (in_layer d c) 0 ≡ null_vertex)) cs → entered d has n cs l ≡ l
  unfolding entered
  bare-of l n none = refl
  bare-of l n (more {x = c} {xs = cs} p q) =
      ap (λ (t : Bool). entered d has (n + one t) cs (set l (in_layer d c) (cond t n null_vertex))) p.0
      ∙ ap (λ (v : ℕ). entered d has (n + 0) cs (set l (in_layer d c) v)) (sym p.1)
      ∙ ap (entered d has (n + 0) cs) (set-get_or l (in_layer d c) 0)
      ∙ bare-of l (n + 0) q

  pub entered-bare : (n : ℕ) (l : List ℕ) {cs : List GridPoint} → All (λ c. (has c ≡ false) × (get_or l (in_layer d c) 0 ≡ null_vertex)) cs → entered d has n cs l ≡ l
  entered-bare n l a = bare-of l n a

-- two tests that agree on the points
pub entered-same : (d : GridPoint) {has has' : GridPoint → Bool} (n : ℕ) (l : List ℕ) {cs : List GridPoint} → All (λ c. has c ≡ has' c) cs
    → entered d has n cs l ≡ entered d has' n cs l
unfolding entered
entered-same d n l none = refl
entered-same d {has} {has'} n l (more {x = c} {xs = cs} p q) =
    ap (λ (t : Bool). entered d has (n + one t) cs (set l (in_layer d c) (cond t n null_vertex))) p
    ∙ entered-same d (n + one (has' c)) (set l (in_layer d c) (cond (has' c) n null_vertex)) q

-- they may be cleared in two runs
pub cleared-append : (d : GridPoint) (s t : List GridPoint) (l : List ℕ) → cleared d t (cleared d s l) ≡ cleared d (s ++ t) l
cleared-append d s t l =
    let no : GridPoint → Bool = λ c. false in
    sym (entered-append d no 0 s t l ∙ entered-none d no (0 + length (keep no s)) 0 (entered d no 0 s l) (all-each (λ (c : GridPoint). refl) t))

-- no element of a list that holds none of it
none-same : (p : GridPoint) (cs : List GridPoint) → many (same_point p) cs ≡ 0 → All (λ c. T (same_point p c) → ⊥) cs
unfolding many
none-same p [] e = none
none-same p (c ∷ cs) e = more (λ (t : T (same_point p c)). omega (arith, one_of (same_point p c) t)) (none-same p cs (omega arith))

-- ---- points that stand at places of their own

module _ (d : GridPoint) (has : GridPoint → Bool) (P : GridPoint → Type 0) (told : (p q : GridPoint) → P p → P q → in_layer d p ≡ in_layer d q → p ≡ q) where
  entered-in : (p : GridPoint) → P p → (cs : List GridPoint) → All P cs → many (same_point p) cs ≡ 1 → (n : ℕ) (l : List ℕ) → in_layer d p < length l
      → get_or (entered d has n cs l) (in_layer d p) 0 ≡ cond (has p) (n + place (same_point p) (keep has cs)) null_vertex
  unfolding entered many
  entered-in p pp [] none e n l k = absurd (omega arith)
  entered-in p pp (c ∷ cs) (more pc ps) e n l k = go (same_point p c) refl (entered-in p pp cs ps)
    where
      at : ℕ
      at = in_layer d p

      put : List ℕ
      put = set l (in_layer d c) (cond (has c) n null_vertex)

      here : T (same_point p c) → many (same_point p) cs ≡ 0
          → get_or (entered d has (n + one (has c)) cs put) at 0 ≡ cond (has p) (n + place (same_point p) (keep has (c ∷ cs))) null_vertex
      here s none_left =
          let same : p ≡ c = same_point-sound p c s in
          entered-apart d has (n + one (has c)) put at (all_both apart ps (none-same p cs none_left))
          ∙ ap (λ (q : GridPoint). get_or (set l (in_layer d q) (cond (has q) n null_vertex)) at 0) (sym same)
          ∙ get_or-set_same l at (cond (has p) n null_vertex) 0 k
          ∙ first-number d has p cs n
          ∙ ap (λ (q : GridPoint). cond (has p) (n + place (same_point p) (keep has (q ∷ cs))) null_vertex) same
        where
          apart : (q : GridPoint) → P q → (T (same_point p q) → ⊥) → at ≡ in_layer d q → ⊥
          apart q u v e = v (subst (λ (r : GridPoint). T (same_point p r)) (told p q pp u e) (same_point-itself p))

      go : (s : Bool) → same_point p c ≡ s
          → (many (same_point p) cs ≡ 1 → (n' : ℕ) (l' : List ℕ) → at < length l'
          → get_or (entered d has n' cs l') at 0 ≡ cond (has p) (n' + place (same_point p) (keep has cs)) null_vertex)
          → get_or (entered d has (n + one (has c)) cs put) at 0 ≡ cond (has p) (n + place (same_point p) (keep has (c ∷ cs))) null_vertex
      go true f r = here (is-test (same_point p c) f) (omega (arith, ap one f))
      go false f r =
          r (omega (arith, ap one f)) (n + one (has c)) put (omega (arith, length-set l (in_layer d c) (cond (has c) n null_vertex)))
          ∙ ap (λ (m : ℕ). cond (has p) m null_vertex) (later-number d has p c cs n f)

-- ---- a place and its point

pub place-back : (d : GridPoint) (z : ℕ) (c : GridPoint) → c.x < d.x → c.z ≡ z → layer_point d z (in_layer d c) ≡ c
place-back d z c h e =
    let up : 0 < d.x = omega arith in
    same_point_lem (
      add-mul-mod_self_left c.x d.x c.y ∙ mod-eq_of_lt h,
      add-mul-div_left c.x c.y up ∙ ap (λ (n : ℕ). n + c.y) (div-eq_of_lt h) ∙ zero-add c.y,
      sym e,
    )

pub place-of-point : (d : GridPoint) (z j : ℕ) → in_layer d (layer_point d z j) ≡ j
place-of-point d z j = mod-add-div j d.x

-- ---- after all cells of a layer of a box that is not wider than the dimensions

module _ (d : GridPoint) (b : Box) (wide : b.high.x ≤ d.x) (z : ℕ) (zs : (b.low.z ≤ z) × (z < b.high.z)) where
  -- a cell of the layer is a cell of the box
  cell-of : (c : GridPoint) → T (is_layer_cell b z c) → T (is_cell b c)
  cell-of c t =
      let in_x : Bool = below b.low.x b.high.x c.x in
      let in_y : Bool = below b.low.y b.high.y c.y in
      and_i in_x (in_y && below b.low.z b.high.z c.z) (and_l in_x (in_y && eqb c.z z) t)
      (and_i in_y (below b.low.z b.high.z c.z) (and_l in_y (eqb c.z z) (and_r in_x (in_y && eqb c.z z) t))
      (rw (layer-z b z c t) (below_in b.low.z b.high.z z zs.0 zs.1)))

  width : (c : GridPoint) → T (is_layer_cell b z c) → c.x < d.x
  width c t =
      let in_x : Bool = below b.low.x b.high.x c.x in
      omega (arith, below-high b.low.x b.high.x c.x (and_l in_x (below b.low.y b.high.y c.y && eqb c.z z) t))

  told : (p q : GridPoint) → T (is_layer_cell b z p) → T (is_layer_cell b z q) → in_layer d p ≡ in_layer d q → p ≡ q
  told p q s t e = sym (place-back d z p (width p s) (layer-z b z p s)) ∙ ap (layer_point d z) e ∙ place-back d z q (width q t) (layer-z b z q t)

  -- each one's entry is its number or none, and every other one is kept
  pub entered_at : (has : GridPoint → Bool) (n : ℕ) (l : List ℕ) (j : ℕ) → j < length l
      → get_or (entered d has n (layer_cells b z) l) j 0
      ≡ cond (is_cell b (layer_point d z j)) (cond (has (layer_point d z j)) (n + place (same_point (layer_point d z j)) (keep has (layer_cells b z))) null_vertex) (get_or l j 0)
  entered_at has n l j h = go (is_cell b p) refl
    where
      p : GridPoint
      p = layer_point d z j

      apart : is_cell b p ≡ false → (c : GridPoint) → T (is_layer_cell b z c) → j ≡ in_layer d c → ⊥
      apart e c t k =
          let back : p ≡ c = ap (layer_point d z) k ∙ place-back d z c (width c t) (layer-z b z c t) in
          subst T (ap (is_cell b) (sym back) ∙ e) (cell-of c t)

      go : (t : Bool) → is_cell b p ≡ t
          → get_or (entered d has n (layer_cells b z) l) j 0 ≡ cond t (cond (has p) (n + place (same_point p) (keep has (layer_cells b z))) null_vertex) (get_or l j 0)
      go true e =
          let on : T (is_layer_cell b z p) = cell-layer b p (is-test (is_cell b p) e) in
          let once = layer_cells-once b z p ∙ one_of (is_layer_cell b z p) on in
          ap (λ (k : ℕ). get_or (entered d has n (layer_cells b z) l) k 0) (sym (place-of-point d z j))
          ∙ entered-in d has (λ (c : GridPoint). T (is_layer_cell b z c)) told p on (layer_cells b z) (layer_cells-all b z) once n l (rw (place-of-point d z j) h)
      go false e = entered-apart d has n l j (all_then (apart e) (layer_cells-all b z))

-- a list by each of its entries
pub by_entries : (f : ℕ → ℕ → ℕ) (s l : List ℕ) → length s ≡ length l → ((j : ℕ) → j < length l → get_or s j 0 ≡ f j (get_or l j 0)) → s ≡ placed f 0 l
by_entries f s l e at =
    ext_get_or 0 s (placed f 0 l) (e ∙ sym (length-placed f 0 l))
    (λ j h. at j (rw e at h) ∙ sym (get_d-placed f 0 l j 0 (rw e at h) ∙ ap (λ (k : ℕ). f k (get_or l j 0)) (zero-add j)))
