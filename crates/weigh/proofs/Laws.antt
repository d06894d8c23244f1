-- Laws of the sums: every triangle turned round negates them; one list after the other, and any number of parts, add up; neither the order of the triangles
-- nor a turn of a triangle's corners in place matters. The same for the sum and for the shadow. Assumes nothing.
use Rattle.std.proofs.Common.{◌≡◌, ℕ, ◌*◌, ◌%◌, List, [], ◌∷◌, ◌++◌, length, ℤ, pos, ◌+ℤ◌, ◌-ℤ◌, neg_ℤ, sym, refl, ap, ◌∙◌, ap₂, arith}
use lib.IntN.{+ℤ_assoc, +ℤ_comm, +ℤ_idl, neg_ℤ-+ℤ}
use Rattle.lists.specs.Lists.{joined}
use Rattle.lists.proofs.Lists.{All, none, more}
use Rattle.lists.proofs.Permutation.{Perm, nil, skip, swap, trans}
use Rattle.volume.specs.declared.Corner.{Corner}
use Rattle.volume.specs.Triangles.{turned_round, Rolled, same, kept, rolled, Triangle, triangles}
use Rattle.volume.proofs.Whole.{neg-minus}
use Rattle.weigh.specs.Sums.{shadow_of, pillar_of, sum_of}
use Rattle.weigh.proofs.Terms.{forth, back, height, shadow-parts, pillar-parts}

-- ---- one triangle

-- a term that turns about with the triangle, and stays when its corners are turned in place
abbrev pub Turns : (Corner → Corner → Corner → ℤ) → Type 0
Turns f = (a b c : Corner) → f a c b ≡ neg_ℤ (f a b c)

abbrev pub Rolls : (Corner → Corner → Corner → ℤ) → Type 0
Rolls f = (a b c : Corner) → f a b c ≡ f b c a

pub shadow-turns : Turns shadow_of
shadow-turns a b c =
    let u : forth a c b ≡ back a b c = omega arith in
    let v : back a c b ≡ forth a b c = omega arith in
    shadow-parts a c b
    ∙ ap₂ (λ (m n : ℕ). pos m -ℤ pos n) u v
    ∙ neg-minus (pos (forth a b c)) (pos (back a b c))
    ∙ ap neg_ℤ (sym (shadow-parts a b c))

pub shadow-rolls : Rolls shadow_of
shadow-rolls a b c =
    let u : forth a b c ≡ forth b c a = omega arith in
    let v : back a b c ≡ back b c a = omega arith in
    shadow-parts a b c ∙ ap₂ (λ (m n : ℕ). pos m -ℤ pos n) u v ∙ sym (shadow-parts b c a)

pub pillar-turns : Turns pillar_of
pillar-turns a b c =
    let h : height a c b ≡ height a b c = omega arith in
    let u : forth a c b ≡ back a b c = omega arith in
    let v : back a c b ≡ forth a b c = omega arith in
    pillar-parts a c b
    ∙ (λ i. pos (h i * u i) -ℤ pos (h i * v i))
    ∙ neg-minus (pos (height a b c * forth a b c)) (pos (height a b c * back a b c))
    ∙ ap neg_ℤ (sym (pillar-parts a b c))

pub pillar-rolls : Rolls pillar_of
pillar-rolls a b c =
    let h : height a b c ≡ height b c a = omega arith in
    let u : forth a b c ≡ forth b c a = omega arith in
    let v : back a b c ≡ back b c a = omega arith in
    pillar-parts a b c ∙ (λ i. pos (h i * u i) -ℤ pos (h i * v i)) ∙ sym (pillar-parts b c a)

-- ---- lists

module _ (f : Corner → Corner → Corner → ℤ) (at : ℕ → Corner) where
  pub round-sum : Turns f → (l : List ℕ) → sum_of f at (turned_round l) ≡ neg_ℤ (sum_of f at l)
  unfolding sum_of turned_round
  round-sum t [] = refl
  round-sum t (i ∷ []) = refl
  round-sum t (i ∷ j ∷ []) = refl
  round-sum t (i ∷ j ∷ k ∷ is) = ap₂ ◌+ℤ◌ (t (at i) (at j) (at k)) (round-sum t is) ∙ sym (neg_ℤ-+ℤ (f (at i) (at j) (at k)) (sum_of f at is))

  pub joined-sum : (s t : List ℕ) → length s % 3 ≡ 0 → sum_of f at (s ++ t) ≡ sum_of f at s +ℤ sum_of f at t
  unfolding sum_of
  joined-sum [] t h = sym (+ℤ_idl (sum_of f at t))
  joined-sum (i ∷ []) t h = absurd (omega arith)
  joined-sum (i ∷ j ∷ []) t h = absurd (omega arith)
  joined-sum (i ∷ j ∷ k ∷ is) t h =
      ap (λ (n : ℤ). f (at i) (at j) (at k) +ℤ n) (joined-sum is t (omega arith)) ∙ sym (+ℤ_assoc (f (at i) (at j) (at k)) (sum_of f at is) (sum_of f at t))

  -- the sums of any number of parts, each of whole triangles
  unfoldable pub parts_sum : List (List ℕ) → ℤ
  parts_sum [] = pos 0
  parts_sum (p ∷ ps) = sum_of f at p +ℤ parts_sum ps

  pub parts-sum : {ps : List (List ℕ)} → All (λ (p : List ℕ). length p % 3 ≡ 0) ps → sum_of f at (joined (λ (p : List ℕ). p) ps) ≡ parts_sum ps
  unfolding parts_sum joined sum_of
  parts-sum none = refl
  parts-sum (more {x = p} {xs = ps} h hs) = joined-sum p (joined (λ (q : List ℕ). q) ps) h ∙ ap (λ (n : ℤ). sum_of f at p +ℤ n) (parts-sum hs)

  pub rolled-sum : Rolls f → {s t : List ℕ} → Rolled s t → sum_of f at s ≡ sum_of f at t
  unfolding sum_of
  rolled-sum q same = refl
  rolled-sum q (kept {i = i} {j = j} {k = k} r) = ap (λ (n : ℤ). f (at i) (at j) (at k) +ℤ n) (rolled-sum q r)
  rolled-sum q (rolled {i = i} {j = j} {k = k} r) = ap₂ ◌+ℤ◌ (q (at i) (at j) (at k)) (rolled-sum q r)

  -- the sum over the triangles, one after the other
  unfoldable over_triangles : List Triangle → ℤ
  over_triangles [] = pos 0
  over_triangles (t ∷ ts) = f (at t.first) (at t.second) (at t.third) +ℤ over_triangles ts

  sum-triangles : (l : List ℕ) → sum_of f at l ≡ over_triangles (triangles l)
  unfolding sum_of triangles over_triangles
  sum-triangles [] = refl
  sum-triangles (i ∷ []) = refl
  sum-triangles (i ∷ j ∷ []) = refl
  sum-triangles (i ∷ j ∷ k ∷ is) = ap (λ (n : ℤ). f (at i) (at j) (at k) +ℤ n) (sum-triangles is)

  past : (a b n : ℤ) → a +ℤ (b +ℤ n) ≡ b +ℤ (a +ℤ n)
  past a b n = sym (+ℤ_assoc a b n) ∙ ap (λ (m : ℤ). m +ℤ n) (+ℤ_comm a b) ∙ +ℤ_assoc b a n

  perm-sum : {s t : List Triangle} → Perm s t → over_triangles s ≡ over_triangles t
  unfolding over_triangles
  perm-sum nil = refl
  perm-sum (skip {x = x} p) = ap (λ (n : ℤ). f (at x.first) (at x.second) (at x.third) +ℤ n) (perm-sum p)
  perm-sum (swap {x = x} {y = y} {s = s}) =
      past (f (at x.first) (at x.second) (at x.third)) (f (at y.first) (at y.second) (at y.third)) (over_triangles s)
  perm-sum (trans p q) = perm-sum p ∙ perm-sum q

  pub order-sum : (s t : List ℕ) → Perm (triangles s) (triangles t) → sum_of f at s ≡ sum_of f at t
  order-sum s t p = sum-triangles s ∙ perm-sum p ∙ sym (sum-triangles t)

-- a sum depends on the corners alone
pub same_sum : (f : Corner → Corner → Corner → ℤ) (at at' : ℕ → Corner) {l : List ℕ} → All (λ (i : ℕ). at i ≡ at' i) l → sum_of f at l ≡ sum_of f at' l
unfolding sum_of
same_sum f at at' none = refl
same_sum f at at' (more p none) = refl
same_sum f at at' (more p (more q none)) = refl
same_sum f at at' (more p (more q (more r rest))) = ap₂ ◌+ℤ◌ (λ i. f (p i) (q i) (r i)) (same_sum f at at' rest)
