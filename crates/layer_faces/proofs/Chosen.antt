-- What the code chooses without a branch: the order of a quad's numbers, and the list that a vertex is looked up in.
-- Assumes nothing.
use Rattle.std.proofs.Common.{◌≡◌, ℕ, ◌<◌, Bool, true, false, cond, List, [], ◌∷◌, length, get_or, refl, ap, ◌∙◌, ap₂, arith}
use lib.Ieee.{Float, nan, lt}
use Rattle.rules.specs.Grid.{Axis}
use Rattle.rules.specs.Cell.{negative, squared_distance}
use Rattle.rules.specs.Faces.{six}
use Rattle.layer_faces.specs.declared.Firsts.{Firsts}
use Rattle.layer_faces.specs.declared.Way.{Way}
use Rattle.layer_faces.specs.Quads.{Seen, quad_of, way2, way3, way4, place_at, own, looked, quad_at}

pub of-chosen : {A B : Type 0} (f : A → B) (first : Bool) (x y : A) → f (cond first x y) ≡ cond first (f x) (f y)
of-chosen f true x y = refl
of-chosen f false x y = refl

pub chosen-below : (first : Bool) {x y n : ℕ} (most : ℕ) → n ≡ cond first x y → x < most → y < most → n < most
chosen-below true most e h k = omega arith
chosen-below false most e h k = omega arith

-- ---- one quad

-- the four vertices round the edge from an end of the shorter diagonal on, chosen by one test, and their order in the triangles by the other
picked : (s n : Bool) (v1 v2 v3 v4 : ℕ) → let a = cond s v1 v2 in let b = cond s v2 v4 in let c = cond s v4 v3 in let d = cond s v3 v1 in
    a ∷ cond n b c ∷ cond n c b ∷ a ∷ cond n c d ∷ cond n d c ∷ [] ≡ six s n v1 v2 v3 v4
picked true true v1 v2 v3 v4 = refl
picked true false v1 v2 v3 v4 = refl
picked false true v1 v2 v3 v4 = refl
picked false false v1 v2 v3 v4 = refl

pub quad-picked : (v1 v2 v3 v4 : Seen) (n1 : Bool) {s : Bool} {a b c d second third fifth sixth : ℕ}
    → s ≡ lt (squared_distance v1.position v4.position) (squared_distance v2.position v3.position)
    → a ≡ cond s v1.number v2.number → b ≡ cond s v2.number v4.number → c ≡ cond s v4.number v3.number → d ≡ cond s v3.number v1.number
    → second ≡ cond n1 b c → third ≡ cond n1 c b → fifth ≡ cond n1 c d → sixth ≡ cond n1 d c
    → a ∷ second ∷ third ∷ a ∷ fifth ∷ sixth ∷ [] ≡ quad_of n1 v1 v2 v3 v4
unfolding quad_of
quad-picked v1 v2 v3 v4 n1 {s} es ea eb ec ed e2 e3 e5 e6 =
    let six-by : Bool → List ℕ = λ (t : Bool). six t n1 v1.number v2.number v3.number v4.number in
    (λ i. ea i ∷ (e2 ∙ ap₂ (cond n1) eb ec) i ∷ (e3 ∙ ap₂ (cond n1) ec eb) i ∷ ea i ∷ (e5 ∙ ap₂ (cond n1) ec ed) i ∷ (e6 ∙ ap₂ (cond n1) ed ec) i ∷ [])
    ∙ picked s n1 v1.number v2.number v3.number v4.number
    ∙ ap six-by es

pub length-quad : (n1 : Bool) (v1 v2 v3 v4 : Seen) → length (quad_of n1 v1 v2 v3 v4) ≡ 6
unfolding quad_of
length-quad n1 v1 v2 v3 v4 = go (lt (squared_distance v1.position v4.position) (squared_distance v2.position v3.position)) n1
  where
    go : (s n : Bool) → length (six s n v1.number v2.number v3.number v4.number) ≡ 6
    go true true = refl
    go true false = refl
    go false true = refl
    go false false = refl

module _ (first : Firsts) (map : List ℕ) (positions : List Float) (under : List ℕ) (kept lower : List Float) (row : ℕ) (cs : List ℕ) (v : ℕ) (a : Axis) where
  pub quad-looked : {cell : ℕ} {n : Bool} {w2 w3 w4 : Way} {v1 v2 v3 v4 : Seen} → cell ≡ place_at row cs v → n ≡ negative (get_or lower cell nan)
      → w2 ≡ way2 row a → w3 ≡ way3 row a → w4 ≡ way4 row a → v1 ≡ own first.here positions v → v2 ≡ looked first map positions under kept cell w2
      → v3 ≡ looked first map positions under kept cell w3 → v4 ≡ looked first map positions under kept cell w4
      → quad_of n v1 v2 v3 v4 ≡ quad_at first map positions under kept lower row cs v a
  unfolding quad_at
  quad-looked ec en ew2 ew3 ew4 e1 e2 e3 e4 =
      (λ i. quad_of (en i) (e1 i) (e2 i) (e3 i) (e4 i))
      ∙ (λ i.
      quad_of (negative (get_or lower (ec i) nan)) (own first.here positions v) (looked first map positions under kept (ec i) (ew2 i))
      (looked first map positions under kept (ec i) (ew3 i)) (looked first map positions under kept (ec i) (ew4 i)))

  pub length-quad_at : length (quad_at first map positions under kept lower row cs v a) ≡ 6
  unfolding quad_at
  length-quad_at = length-quad _ _ _ _ _
