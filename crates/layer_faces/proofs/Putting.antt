-- Faces put each at its own place, along one axis after the other, are the faces of all edges in their order: a face that is put makes its own six places
-- what they are to be and leaves the others, and each edge's place is named by some entry. Assumes nothing.
use Rattle.std.proofs.Common.{◌≡◌, ℕ, zero, suc, ◌+◌, ◌-◌, ◌*◌, ◌/◌, ◌%◌, ◌<◌, ◌≤◌, ◌⊎◌, List, [], ◌∷◌, ◌++◌, length, get_or, set, sym, refl, ap, ◌∙◌, ap₂, inl, inr, add-one, arith, length-set, get_or-set_other, get_or-set_same, get_or-append-add, ext_get_or}
use lib.ListN.{get_or-append}
use lib.Seq.{sets, length-sets}
use Rattle.lists.specs.Lists.{joined}
use Rattle.lists.proofs.Tests.{less-or-not}
use Rattle.lists.proofs.Lists.{joined_length}
use Rattle.layer_faces.specs.Filing.{Filed, AllFiled, faces_put}

-- ---- a run of stores, by places

stored-apart : (l vs : List ℕ) (i m : ℕ) → (m < i) ⊎ (i + length vs ≤ m) → get_or (sets l i vs) m 0 ≡ get_or l m 0
stored-apart l [] i m h = refl
stored-apart l (v ∷ vs) i m (inl h) = stored-apart (set l i v) vs (suc i) m (inl (omega arith)) ∙ get_or-set_other l i m v 0 (λ e. omega arith)
stored-apart l (v ∷ vs) i m (inr h) = stored-apart (set l i v) vs (suc i) m (inr (omega arith)) ∙ get_or-set_other l i m v 0 (λ e. omega arith)

stored-within : (l vs : List ℕ) (i k : ℕ) → k < length vs → i + length vs ≤ length l → get_or (sets l i vs) (i + k) 0 ≡ get_or vs k 0
stored-within l [] i k h r = absurd (omega arith)
stored-within l (v ∷ vs) i zero h r =
    let e : i + 0 ≡ i = omega arith in
    ap (λ (n : ℕ). get_or (sets (set l i v) (suc i) vs) n 0) e
    ∙ stored-apart (set l i v) vs (suc i) i (inl (omega arith)) ∙ get_or-set_same l i v 0 (omega arith)
stored-within l (v ∷ vs) i (suc k) h r =
    let e : i + suc k ≡ suc i + k = omega arith in
    ap (λ (n : ℕ). get_or (sets (set l i v) (suc i) vs) n 0) e
    ∙ stored-within (set l i v) vs (suc i) k (omega arith) (omega (arith, length-set l i v))

-- ---- the faces of the edges in their order

module _ (f : ℕ → List ℕ) (long : (e : ℕ) → length (f e) ≡ 6) where
  joined_at : (es : List ℕ) (r k : ℕ) → r < length es → k < 6 → get_or (joined f es) (6 * r + k) 0 ≡ get_or (f (get_or es r 0)) k 0
  unfolding joined
  joined_at [] r k h low = absurd (omega arith)
  joined_at (e ∷ es) zero k h low =
      let z : 6 * 0 + k ≡ k = omega arith in
      ap (λ (n : ℕ). get_or (f e ++ joined f es) n 0) z ∙ get_or-append (f e) (joined f es) 0 k (omega (arith, long e))
  joined_at (e ∷ es) (suc r) k h low =
      let z : 6 * suc r + k ≡ length (f e) + (6 * r + k) = omega (arith, long e) in
      ap (λ (n : ℕ). get_or (f e ++ joined f es) n 0) z ∙ get_or-append-add (f e) (joined f es) (6 * r + k) 0 ∙ joined_at es r k (omega arith) low

-- ---- the faces of one axis

module _ (quad : ℕ → List ℕ) (who rank : List ℕ) (start from at : ℕ) where
  pub put-length : (n : ℕ) (l : List ℕ) → length (faces_put quad who rank start from at n l) ≡ length l
  unfolding faces_put
  put-length zero l = refl
  put-length (suc n) l =
      length-sets (faces_put quad who rank start from at n l) (at + 6 * get_or rank (start + n) 0) (quad (from + get_or who (start + n) 0)) ∙ put-length n l

  pub put-none : (l : List ℕ) → l ≡ faces_put quad who rank start from at 0 l
  unfolding faces_put
  put-none l = refl

  -- one more
  pub put_on : (n : ℕ) (l : List ℕ) {s s' face : List ℕ} → s ≡ faces_put quad who rank start from at n l → face ≡ quad (from + get_or who (start + n) 0)
      → s' ≡ sets s (at + 6 * get_or rank (start + n) 0) face → s' ≡ faces_put quad who rank start from at (n + 1) l
  unfolding faces_put
  put_on n l e f h =
      h ∙ (λ i. sets (e i) (at + 6 * get_or rank (start + n) 0) (f i))
      ∙ ap (λ (m : ℕ). faces_put quad who rank start from at m l) (sym (add-one n))

-- ---- each at its own place

module _ (quad : ℕ → ℕ → List ℕ) (long : (a v : ℕ) → length (quad a v) ≡ 6) (edges who rank : List ℕ) (from at : ℕ) (l : List ℕ) (room : at + 6 * length edges ≤ length l) where
  -- the face of the edge e
  abbrev face : ℕ → List ℕ
  face e = quad (e % 3) (from + e / 3)

  -- what is to be
  abbrev whole : List ℕ
  whole = sets l at (joined face edges)

  long-faces : length (joined face edges) ≡ 6 * length edges
  long-faces = joined_length face 6 (λ e. long (e % 3) (from + e / 3)) edges

  -- a place that is what it is to be
  abbrev Right : List ℕ → ℕ → Type 0
  Right s m = get_or s m 0 ≡ get_or whole m 0

  whole-at : (r k : ℕ) → r < length edges → k < 6 → get_or whole (at + 6 * r + k) 0 ≡ get_or (face (get_or edges r 0)) k 0
  whole-at r k h low =
      let e : at + 6 * r + k ≡ at + (6 * r + k) = omega arith in
      ap (λ (n : ℕ). get_or whole n 0) e
      ∙ stored-within l (joined face edges) at (6 * r + k) (omega (arith, long-faces)) (omega (arith, long-faces))
      ∙ joined_at face (λ e. long (e % 3) (from + e / 3)) edges r k h low

  -- one face put
  module _ (s q : List ℕ) (r : ℕ) (within : r < length edges) (is : q ≡ face (get_or edges r 0)) (same : length s ≡ length l) where
    six : length q ≡ 6
    six = ap length is ∙ long (get_or edges r 0 % 3) (from + get_or edges r 0 / 3)

    put-makes : (m : ℕ) → at + 6 * r ≤ m → m < at + 6 * r + 6 → Right (sets s (at + 6 * r) q) m
    put-makes m low high =
        let e : m ≡ at + 6 * r + (m - (at + 6 * r)) = omega arith in
        ap (λ (n : ℕ). get_or (sets s (at + 6 * r) q) n 0) e
        ∙ stored-within s q (at + 6 * r) (m - (at + 6 * r)) (omega (arith, six)) (omega (arith, six))
        ∙ ap (λ (p : List ℕ). get_or p (m - (at + 6 * r)) 0) is
        ∙ sym (ap (λ (n : ℕ). get_or whole n 0) e ∙ whole-at r (m - (at + 6 * r)) within (omega arith))

    put_keeps : (m : ℕ) → Right s m → Right (sets s (at + 6 * r) q) m
    put_keeps m right = go (less-or-not m (at + 6 * r)) (less-or-not m (at + 6 * r + 6))
      where
        go : (m < at + 6 * r) ⊎ (at + 6 * r ≤ m) → (m < at + 6 * r + 6) ⊎ (at + 6 * r + 6 ≤ m) → Right (sets s (at + 6 * r) q) m
        go (inl h) k = stored-apart s q (at + 6 * r) m (inl h) ∙ right
        go (inr h) (inl k) = put-makes m h k
        go (inr h) (inr k) = stored-apart s q (at + 6 * r) m (inr (omega (arith, six))) ∙ right

  -- the faces along one axis
  module _ (axis count : ℕ) (three : axis < 3) (filed : Filed edges who rank axis count) where
    abbrev put : ℕ → List ℕ → List ℕ
    put n s = faces_put (quad axis) who rank (32 * axis) from at n s

    -- the n-th entry's quad is its edge's face
    entry-face : (n : ℕ) → n < count → quad axis (from + get_or who (32 * axis + n) 0) ≡ face (get_or edges (get_or rank (32 * axis + n) 0) 0)
    entry-face n h =
        let e = (filed.each n h).is in
        let a : axis ≡ get_or edges (get_or rank (32 * axis + n) 0) 0 % 3 = omega arith in
        let v : from + get_or who (32 * axis + n) 0 ≡ from + get_or edges (get_or rank (32 * axis + n) 0) 0 / 3 = omega arith in
        ap₂ quad a v

    all-kept : (n : ℕ) (s : List ℕ) → n ≤ count → length s ≡ length l → (m : ℕ) → Right s m → Right (put n s) m
    unfolding faces_put
    all-kept zero s h same m right = right
    all-kept (suc n) s h same m right =
        put_keeps (put n s) (quad axis (from + get_or who (32 * axis + n) 0)) (get_or rank (32 * axis + n) 0) (filed.each n (omega arith)).within (entry-face n (omega arith))
        (put-length (quad axis) who rank (32 * axis) from at n s ∙ same) m (all-kept n s (omega arith) same m right)

    all_made : (n : ℕ) (s : List ℕ) → n ≤ count → length s ≡ length l → (q : ℕ) → q < n → (m : ℕ) → at + 6 * get_or rank (32 * axis + q) 0 ≤ m
        → m < at + 6 * get_or rank (32 * axis + q) 0 + 6 → Right (put n s) m
    unfolding faces_put
    all_made zero s h same q k m low high = absurd (omega arith)
    all_made (suc n) s h same q k m low high = go (λ j. all_made n s (omega arith) same q j m low high) (less-or-not q n)
      where
        go : (q < n → Right (put n s) m) → (q < n) ⊎ (n ≤ q) → Right (sets (put n s) (at + 6 * get_or rank (32 * axis + n) 0) (quad axis (from + get_or who (32 * axis + n) 0))) m
        go before (inl j) =
            put_keeps (put n s) (quad axis (from + get_or who (32 * axis + n) 0)) (get_or rank (32 * axis + n) 0) (filed.each n (omega arith)).within (entry-face n (omega arith))
            (put-length (quad axis) who rank (32 * axis) from at n s ∙ same) m (before j)
        go before (inr j) =
            let last : q ≡ n = omega arith in
            let e : get_or rank (32 * axis + q) 0 ≡ get_or rank (32 * axis + n) 0 = ap (λ (i : ℕ). get_or rank (32 * axis + i) 0) last in
            put-makes (put n s) (quad axis (from + get_or who (32 * axis + n) 0)) (get_or rank (32 * axis + n) 0) (filed.each n (omega arith)).within (entry-face n (omega arith))
            (put-length (quad axis) who rank (32 * axis) from at n s ∙ same) m (omega arith) (omega arith)

    -- the six places of the r-th edge, where it is along the axis
    made : (s : List ℕ) → length s ≡ length l → (r m : ℕ) → r < length edges → get_or edges r 0 % 3 ≡ axis → at + 6 * r ≤ m → m < at + 6 * r + 6 → Right (put count s) m
    made s same r m h a low high =
        let p = filed.all r h a in
        let e = p.is in
        all_made count s (omega arith) same p.q p.low m (omega arith) (omega arith)

  -- along the three, one after the other
  module _ {x y z all : ℕ} (filed : AllFiled edges who rank x y z all) where
    abbrev first : List ℕ
    first = faces_put (quad 0) who rank (32 * 0) from at x l

    abbrev second : List ℕ
    second = faces_put (quad 1) who rank (32 * 1) from at y first

    abbrev third : List ℕ
    third = faces_put (quad 2) who rank (32 * 2) from at z second

    length-first : length first ≡ length l
    length-first = put-length (quad 0) who rank (32 * 0) from at x l

    length-second : length second ≡ length l
    length-second = put-length (quad 1) who rank (32 * 1) from at y first ∙ length-first

    length-third : length third ≡ length l
    length-third = put-length (quad 2) who rank (32 * 2) from at z second ∙ length-second

    -- what is right after the first axis stays right
    kept-after : (m : ℕ) → Right first m → Right third m
    kept-after m h =
        all-kept 2 z (omega arith) filed.along-z z second (omega arith) length-second m
        (all-kept 1 y (omega arith) filed.along-y y first (omega arith) length-first m h)

    right : (m : ℕ) → Right third m
    right m = go (less-or-not m at) (less-or-not m (at + 6 * length edges))
      where
        outside : get_or l m 0 ≡ get_or whole m 0 → Right third m
        outside h = kept-after m (all-kept 0 x (omega arith) filed.along-x x l (omega arith) refl m h)

        inside : (r : ℕ) → r < length edges → at + 6 * r ≤ m → m < at + 6 * r + 6 → (a : ℕ) → get_or edges r 0 % 3 ≡ a → a < 3 → Right third m
        inside r h low high zero e k = kept-after m (made 0 x (omega arith) filed.along-x l refl r m h e low high)
        inside r h low high (suc zero) e k =
            all-kept 2 z (omega arith) filed.along-z z second (omega arith) length-second m
            (made 1 y (omega arith) filed.along-y first length-first r m h e low high)
        inside r h low high (suc (suc zero)) e k = made 2 z (omega arith) filed.along-z second length-second r m h e low high
        inside r h low high (suc (suc (suc n))) e k = absurd (omega arith)

        go : (m < at) ⊎ (at ≤ m) → (m < at + 6 * length edges) ⊎ (at + 6 * length edges ≤ m) → Right third m
        go (inl h) k = outside (sym (stored-apart l (joined face edges) at m (inl h)))
        go (inr h) (inr k) = outside (sym (stored-apart l (joined face edges) at m (inr (omega (arith, long-faces)))))
        go (inr h) (inl k) = inside ((m - at) / 6) (omega arith) (omega arith) (omega arith) (get_or edges ((m - at) / 6) 0 % 3) refl (omega arith)

    pub all-put : faces_put (quad 2) who rank (32 * 2) from at z (faces_put (quad 1) who rank (32 * 1) from at y (faces_put (quad 0) who rank (32 * 0) from at x l))
        ≡ sets l at (joined (λ (e : ℕ). quad (e % 3) (from + e / 3)) edges)
    all-put = ext_get_or 0 third whole (length-third ∙ sym (length-sets l at (joined face edges))) (λ m h. right m)
