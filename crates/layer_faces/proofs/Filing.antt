-- The edges of a batch filed by their axes: an edge is stored behind the entries of its axis that count, with its place among all that are listed, and
-- counts on if it gives a face; the entries of the other axes stay what they were. Assumes nothing.
use Rattle.std.proofs.Common.{◌≡◌, ℕ, ◌+◌, ◌*◌, ◌%◌, ◌<◌, ◌≤◌, Bool, true, false, cond, ◌≢◌, ◌⊎◌, List, [], ◌∷◌, ◌++◌, length, get_or, set, sym, refl, ap, ◌∙◌, subst, inl, inr, append-nil, add-zero, arith, length-append, length-set, get_or-set_other, get_or-set_same}
use lib.ListN.{get_or-append}
use lib.Seq.{get_or-append_seam}
use Rattle.lists.specs.Lists.{one, run, keep}
use Rattle.lists.proofs.Tests.{less-or-not}
use Rattle.layer_faces.specs.Filing.{Names, Found, Filed, AllFiled}
use Rattle.layer_faces.proofs.Listing.{kept-few, kept_more}

-- ---- no edge

filed-none : (who rank : List ℕ) (axis : ℕ) → Filed [] who rank axis 0
filed-none who rank axis = record { few = omega arith; each = λ q h. absurd (omega arith); all = λ r h e. absurd (omega arith) }

-- ---- a store apart from the entries that count

module _ {edges who rank : List ℕ} {axis count : ℕ} (f : Filed edges who rank axis count) (i j place : ℕ) (apart : (q : ℕ) → q < count → 32 * axis + q ≢ i) where
  same_rank : (q : ℕ) → q < count → get_or (set rank i place) (32 * axis + q) 0 ≡ get_or rank (32 * axis + q) 0
  same_rank q h = get_or-set_other rank i (32 * axis + q) place 0 (apart q h)

  same-who : (q : ℕ) → q < count → get_or (set who i j) (32 * axis + q) 0 ≡ get_or who (32 * axis + q) 0
  same-who q h = get_or-set_other who i (32 * axis + q) j 0 (apart q h)

  filed-apart : Filed edges (set who i j) (set rank i place) axis count
  filed-apart =
      record {
        few = f.few;
        each = λ q h. record {
          within = omega (arith, same_rank q h, (f.each q h).within);
          is =
              ap (λ (r : ℕ). get_or edges r 0) (same_rank q h) ∙ (f.each q h).is
              ∙ ap (λ (v : ℕ). 3 * v + axis) (sym (same-who q h));
        };
        all = λ r h e. let p = f.all r h e in record { q = p.q; low = p.low; is = same_rank p.q p.low ∙ p.is };
      }

-- ---- one edge more in the list

length-snoc : (edges : List ℕ) (e : ℕ) → length (edges ++ (e ∷ [])) ≡ length edges + 1
length-snoc edges e = length-append edges (e ∷ [])

module _ {edges who rank : List ℕ} {axis count : ℕ} (f : Filed edges who rank axis count) (e : ℕ) where
  -- what an entry names stands where it stood
  still : (q : ℕ) → q < count → Names (edges ++ (e ∷ [])) who rank axis (32 * axis + q)
  still q h =
      let p = f.each q h in
      record {
        within = omega (arith, p.within, length-snoc edges e);
        is = get_or-append edges (e ∷ []) 0 (get_or rank (32 * axis + q) 0) p.within ∙ p.is;
      }

  -- along another axis
  filed-other : e % 3 ≢ axis → Filed (edges ++ (e ∷ [])) who rank axis count
  filed-other away = record { few = f.few; each = still; all = λ r h k. go r h k (less-or-not r (length edges)) }
    where
      go : (r : ℕ) → r < length (edges ++ (e ∷ [])) → get_or (edges ++ (e ∷ [])) r 0 % 3 ≡ axis → (r < length edges) ⊎ (length edges ≤ r) → Found rank axis count r
      go r h k (inl low) = f.all r low (ap (λ (n : ℕ). n % 3) (sym (get_or-append edges (e ∷ []) 0 r low)) ∙ k)
      go r h k (inr low) =
          let last : r ≡ length edges = omega (arith, length-snoc edges e) in
          absurd (away (ap (λ (n : ℕ). n % 3) (sym (ap (λ (n : ℕ). get_or (edges ++ (e ∷ [])) n 0) last ∙ get_or-append_seam edges e [] 0)) ∙ k))

  -- along this axis, with the entry behind those that count
  filed-own : count < 32 → get_or rank (32 * axis + count) 0 ≡ length edges → e ≡ 3 * get_or who (32 * axis + count) 0 + axis
      → Filed (edges ++ (e ∷ [])) who rank axis (count + 1)
  filed-own few place is = record { few = omega arith; each = λ q h. each q h (less-or-not q count); all = λ r h k. all r h k (less-or-not r (length edges)) }
    where
      each : (q : ℕ) → q < count + 1 → (q < count) ⊎ (count ≤ q) → Names (edges ++ (e ∷ [])) who rank axis (32 * axis + q)
      each q h (inl low) = still q low
      each q h (inr low) =
          let last : count ≡ q = omega arith in
          subst (λ (n : ℕ). Names (edges ++ (e ∷ [])) who rank axis (32 * axis + n)) last
          (record {
            within = omega (arith, place, length-snoc edges e);
            is = ap (λ (n : ℕ). get_or (edges ++ (e ∷ [])) n 0) place ∙ get_or-append_seam edges e [] 0 ∙ is;
          })

      all : (r : ℕ) → r < length (edges ++ (e ∷ [])) → get_or (edges ++ (e ∷ [])) r 0 % 3 ≡ axis → (r < length edges) ⊎ (length edges ≤ r) → Found rank axis (count + 1) r
      all r h k (inl low) =
          let p = f.all r low (ap (λ (n : ℕ). n % 3) (sym (get_or-append edges (e ∷ []) 0 r low)) ∙ k) in
          record { q = p.q; low = let g = p.low in omega arith; is = p.is }
      all r h k (inr low) =
          let last : length edges ≡ r = omega (arith, length-snoc edges e) in
          record { q = count; low = omega arith; is = place ∙ last }

-- ---- an edge stored, whether it counts or not

-- the list after it
abbrev after : List ℕ → ℕ → Bool → List ℕ
after edges e counts = edges ++ cond counts (e ∷ []) []

after-length : (edges : List ℕ) (e : ℕ) (counts : Bool) → length (after edges e counts) ≡ length edges + one counts
after-length edges e true = length-snoc edges e
after-length edges e false = length-append edges []

module _ {edges who rank : List ℕ} {axis count : ℕ} (f : Filed edges who rank axis count) where
  -- on the axis that is stored to
  filed-on : (j e : ℕ) (counts : Bool) → count < 32 → 32 * axis + count < length who → 32 * axis + count < length rank → e ≡ 3 * j + axis
      → Filed (after edges e counts) (set who (32 * axis + count) j) (set rank (32 * axis + count) (length edges)) axis (count + one counts)
  filed-on j e counts few fits fits' is = go counts
    where
      kept : Filed edges (set who (32 * axis + count) j) (set rank (32 * axis + count) (length edges)) axis count
      kept = filed-apart f (32 * axis + count) j (length edges) (λ q h k. omega arith)

      go : (t : Bool) → Filed (after edges e t) (set who (32 * axis + count) j) (set rank (32 * axis + count) (length edges)) axis (count + one t)
      go true =
          filed-own kept e few (get_or-set_same rank (32 * axis + count) (length edges) 0 fits')
          (is ∙ ap (λ (n : ℕ). 3 * n + axis) (sym (get_or-set_same who (32 * axis + count) j 0 fits)))
      go false =
          subst (λ (l : List ℕ). Filed l (set who (32 * axis + count) j) (set rank (32 * axis + count) (length edges)) axis (count + 0)) (sym (append-nil edges))
          (subst (λ (n : ℕ). Filed edges (set who (32 * axis + count) j) (set rank (32 * axis + count) (length edges)) axis n) (sym (add-zero count)) kept)

  -- on another one
  filed-by : (i j place e : ℕ) (counts : Bool) → ((q : ℕ) → q < 32 → 32 * axis + q ≢ i) → e % 3 ≢ axis
      → Filed (after edges e counts) (set who i j) (set rank i place) axis count
  filed-by i j place e counts apart away = go counts
    where
      kept : Filed edges (set who i j) (set rank i place) axis count
      kept = filed-apart f i j place (λ q h. apart q (let few = f.few in omega arith))

      go : (t : Bool) → Filed (after edges e t) (set who i j) (set rank i place) axis count
      go true = filed-other kept e away
      go false = subst (λ (l : List ℕ). Filed l (set who i j) (set rank i place) axis count) (sym (append-nil edges)) kept

-- ---- the three axes

-- what stands after the edges below e that pass the test, of at most 32 vertices
module _ (t : ℕ → Bool) where
  pub record Filing (e : ℕ) (who rank : List ℕ) (x y z all : ℕ) : Type 0 where
    pub filed : AllFiled (keep t (run e)) who rank x y z all
    pub vertices : length who ≡ 96
    pub places : length rank ≡ 96

  pub filing-none : {who rank : List ℕ} → length who ≡ 96 → length rank ≡ 96 → Filing 0 who rank 0 0 0 0
  unfolding run keep
  filing-none {who} {rank} h k =
      record {
        filed = record { along-x = filed-none who rank 0; along-y = filed-none who rank 1; along-z = filed-none who rank 2; count = refl };
        vertices = h;
        places = k;
      }

  pub filing-few : {e x y z all : ℕ} {who rank : List ℕ} → Filing e who rank x y z all → all ≤ e
  filing-few {e} p = omega (arith, p.filed.count, kept-few t e)

  module _ {e x y z all : ℕ} {who rank : List ℕ} (p : Filing e who rank x y z all) {all' e' : ℕ} {counts : Bool} (is : counts ≡ t e) (next : e' ≡ e + 1)
      (on : all' ≡ all + one counts) where
    -- the edges listed with the one that is stored
    listed-on : after (keep t (run e)) e counts ≡ keep t (run e')
    listed-on = ap (after (keep t (run e)) e) is ∙ sym (ap (λ (n : ℕ). keep t (run n)) next ∙ kept_more t e)

    total : all' ≡ length (keep t (run e'))
    total = omega (arith, on, p.filed.count, after-length (keep t (run e)) e counts, ap length listed-on)

    moved : (axis i j : ℕ) {n n' : ℕ} {who' rank' : List ℕ} → who' ≡ set who i j → rank' ≡ set rank i all → n' ≡ n
        → Filed (after (keep t (run e)) e counts) (set who i j) (set rank i (length (keep t (run e)))) axis n → Filed (keep t (run e')) who' rank' axis n'
    moved axis i j {n} {n'} {who'} {rank'} ew er en f =
        let er' : rank' ≡ set rank i (length (keep t (run e))) = er ∙ ap (set rank i) p.filed.count in
        subst (λ (l : List ℕ). Filed l who' rank' axis n') listed-on
        (subst (λ (w : List ℕ). Filed (after (keep t (run e)) e counts) w rank' axis n') (sym ew)
        (subst (λ (r : List ℕ). Filed (after (keep t (run e)) e counts) (set who i j) r axis n') (sym er')
        (subst (λ (m : ℕ). Filed (after (keep t (run e)) e counts) (set who i j) (set rank i (length (keep t (run e)))) axis m) (sym en) f)))

    -- the axis that is stored to, and the two others
    stepped : (axis i j : ℕ) {n n' : ℕ} {who' rank' : List ℕ} → Filed (keep t (run e)) who rank axis n → n < 32 → axis < 3 → i ≡ 32 * axis + n → e ≡ 3 * j + axis
        → who' ≡ set who i j → rank' ≡ set rank i all → n' ≡ n + one counts → Filed (keep t (run e')) who' rank' axis n'
    stepped axis i j {n} f few three at ee ew er en =
        moved axis (32 * axis + n) j (ew ∙ ap (λ (k : ℕ). set who k j) at) (er ∙ ap (λ (k : ℕ). set rank k all) at) en
        (filed-on f j e counts few (omega (arith, p.vertices)) (omega (arith, p.places)) ee)

    passed : (axis i j : ℕ) {n : ℕ} {who' rank' : List ℕ} → Filed (keep t (run e)) who rank axis n → ((q : ℕ) → q < 32 → 32 * axis + q ≢ i) → e % 3 ≢ axis
        → who' ≡ set who i j → rank' ≡ set rank i all → Filed (keep t (run e')) who' rank' axis n
    passed axis i j f apart away ew er = moved axis i j ew er refl (filed-by f i j (length (keep t (run e))) e counts apart away)

    -- an edge along x, along y, along z
    pub filing-x : (j : ℕ) {x' : ℕ} {who' rank' : List ℕ} → x < 32 → e ≡ 3 * j → who' ≡ set who x j → rank' ≡ set rank x all → x' ≡ x + one counts
        → Filing e' who' rank' x' y z all'
    filing-x j h ee ew er ex =
        record {
          filed = record {
            along-x = stepped 0 x j p.filed.along-x h (omega arith) (omega arith) (omega arith) ew er ex;
            along-y = passed 1 x j p.filed.along-y (λ q l k. omega arith) (λ k. omega arith) ew er;
            along-z = passed 2 x j p.filed.along-z (λ q l k. omega arith) (λ k. omega arith) ew er;
            count = total;
          };
          vertices = ap length ew ∙ length-set who x j ∙ p.vertices;
          places = ap length er ∙ length-set rank x all ∙ p.places;
        }

    pub filing-y : (j : ℕ) {y' : ℕ} {who' rank' : List ℕ} → y < 32 → e ≡ 3 * j + 1 → who' ≡ set who (32 + y) j → rank' ≡ set rank (32 + y) all → y' ≡ y + one counts
        → Filing e' who' rank' x y' z all'
    filing-y j h ee ew er ey =
        record {
          filed = record {
            along-x = passed 0 (32 + y) j p.filed.along-x (λ q l k. omega arith) (λ k. omega arith) ew er;
            along-y = stepped 1 (32 + y) j p.filed.along-y h (omega arith) (omega arith) ee ew er ey;
            along-z = passed 2 (32 + y) j p.filed.along-z (λ q l k. omega arith) (λ k. omega arith) ew er;
            count = total;
          };
          vertices = ap length ew ∙ length-set who (32 + y) j ∙ p.vertices;
          places = ap length er ∙ length-set rank (32 + y) all ∙ p.places;
        }

    pub filing-z : (j : ℕ) {z' : ℕ} {who' rank' : List ℕ} → z < 32 → e ≡ 3 * j + 2 → who' ≡ set who (64 + z) j → rank' ≡ set rank (64 + z) all → z' ≡ z + one counts
        → Filing e' who' rank' x y z' all'
    filing-z j h ee ew er ez =
        record {
          filed = record {
            along-x = passed 0 (64 + z) j p.filed.along-x (λ q l k. omega arith) (λ k. omega arith) ew er;
            along-y = passed 1 (64 + z) j p.filed.along-y (λ q l k. omega arith) (λ k. omega arith) ew er;
            along-z = stepped 2 (64 + z) j p.filed.along-z h (omega arith) (omega arith) ee ew er ez;
            count = total;
          };
          vertices = ap length ew ∙ length-set who (64 + z) j ∙ p.vertices;
          places = ap length er ∙ length-set rank (64 + z) all ∙ p.places;
        }
