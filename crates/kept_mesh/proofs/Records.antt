-- The file of a mesh, record by record, over what the contract of one record says of any calls (specs/Filed): records of the words of a mesh, each written
-- into 32 bytes of its own, joined are the file of the mesh; written one after the other into one file they are its first bytes, all else kept. So both
-- are what a write of the whole mesh that answers 0 leaves. Assumes nothing.
use Prim.Native.Nat.{ℕ, ◌+◌, ◌*◌, ◌≤◌}
use native.Mathlib.Omega.{arith}
use mathlib.Core.Path.{◌≡◌, refl, sym, ap, ap₂, ◌∙◌}
use mathlib.Core.List.{List, [], ◌∷◌, ◌++◌, map, append-nil}
use lib.ListN.{length, take, drop, length-append, length-take, length-drop}
use lib.Seq.{drop-length}
use Rattle.lists.specs.Lists.{joined, over}
use Rattle.lists.proofs.Lists.{All, none, more, all_then, joined_same, joined_length}
use Rattle.mesh_record.specs.Record.{record_of, laid}
use Rattle.mesh_record.proofs.Laying.{laid_none, laid-after, over-laid}
use Rattle.mesh_record.proofs.Recording.{seven-length, record-done}
use Rattle.mesh_file.specs.Mesh.{Mesh, file_of, file_length, mesh_words}
use Rattle.mesh_file.proofs.RoundTrip.{file-length}
use Rattle.mesh_file.proofs.Records.{records-joined}
use Rattle.kept_mesh.specs.Filed.{Writes, Puts, words_put, Apart, InARow}
use Rattle.kept_mesh.proofs.Filed.{done-room, done-left, done-leaves}

-- ---- of lists

joined-map : {A B C : Type 0} (f : B → List C) (h : A → B) (l : List A) → joined f (map h l) ≡ joined (λ x. f (h x)) l
unfolding joined
joined-map f h [] = refl
joined-map f h (x ∷ xs) = ap (λ r. f (h x) ++ r) (joined-map f h xs)

-- laid over a whole list of its own length
laid-whole : (new old : List ℕ) → length old ≡ length new → laid new 0 old ≡ new
laid-whole new old e =
    let d : drop (length new) old ≡ [] = ap (λ (n : ℕ). drop n old) (sym e) ∙ drop-length old in
    sym (over-laid new old) ∙ ap (λ (l : List ℕ). new ++ l) d ∙ append-nil new

laid-length : (new old : List ℕ) (at : ℕ) → at + length new ≤ length old → length (laid new at old) ≡ length old
laid-length new old at h = simp (length-append, length-take, length-drop) (omega arith)

-- ---- one record

module _ (p : Puts) (fits : p.at + 32 ≤ length p.lent) where
  pub put-done : (p.says ≡ 0) × (p.left ≡ laid (record_of (words_put p)) p.at p.lent)
  put-done = let d = record-done (words_put p) p.at p.lent fits in (p.answered ∙ d.0, p.kept ∙ d.1)

-- into 32 bytes of its own
pub put-apart : (p : Puts) → Apart p → (p.says ≡ 0) × (p.left ≡ record_of (words_put p))
put-apart p h =
    let n = seven-length (words_put p) p.seven in
    let d = put-done p (omega (arith, h.start, h.whole)) in (
      d.0,
      d.1 ∙ ap (λ (at : ℕ). laid (record_of (words_put p)) at p.lent) h.start ∙ laid-whole (record_of (words_put p)) p.lent (h.whole ∙ sym n),
    )

-- ---- many, by whatever calls

module _ {A : Type 0} (of : A → Puts) where
  abbrev bytes : A → List ℕ
  bytes u = record_of (words_put (of u))

  bytes-length : (u : A) → length (bytes u) ≡ 32
  bytes-length u = seven-length (words_put (of u)) (of u).seven

  -- one after the other: all are written, and what they lay is their bytes joined
  row-lays : (us : List A) (at : ℕ) (f g : List ℕ) → InARow of us at f g → at + 32 * length us ≤ length f
      → All (λ u. (of u).says ≡ 0) us × (g ≡ laid (joined bytes us) at f)
  unfolding InARow joined
  row-lays [] at f g e h = (none, e ∙ sym (laid_none at f))
  row-lays (u ∷ us) at f g r h =
      let n = bytes-length u in
      let q = r.1.0 in
      let d = put-done (of u) (omega (arith, r.0, ap length q)) in
      let left : (of u).left ≡ laid (bytes u) at f = d.1 ∙ ap₂ (λ (k : ℕ) (l : List ℕ). laid (bytes u) k l) r.0 q in
      let same : length (of u).left ≡ length f = ap length left ∙ laid-length (bytes u) f at (omega (arith, n)) in
      let rest = row-lays us (at + 32) (of u).left g r.1.1 (omega (arith, same)) in (
        more d.0 rest.0,
        laid-after (bytes u) (joined bytes us) at (at + 32) f (of u).left g (ap (λ (k : ℕ). at + k) (sym n)) (omega arith) left rest.1,
      )

  -- ---- of the words of a mesh

  module _ (m : Mesh) (us : List A) (words : map (λ u. words_put (of u)) us ≡ mesh_words m) where
    joined-file : joined bytes us ≡ file_of m
    joined-file = sym (joined-map record_of (λ u. words_put (of u)) us) ∙ ap (joined record_of) words ∙ records-joined m

    joined-many : 32 * length us ≡ file_length m
    joined-many = sym (joined_length bytes 32 bytes-length us) ∙ ap length joined-file ∙ file-length m

    -- each in 32 bytes of its own: all answer 0, and what they leave, joined, is the file of the mesh
    pub records-apart : All (λ u. Apart (of u)) us → All (λ u. (of u).says ≡ 0) us × (joined (λ u. (of u).left) us ≡ file_of m)
    records-apart h = (all_then (λ u a. (put-apart (of u) a).0) h, joined_same (all_then (λ u a. (put-apart (of u) a).1) h) ∙ joined-file)

    -- one after the other in one file with room: all answer 0, and its first bytes are the file of the mesh, the rest kept
    pub records-in-a-row : (f g : List ℕ) → InARow of us 0 f g → file_length m ≤ length f → All (λ u. (of u).says ≡ 0) us × (g ≡ over (file_of m) f)
    records-in-a-row f g r h =
        let l = row-lays us 0 f g r (omega (arith, joined-many)) in
        (l.0, l.1 ∙ sym (over-laid (joined bytes us) f) ∙ ap (λ (b : List ℕ). over b f) joined-file)

  -- ---- beside a write of that mesh that answers 0

  module _ (w : Writes) (done : w.says.answer ≡ 0) (us : List A) (words : map (λ u. words_put (of u)) us ≡ mesh_words w.given) where
    -- the bytes that it counted
    pub apart-is-write : All (λ u. Apart (of u)) us → joined (λ u. (of u).left) us ≡ take w.says.bytes w.left
    apart-is-write h = (records-apart w.given us words h).1 ∙ sym (done-leaves w done)

    -- the whole lent file, from the same bytes
    pub row-is-write : (g : List ℕ) → InARow of us 0 w.lent g → g ≡ w.left
    row-is-write g r = (records-in-a-row w.given us words w.lent g r (done-room w done)).1 ∙ sym (done-left w done)
