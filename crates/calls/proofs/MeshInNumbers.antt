-- One call of the mesher and one of its answer alone, of floats and of whole numbers, by the places of their arguments: whatever fits the contract on these numbers answered so
-- and left these lists. The box has 2, 4 and 3 cells of a grid of 4, 6 and 7 points, which outside it holds negative numbers; the max plane of y alone is set, and one face comes of
-- it; every list is longer than it need be, and no two of its numbers are alike. What is wanted was worked out by a plain program written from document 01, each operation
-- rounded once. Computed by the kernel. Assumes nothing.
use Prim.Native.Nat.{ℕ}
use mathlib.Core.Bool.{true, false}
use mathlib.Core.List.{List, [], ◌∷◌, ◌++◌}
use mathlib.Core.Path.{◌≡◌, refl, ap, subst, ◌∙◌}
use denote.Ref.{Bor, MutBor}
use lib.IntN.{ℤ, pos, negsuc}
use lib.ListN.{replicate}
use lib.Ieee.{Float, fin, of_bits}
use Rattle.lists.specs.Lists.{up_to}
use Rattle.rules.specs.Call.{Answer, Room, Buffers, room, answer, afterwards}
use Rattle.rules.proofs.Cases as rules
use Rattle.grid.specs.Values.{as_floats}
use Rattle.whole_box.specs.LentLists.{buffers}
use Rattle.bed.specs.Boundary.{asked, room_asked, said}
use Rattle.bed.proofs.Places.{
  NetsCall,
  NetsCall16,
  NetsCall8,
  AskCall,
  AskCall16,
  AskCall8,
  VersionCall,
  surface-nets-by-place,
  surface-nets-i16-by-place,
  surface-nets-i8-by-place,
  answer-by-place,
  answer-i16-by-place,
  answer-i8-by-place,
  version-by-place,
}
use Rattle.calls.proofs.Lists.{odds, floats}

-- what a computed fact opens
opened : Unit {0}
unfolding rules.opened of_bits
opened = tt

-- dimensions 4, 6, 7; from (1, 0, 2) to (3, 4, 5); a flag is set by any word but 0
abbrev words : List ℕ
words = 4 ∷ 6 ∷ 7 ∷ 1 ∷ 0 ∷ 2 ∷ 3 ∷ 4 ∷ 5 ∷ 0 ∷ 512 ∷ 0 ∷ []

-- the grid, a row a line, by six numbers: one for outside the box, three above zero and two below it
module _ {A : Type 0} (o a b c m n : A) where
  abbrev bed : List A
  bed =
      replicate 48 o
      ++ (o ∷ c ∷ a ∷ a
      ∷ o ∷ c ∷ a ∷ c
      ∷ o ∷ a ∷ c ∷ b
      ∷ o ∷ c ∷ b ∷ b
      ∷ o ∷ a ∷ c ∷ a
      ∷ o ∷ o ∷ o ∷ o ∷ [])
      ++ (o ∷ c ∷ a ∷ c
      ∷ o ∷ a ∷ c ∷ a
      ∷ o ∷ a ∷ a ∷ b
      ∷ o ∷ a ∷ n ∷ m
      ∷ o ∷ c ∷ a ∷ n
      ∷ o ∷ o ∷ o ∷ o ∷ [])
      ++ (o ∷ c ∷ b ∷ c
      ∷ o ∷ b ∷ a ∷ b
      ∷ o ∷ c ∷ b ∷ b
      ∷ o ∷ a ∷ a ∷ c
      ∷ o ∷ b ∷ b ∷ c
      ∷ o ∷ o ∷ o ∷ o ∷ [])
      ++ (o ∷ c ∷ c ∷ a
      ∷ o ∷ b ∷ b ∷ c
      ∷ o ∷ a ∷ a ∷ c
      ∷ o ∷ b ∷ c ∷ b
      ∷ o ∷ b ∷ c ∷ a
      ∷ o ∷ o ∷ o ∷ o ∷ [])
      ++ replicate 24 o

-- -7, 1, 2, 3, -2 and -3
abbrev grid : List Float
grid = bed (fin true 7 (pos 0)) (fin false 1 (pos 0)) (fin false 1 (pos 1)) (fin false 3 (pos 0)) (fin true 1 (pos 1)) (fin true 3 (pos 0))

abbrev numbers : List ℤ
numbers = bed (negsuc 6) (pos 1) (pos 2) (pos 3) (negsuc 1) (negsuc 2)

numbers-mean : as_floats numbers ≡ grid
unfolding opened
numbers-mean = refl

-- ---- what is lent, by place, and what is left

abbrev Seven : Type 0
Seven = List Float × List Float × List ℕ × List ℕ × List ℕ × List ℕ × List ℕ

abbrev seven : Seven
seven = (odds 0 26, odds 100 127, up_to 200 228, up_to 300 311, up_to 50 60, up_to 1000 1170, up_to 400 435)

abbrev none : ℕ
none = 4294967295

-- the eight cells' vertices; a point of the box without one, and every other entry as it was
abbrev map_left : List ℕ
map_left =
    up_to 1000 1048
    ++ (1048 ∷ none ∷ none ∷ none ∷ 1052 ∷ none ∷ none ∷ none ∷ 1056 ∷ 0 ∷ 1 ∷ none
    ∷ 1060 ∷ 2 ∷ 3 ∷ none ∷ 1064 ∷ none ∷ none ∷ none ∷ 1068 ∷ 1069 ∷ 1070 ∷ 1071
    ∷ 1072 ∷ none ∷ none ∷ none ∷ 1076 ∷ none ∷ none ∷ none ∷ 1080 ∷ 4 ∷ 5
    ∷ none ∷ 1084 ∷ 6 ∷ 7 ∷ none ∷ 1088 ∷ none ∷ none ∷ none ∷ 1092 ∷ 1093 ∷ 1094 ∷ 1095
    ∷ 1096 ∷ none ∷ none ∷ none ∷ 1100 ∷ none ∷ none ∷ none ∷ 1104 ∷ none ∷ none
    ∷ none ∷ 1108 ∷ none ∷ none ∷ none ∷ 1112 ∷ none ∷ none ∷ none ∷ 1116 ∷ 1117 ∷ 1118 ∷ 1119
    ∷ 1120 ∷ none ∷ none ∷ none ∷ 1124 ∷ none ∷ none ∷ none ∷ 1128 ∷ none ∷ none
    ∷ none ∷ 1132 ∷ none ∷ none ∷ none ∷ 1136 ∷ none ∷ none ∷ none ∷ 1140 ∷ 1141 ∷ 1142 ∷ 1143 ∷ [])
    ++ up_to 1144 1170

abbrev positions : List ℕ
positions =
    0x3FE00000 ∷ 0x40300000 ∷ 0x40333333 ∷ 0x40200000 ∷ 0x402C0000 ∷ 0x402E6666 ∷ 0x3FE00000 ∷ 0x40500000 ∷ 0x40333333 ∷ 0x401CCCCD ∷ 0x40633333 ∷ 0x402851EC
    ∷ 0x3FE00000 ∷ 0x40300000 ∷ 0x40500000 ∷ 0x40200000 ∷ 0x402C0000 ∷ 0x40526666 ∷ 0x3FE00000 ∷ 0x40500000 ∷ 0x40500000 ∷ 0x401CCCCD ∷ 0x40633333 ∷ 0x40551EB8 ∷ []

abbrev normals : List ℕ
normals =
    0xC01CCCCD ∷ 0xC01CCCCD ∷ 0xC0640000 ∷ 0x3F23999A ∷ 0xC0426667 ∷ 0xC05A0000 ∷ 0xC0366668 ∷ 0x40366667 ∷ 0xC05C0000 ∷ 0xBFC1374C ∷ 0x3F91DB24 ∷ 0xC0691EB8
    ∷ 0xC0140000 ∷ 0xC0240000 ∷ 0x40240000 ∷ 0x3F8DCCCC ∷ 0xC0366666 ∷ 0x40500000 ∷ 0xC0280000 ∷ 0x40380000 ∷ 0x40180000 ∷ 0xBF31A9FE ∷ 0x3FAD4FE0 ∷ 0x40728F5C ∷ []

abbrev left : Buffers
left =
    record {
      positions = floats positions ++ odds 24 26;
      normals = floats normals ++ odds 124 127;
      cells =
          1 ∷ 2 ∷ 2 ∷ 2 ∷ 2 ∷ 2 ∷ 1 ∷ 3 ∷ 2 ∷ 2 ∷ 3 ∷ 2 ∷ 1 ∷ 2 ∷ 3 ∷ 2 ∷ 2 ∷ 3 ∷ 1 ∷ 3 ∷ 3 ∷ 2 ∷ 3 ∷ 3 ∷ up_to 224 228;
      strides = 57 ∷ 58 ∷ 61 ∷ 62 ∷ 81 ∷ 82 ∷ 85 ∷ 86 ∷ up_to 308 311;
      crossings = 3 ∷ 4 ∷ 3 ∷ 5 ∷ 3 ∷ 4 ∷ 3 ∷ 5 ∷ up_to 58 60;
      map = map_left;
      indices =
          2 ∷ 1 ∷ 0 ∷ 2 ∷ 3 ∷ 1 ∷ 5 ∷ 0 ∷ 1 ∷ 5 ∷ 4 ∷ 0 ∷ 4 ∷ 2 ∷ 0 ∷ 4 ∷ 6 ∷ 2
          ∷ 7 ∷ 3 ∷ 2 ∷ 7 ∷ 2 ∷ 6 ∷ 6 ∷ 4 ∷ 5 ∷ 6 ∷ 5 ∷ 7 ∷ up_to 430 435;
    }

abbrev lists : Seven → Buffers
lists s = buffers s.0 s.1 s.2 s.3 s.4 s.5 s.6

answered : answer (asked grid words) (room (lists seven)) ≡ said 0 8 30
unfolding opened
answered = refl

written : afterwards (asked grid words) (lists seven) ≡ left
unfolding opened
written = refl

-- ---- bed_surface_nets, bed_surface_nets_i16, bed_surface_nets_i8: distances, words, seven lists, V, I

abbrev Lent : Type 0 → Type 0
Lent A = List A × List ℕ × Seven

abbrev lent : {A : Type 0} → List A → Lent A
lent sdf = (sdf, words, seven)

-- the lists' places, as they are lent and as they are left
abbrev Places : Type 0 → Type 0
Places A =
    Bor (List A) × (Bor (List ℕ) × (MutBor (List Float) × (MutBor (List Float) × (MutBor (List ℕ) × (MutBor (List ℕ) × (MutBor (List ℕ) × (MutBor (List ℕ)
    × (MutBor (List ℕ) × (MutBor ℕ × (MutBor ℕ × Unit {0}))))))))))

abbrev LeftPlaces : Type 0
LeftPlaces =
    Unit {0} × (Unit {0} × (List Float × (List Float × (List ℕ × (List ℕ × (List ℕ × (List ℕ × (List ℕ × (ℕ × (ℕ × Unit {0}))))))))))

abbrev given : {A : Type 0} → Places A → Lent A
given (sdf, (words', (p, (n, (c, (s, (k, (m, (i, _))))))))) = (sdf.now, words'.now, (p.now, n.now, c.now, s.now, k.now, m.now, i.now))

abbrev left_in : LeftPlaces → Seven
left_in (_, (_, (p, (n, (c, (s, (k, (m, (i, _))))))))) = (p, n, c, s, k, m, i)

abbrev said_in : ℕ → LeftPlaces → Answer
said_in number (_, (_, (_, (_, (_, (_, (_, (_, (_, (v, (i, _))))))))))) = said number v i

-- answer 0, V 8 and I 30, and each list
abbrev Comes : ℕ → LeftPlaces → Type 0
Comes number (_, (_, (p, (n, (c, (s, (k, (m, (i, (vertex_count, (index_count, _))))))))))) =
    (number ≡ 0) × (vertex_count ≡ 8) × (index_count ≡ 30) × (p ≡ left.positions) × (n ≡ left.normals) × (c ≡ left.cells) × (s ≡ left.strides)
    × (k ≡ left.crossings) × (m ≡ left.map) × (i ≡ left.indices)

comes : (number : ℕ) (l : LeftPlaces) → said_in number l ≡ said 0 8 30 → lists (left_in l) ≡ left → Comes number l
comes number l a b = (
  ap (λ (x : Answer). x.number) a,
  ap (λ (x : Answer). x.vertices) a,
  ap (λ (x : Answer). x.indices) a,
  ap (λ (x : Buffers). x.positions) b,
  ap (λ (x : Buffers). x.normals) b,
  ap (λ (x : Buffers). x.cells) b,
  ap (λ (x : Buffers). x.strides) b,
  ap (λ (x : Buffers). x.crossings) b,
  ap (λ (x : Buffers). x.map) b,
  ap (λ (x : Buffers). x.indices) b,
)

-- what a call on these words and lists says and leaves, of any distances that mean the grid
abbrev Says : List Float → List ℕ → Seven → ℕ → LeftPlaces → Type 0
Says sdf words' s number l = (said_in number l ≡ answer (asked sdf words') (room (lists s))) × (lists (left_in l) ≡ afterwards (asked sdf words') (lists s))

says-comes : (sdf : List Float) (number : ℕ) (l : LeftPlaces) → sdf ≡ grid → Says sdf words seven number l → Comes number l
says-comes sdf number l e h = let k = subst (λ (x : List Float). Says x words seven number l) e h in comes number l (k.0 ∙ answered) (k.1 ∙ written)

pub surface-nets-called : (u : NetsCall) → given u.args ≡ lent grid → Comes u.result u.last
surface-nets-called u e =
    says-comes grid u.result u.last refl
    (subst (λ (g : Lent Float). Says g.0 g.1 g.2 u.result u.last) e (surface-nets-by-place u, u.fits.1.0))

pub surface-nets-i16-called : (u : NetsCall16) → given u.args ≡ lent numbers → Comes u.result u.last
surface-nets-i16-called u e =
    says-comes (as_floats numbers) u.result u.last numbers-mean
    (subst (λ (g : Lent ℤ). Says (as_floats g.0) g.1 g.2 u.result u.last) e (surface-nets-i16-by-place u, u.fits.1.0))

pub surface-nets-i8-called : (u : NetsCall8) → given u.args ≡ lent numbers → Comes u.result u.last
surface-nets-i8-called u e =
    says-comes (as_floats numbers) u.result u.last numbers-mean
    (subst (λ (g : Lent ℤ). Says (as_floats g.0) g.1 g.2 u.result u.last) e (surface-nets-i8-by-place u, u.fits.1.0))

-- ---- bed_answer, bed_answer_i16, bed_answer_i8: distances, words, seven lengths, V, I

abbrev Lengths : Type 0
Lengths = ℕ × ℕ × ℕ × ℕ × ℕ × ℕ × ℕ

abbrev AskLent : Type 0 → Type 0
AskLent A = List A × List ℕ × Lengths

-- room for eight vertices, a map as long as the grid, and one index short
abbrev ask_lent : {A : Type 0} → List A → AskLent A
ask_lent sdf = (sdf, words, (24, 31, 27, 8, 10, 168, 29))

abbrev ask_given : {A : Type 0}
    → Bor (List A) × (Bor (List ℕ) × (ℕ × (ℕ × (ℕ × (ℕ × (ℕ × (ℕ × (ℕ × (MutBor ℕ × (MutBor ℕ × Unit {0})))))))))) → AskLent A
ask_given (sdf, (words', (p, (n, (c, (s, (k, (m, (i, _))))))))) = (sdf.now, words'.now, (p, n, c, s, k, m, i))

abbrev room_of : Lengths → Room
room_of l = room_asked l.0 l.1 l.2 l.3 l.4 l.5 l.6

-- answer 7, V 8 and I 30
abbrev Told : ℕ → ℕ → ℕ → Type 0
Told number v i = (number ≡ 7) × (v ≡ 8) × (i ≡ 30)

told-short : answer (asked grid words) (room_asked 24 31 27 8 10 168 29) ≡ said 7 8 30
unfolding opened
told-short = refl

tells : (sdf : List Float) (number v i : ℕ) → sdf ≡ grid → said number v i ≡ answer (asked sdf words) (room_asked 24 31 27 8 10 168 29) → Told number v i
tells sdf number v i e h =
    let a = h ∙ (ap (λ (x : List Float). answer (asked x words) (room_asked 24 31 27 8 10 168 29)) e ∙ told-short) in
    (ap (λ (x : Answer). x.number) a, ap (λ (x : Answer). x.vertices) a, ap (λ (x : Answer). x.indices) a)

pub answer-called : (u : AskCall) → ask_given u.args ≡ ask_lent grid
    → (let (_, (_, (_, (_, (_, (_, (_, (_, (_, (v, (i, _))))))))))) = u.last in Told u.result v i)
answer-called u e =
    let (_, (_, (_, (_, (_, (_, (_, (_, (_, (v, (i, _))))))))))) = u.last in
    tells grid u.result v i refl
    (subst (λ (g : AskLent Float). said u.result v i ≡ answer (asked g.0 g.1) (room_of g.2)) e (answer-by-place u))

pub answer-i16-called : (u : AskCall16) → ask_given u.args ≡ ask_lent numbers
    → (let (_, (_, (_, (_, (_, (_, (_, (_, (_, (v, (i, _))))))))))) = u.last in Told u.result v i)
answer-i16-called u e =
    let (_, (_, (_, (_, (_, (_, (_, (_, (_, (v, (i, _))))))))))) = u.last in
    tells (as_floats numbers) u.result v i numbers-mean
    (subst (λ (g : AskLent ℤ). said u.result v i ≡ answer (asked (as_floats g.0) g.1) (room_of g.2)) e (answer-i16-by-place u))

pub answer-i8-called : (u : AskCall8) → ask_given u.args ≡ ask_lent numbers
    → (let (_, (_, (_, (_, (_, (_, (_, (_, (_, (v, (i, _))))))))))) = u.last in Told u.result v i)
answer-i8-called u e =
    let (_, (_, (_, (_, (_, (_, (_, (_, (_, (v, (i, _))))))))))) = u.last in
    tells (as_floats numbers) u.result v i numbers-mean
    (subst (λ (g : AskLent ℤ). said u.result v i ≡ answer (asked (as_floats g.0) g.1) (room_of g.2)) e (answer-i8-by-place u))

-- ---- bed_version: 0.2.0

pub version-called : (u : VersionCall) → u.result ≡ 512
version-called u = version-by-place u
