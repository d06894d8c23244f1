-- A call on the first parts of seven lists: what its contract says of the parts, said of the lists. Over bare lists and lengths. Assumes nothing.
use Prim.Native.Nat.{ℕ}
use mathlib.Core.List.{List, ◌++◌}
use mathlib.Core.Path.{◌≡◌, ap, ap₂, ◌∙◌}
use lib.ListN.{take, drop}
use lib.Ieee.{Float}
use Rattle.rules.specs.Call.{Call, Answer, Buffers, answer, afterwards, room}
use Rattle.judge.specs.declared.Lengths.{Lengths}
use Rattle.whole_box.specs.LentLists.{buffers}
use Rattle.marked_mesh.specs.Marked.{marked, lent_length, lent_marks, rest, behind}

-- the first p of a list, and the list with these put back
abbrev pub part : {A : Type 0} → ℕ → List A → List A
part p l = take p l

abbrev pub whole : {A : Type 0} → ℕ → List A → List A → List A
whole p l new = new ++ drop p l

-- a list before the call, and how much of it is lent
pub record Lent {A : Type 0} (n : ℕ) (marks l : List A) (p : ℕ) : Type 0 where
  pub list : l ≡ marks
  pub length : p ≡ lent_length n

pub lent-list : {A : Type 0} {n : ℕ} {marks l : List A} {p : ℕ} → l ≡ marks → p ≡ lent_length n → Lent n marks l p
lent-list e h = record { list = e; length = h }

part-is : {A : Type 0} {n : ℕ} {marks l : List A} {p : ℕ} → Lent n marks l p → part p l ≡ take (lent_length n) marks
part-is {A = A} {p = p} h = ap₂ (λ (q : ℕ) (k : List A). take q k) h.length h.list

whole_is : {A : Type 0} {n : ℕ} {marks l : List A} {p : ℕ} (new : List A) → Lent n marks l p → whole p l new ≡ rest n marks new
whole_is {A = A} {p = p} new h = ap₂ (λ (q : ℕ) (k : List A). new ++ drop q k) h.length h.list

module _ (call : Call) (n : Lengths) {P N : List Float} {C S X M I : List ℕ} {p q c s x m i : ℕ}
    (hp : Lent n.positions marked.positions P p)
    (hq : Lent n.normals marked.normals N q)
    (hc : Lent n.cells marked.cells C c)
    (hs : Lent n.strides marked.strides S s)
    (hx : Lent n.crossings marked.crossings X x)
    (hm : Lent n.map marked.map M m)
    (hi : Lent n.indices marked.indices I i)
  where
    abbrev parts : Buffers
    parts = buffers (part p P) (part q N) (part c C) (part s S) (part x X) (part m M) (part i I)

    abbrev wholes : Buffers → Buffers
    wholes t =
        buffers (whole p P t.positions) (whole q N t.normals) (whole c C t.cells) (whole s S t.strides) (whole x X t.crossings)
        (whole m M t.map) (whole i I t.indices)

    lent_is : parts ≡ lent_marks n
    unfolding lent_marks
    lent_is =
        rw (
          part-is hp,
          part-is hq,
          part-is hc,
          part-is hs,
          part-is hx,
          part-is hm,
          part-is hi,
        )

    wholes-are : (t : Buffers) → wholes t ≡ behind n t
    unfolding behind
    wholes-are t =
        rw (
          whole_is t.positions hp,
          whole_is t.normals hq,
          whole_is t.cells hc,
          whole_is t.strides hs,
          whole_is t.crossings hx,
          whole_is t.map hm,
          whole_is t.indices hi,
        )

    pub settled : {a : Answer} {t : Buffers} → a ≡ answer call (room parts) → t ≡ afterwards call parts
        → (a ≡ answer call (room (lent_marks n))) × (wholes t ≡ behind n (afterwards call (lent_marks n)))
    settled {t = t} e f = (
      e ∙ ap (λ (u : Buffers). answer call (room u)) lent_is,
      wholes-are t ∙ ap (behind n) (f ∙ ap (afterwards call) lent_is),
    )
