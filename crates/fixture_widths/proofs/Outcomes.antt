-- What is answered, and what the list holds afterwards: each way a call ends, by what its tests found. Assumes nothing.
use Prim.Native.Nat.{ℕ, ◌*◌, ◌≤◌, ◌<◌}
use native.Mathlib.Omega.{arith}
use mathlib.Core.Bool.{Bool, cond}
use mathlib.Core.List.{List, ◌++◌}
use mathlib.Core.Logic.{⊎_elim}
use mathlib.Core.Path.{◌≡◌, refl, sym, ap, ap₂, ◌∙◌}
use borrow.Author.Tests.{ne_eqb, lt-ltb, le-ltb}
use lib.Dec.{ltb, eqb}
use lib.ListN.{length, drop}
use lib.Ieee.{Float}
use Rattle.lists.specs.Lists.{over}
use Rattle.lists.proofs.Lists.{length-placed}
use Rattle.rules.specs.Grid.{GridPoint, point_at}
use Rattle.fixtures.specs.declared.refusal.Refusal.{Refusal}
use Rattle.fixtures.specs.Refusal.{number}
use Rattle.fixtures.specs.Solid.{file_at}
use Rattle.fixtures.specs.Cut.{floats, cut}
use Rattle.fixtures.specs.Layer.{plane, layer_answer, cut_layer}
use Rattle.fixtures.proofs.Again.{zero_or_not}
use Rattle.fixtures.proofs.Numbers.{not_0}
use Rattle.fixtures.proofs.OneLayer.{layer-kept, layer-cut}
use Rattle.fixture_widths.specs.Into.{into_answer, cut_into}

module _ (f : List ℕ) (d : GridPoint) (z : ℕ) (layer out : List Float) where
  into-refused : {n : ℕ} → layer_answer f d z (length layer) ≡ n → (n ≡ 0 → ⊥) → into_answer f d z (length layer) (length out) ≡ n
  unfolding into_answer
  into-refused {n} e h =
      ap (λ (a : ℕ). cond (eqb a 0) (cond (ltb (length out) (length layer)) 82 0) a) e ∙ ap (λ (b : Bool). cond b (cond (ltb (length out) (length layer)) 82 0) n) (ne_eqb n 0 h)

  into-room : {b : Bool} → layer_answer f d z (length layer) ≡ 0 → ltb (length out) (length layer) ≡ b → into_answer f d z (length layer) (length out) ≡ cond b 82 0
  unfolding into_answer
  into-room e r = ap (λ (a : ℕ). cond (eqb a 0) (cond (ltb (length out) (length layer)) 82 0) a) e ∙ ap (λ (b : Bool). cond b 82 0) r

  list-kept : {n : ℕ} → into_answer f d z (length layer) (length out) ≡ n → (n ≡ 0 → ⊥) → cut_into f d z layer out ≡ out
  unfolding cut_into
  list-kept {n} e h = ap (λ (b : Bool). cond b (over (cut_layer f d z layer) out) out) (ap (λ (a : ℕ). eqb a 0) e ∙ ne_eqb n 0 h)

  list-cut : into_answer f d z (length layer) (length out) ≡ 0 → cut_into f d z layer out ≡ over (cut_layer f d z layer) out
  unfolding cut_into
  list-cut e = ap (λ (b : Bool). cond b (over (cut_layer f d z layer) out) out) (ap (λ (a : ℕ). eqb a 0) e)

  -- an answer, and what the list holds
  abbrev pub Outcome : ℕ → List Float → Type 0
  Outcome r now = (r ≡ into_answer f d z (length layer) (length out)) × (now ≡ cut_into f d z layer out)

  -- a layer that is refused in its place is refused here
  pub refused : (r : Refusal) → number r ≡ layer_answer f d z (length layer) → Outcome (number r) out
  refused r e = let a = into-refused (sym e) (not_0 r) in (sym a, sym (list-kept a (not_0 r)))

  pub no_room : 0 ≡ layer_answer f d z (length layer) → length out < length layer → Outcome 82 out
  no_room e h =
      let a : into_answer f d z (length layer) (length out) ≡ 82 = into-room (sym e) (lt-ltb (length out) (length layer) h) in
      (sym a, sym (list-kept a (λ n. omega (arith, n))))

  layer-same : length (cut_layer f d z layer) ≡ length layer
  layer-same =
      ⊎_elim
      (λ e. ap length (layer-cut f d z layer e) ∙ length-placed (λ i old. cut (file_at f (floats (point_at d i))) old) (plane d * z) layer)
      (λ n. ap length (layer-kept f d z layer refl n))
      (zero_or_not (layer_answer f d z (length layer)))

  pub done : 0 ≡ layer_answer f d z (length layer) → length layer ≤ length out → {part : List Float} → part ≡ cut_layer f d z layer
      → {n : ℕ} → n ≡ length layer → Outcome 0 (part ++ drop n out)
  done e h ep el =
      let a : into_answer f d z (length layer) (length out) ≡ 0 = into-room (sym e) (le-ltb (length out) (length layer) h) in (
        sym a,
        ap₂ (λ (l : List Float) (k : ℕ). l ++ drop k out) ep (el ∙ sym layer-same) ∙ sym (list-cut a),
      )
