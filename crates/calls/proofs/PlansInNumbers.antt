-- Calls of the check of a plan and of its witness, by the places of their arguments: whatever fits the contract on these numbers answered so. Of the check three pieces that
-- document 01's cuts make of a box no two of whose coordinates are alike, with max planes that are not all set, and the same pieces where the box has one max plane more. Of the
-- witness four blocks of a tank with the max plane of z, one cell among them, which owns nothing: with the lower piece's max plane of x left on, with a max plane of y too
-- many, and as a plan; what is wanted was found by counting every edge (witness/Cases). Computed by the kernel. Assumes nothing.
use seplogic.Ra.Ura.{Ura}
use base.Logic.{SProp, ent, via}
use Prim.Native.Nat.{ℕ}
use native.Mathlib.Omega.{arith}
use mathlib.Core.Bool.{Bool, true, false}
use mathlib.Core.List.{List, [], ◌∷◌, ◌++◌, map}
use mathlib.Core.Path.{◌≡◌, refl, sym, subst}
use prog.Memory.{Memory}
use prog.Routine.{Routine}
use types.Logic.{Logic}
use contract.Lifetimes.{Lfts}
use contract.Monad.{Fun, fact, fact_mono}
use denote.Triple.Entry.{Args}
use Rattle.lists.specs.Lists.{some, many, run, up_to}
use Rattle.rules.specs.Grid.{axis_x, axis_y}
use Rattle.rules.specs.Faces.{edge, owned}
use Rattle.rules.specs.Cutting.{Plan, Cuts, uncut, cut, pieces, Fits}
use Rattle.rules.proofs.Cutting.{cuts-plan}
use Rattle.plan.specs.declared.Block.{Block}
use Rattle.plan.specs.Plan.{piece, block, bad_piece, plan_answer, Checks}
use Rattle.plan.proofs.Once.{same_answer, same-holds}
use Rattle.kept_mesh.proofs.ReaderOnce.{Outcome, Ensured}
use Rattle.planned_mesh.proofs.Once.{bed-check-plan-by-place}
use Rattle.bed.specs.contracts.plans.bed_check_plan as bed-check
use Rattle.witness.specs.Witness.{piece_in, refusal, Tells, holds, told}
use Rattle.witness.proofs.Once.{same_outcome}
use Rattle.witness.proofs.Instances.{tank, words, plan, wrong}
use Rattle.witness.proofs.Cases.{doubled-first, walled-first, tank-planned}
use Rattle.bed.proofs.Places.{WitnessCall, plan-witness-by-place}

-- what a computed fact opens
opened : Unit {0}
unfolding refusal plan_answer bad_piece some many owned up_to run
opened = tt

-- ---- bed_check_plan: the blocks, the whole's two corners and its three flags, the yes or no

-- from (1, 2, 3) to (7, 6, 8) with the max planes of x and z, cut on x at 3 into [1, 4] and [3, 7], and the upper on y at 4 into [2, 5] and [4, 6]
abbrev three : List Block
three =
    block 1 2 3 4 6 8 false false true
    ∷ block 3 2 3 7 5 8 true false true
    ∷ block 3 4 3 7 6 8 true false true
    ∷ []

abbrev cuts : Cuts
cuts = cut axis_x 3 uncut (cut axis_y 4 uncut uncut)

abbrev whole : Block
whole = block 1 2 3 7 6 8 true false true

fits : Fits cuts (piece whole)
fits = omega arith

planned : Plan (map piece three) (piece whole)
unfolding pieces
planned = cuts-plan cuts (piece whole) fits

yes-fits : Checks (map piece three) (piece whole) 0 true
unfolding opened
yes-fits = record { number = refl; yes = λ _. (refl, planned); sure = λ _ _. tt }

-- with the max plane of y too, the whole owns the y edge from (2, 5, 4), and no block does
abbrev walled_whole : Block
walled_whole = block 1 2 3 7 6 8 true true true

not-planned : Plan (map piece three) (piece walled_whole) → ⊥
unfolding opened
not-planned p = let h : ◌≡◌ {A = ℕ} 0 1 = p (edge axis_y (record { x = 2; y = 5; z = 4 })) in omega arith

no-fits : Checks (map piece three) (piece walled_whole) 0 false
unfolding opened
no-fits = record { number = refl; yes = λ t. absurd t; sure = λ _ p. absurd (not-planned p) }

abbrev CheckLent : Type 0
CheckLent = List Block × ℕ × ℕ × ℕ × ℕ × ℕ × ℕ × Bool × Bool × Bool

abbrev check_lent : Bool → CheckLent
check_lent fy = (three, 1, 2, 3, 7, 6, 8, true, fy, true)

module _ {M : Type 1} {𝓤 : Ura M} (𝓛 : Logic 𝓤) (mem : Memory → SProp 𝓤) (run' : Routine → Fun 𝓤) (κs : Lfts (bed-check.ended).signature.lifetimes)
    (a : Args (bed-check.ended).signature κs) (g : (bed-check.clauses 𝓛 mem run' κs a).ghost) (o : Outcome bed-check.ended κs a) where
  abbrev check_given : CheckLent
  check_given = let (blocks, (x, (y, (z, (x', (y', (z', (fx, (fy, (fz, _)))))))))) = a in (blocks.now, x, y, z, x', y', z', fx, fy, fz)

  abbrev check_says : Bool
  check_says = let (_, (_, (_, (_, (_, (_, (_, (_, (_, (_, (holds', _))))))))))) = o.last in holds'

  checks : (fy says : Bool) → Checks (map piece three) (piece (block 1 2 3 7 6 8 true fy true)) 0 says → check_given ≡ check_lent fy
      → ent 𝓤 (Ensured 𝓤 bed-check.ended (bed-check.clauses 𝓛 mem run') κs a g o) (fact 𝓤 ((o.result ≡ 0) × (check_says ≡ says)))
  checks fy says c e =
      let (blocks, (x, (y, (z, (x', (y', (z', (fx, (fy', (fz, _)))))))))) = a in
      let said : Type 0 = Checks (map piece blocks.now) (piece (block x y z x' y' z' fx fy' fz)) o.result check_says in
      via 𝓤 (fact 𝓤 said) (bed-check-plan-by-place 𝓛 mem run' κs a g o)
      (fact_mono 𝓤 said ((o.result ≡ 0) × (check_says ≡ says)) (λ l.
      let d =
      subst
      (λ (t : CheckLent). Checks (map piece t.0) (piece (block t.1 t.2 t.3 t.4 t.5 t.6 t.7 t.8 t.9)) o.result check_says) e l in
      (same_answer _ _ d c, same-holds _ _ d c)))

  pub check-plan-called : check_given ≡ check_lent false
      → ent 𝓤 (Ensured 𝓤 bed-check.ended (bed-check.clauses 𝓛 mem run') κs a g o) (fact 𝓤 ((o.result ≡ 0) × (check_says ≡ true)))
  check-plan-called = checks false true yes-fits

  pub check-plan-no-called : check_given ≡ check_lent true
      → ent 𝓤 (Ensured 𝓤 bed-check.ended (bed-check.clauses 𝓛 mem run') κs a g o) (fact 𝓤 ((o.result ≡ 0) × (check_says ≡ false)))
  check-plan-no-called = checks true false no-fits

-- ---- bed_plan_witness: the blocks' words, the whole's twelve, the edge

abbrev Lent : Type 0
Lent = List ℕ × List ℕ × List ℕ

abbrev old : List ℕ
old = 71 ∷ 72 ∷ 73 ∷ 74 ∷ 75 ∷ 76 ∷ []

abbrev lent : List ℕ → Lent
lent blocks = (blocks, tank, old)

abbrev given : WitnessCall → Lent
given u = let (blocks, (whole, (edge', _))) = u.args in (blocks.now, whole.now, edge'.now)

-- what fits is what is known to fit
told-alone : (blocks : List ℕ) (n : ℕ) (left : List ℕ) → Tells blocks (piece_in tank 0) n old left → (u : WitnessCall) → given u ≡ lent blocks
    → (let (_, (_, (left', _))) = u.last in (u.result ≡ n) × (left' ≡ left))
told-alone blocks n left t u e =
    let (_, (_, (left', _))) = u.last in
    same_outcome blocks (piece_in tank 0) (subst (λ (g : Lent). Tells g.0 (piece_in g.1 0) u.result g.2 left') e (plan-witness-by-place u)) t

-- the x edge from (2, 1, 1), which the blocks 1 and 2 own
pub plan-witness-called : (u : WitnessCall) → given u ≡ lent wrong → (let (_, (_, (left, _))) = u.last in (u.result ≡ 0) × (left ≡ 0 ∷ 2 ∷ 1 ∷ 1 ∷ 1 ∷ 2 ∷ []))
unfolding opened
plan-witness-called =
    told-alone wrong 0 (0 ∷ 2 ∷ 1 ∷ 1 ∷ 1 ∷ 2 ∷ []) (told refl refl (edge axis_x (record { x = 2; y = 1; z = 1 })) doubled-first.0 (sym doubled-first.1))

-- the y edge from (3, 3, 1), which the block 3 owns, and the tank does not
abbrev walled : List ℕ
walled = words 5 3 1 6 4 2 0 0 0 ++ (words 0 0 0 3 4 3 0 0 9 ++ (words 2 0 0 6 2 3 0 0 1 ++ words 2 1 0 6 4 3 0 1 1))

pub plan-witness-outside-called : (u : WitnessCall) → given u ≡ lent walled
    → (let (_, (_, (left, _))) = u.last in (u.result ≡ 0) × (left ≡ 1 ∷ 3 ∷ 3 ∷ 1 ∷ 3 ∷ 4294967295 ∷ []))
unfolding opened
plan-witness-outside-called =
    told-alone walled 0 (1 ∷ 3 ∷ 3 ∷ 1 ∷ 3 ∷ 4294967295 ∷ [])
    (told refl refl (edge axis_y (record { x = 3; y = 3; z = 1 })) walled-first.0 (sym walled-first.1))

-- a plan: the words stay
pub plan-witness-none-called : (u : WitnessCall) → given u ≡ lent plan → (let (_, (_, (left, _))) = u.last in (u.result ≡ 43) × (left ≡ old))
unfolding opened
plan-witness-none-called = told-alone plan 43 old (holds refl refl tank-planned refl)
