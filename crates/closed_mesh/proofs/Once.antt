-- Two outcomes of the test that fit its contract are equal: the result and, for C, what stands behind `enclosed` at exit. Assumes nothing.
use mathlib.Core.Path.{◌≡◌, sym, ◌∙◌}
use Rattle.grid.proofs.Instances.{DistanceType, float-type}
use Rattle.skin.specs.Scan.{Tested, examined}
use Rattle.skin.proofs.Said.{same-said}
use Rattle.closed_mesh.proofs.Outcome.{Input, TestOf, test_input_of, Test, test_input, BedTest, bed_test_input, bed_tested}

-- two inputs that are the same are examined with one outcome
pub same_test : {i k : Input} {r s : Tested} → i ≡ k → r ≡ examined i.sdf i.dims i.low i.high → s ≡ examined k.sdf k.dims k.low k.high → r ≡ s
same_test same e e' = e ∙ (λ j. examined (same j).sdf (same j).dims (same j).low (same j).high) ∙ sym e'

-- on numbers of any two types that mean the same floats
pub is-enclosed-alike : (D E : DistanceType) (t : TestOf D) (u : TestOf E) → test_input_of D t ≡ test_input_of E u → t.result ≡ u.result
is-enclosed-alike D E t u same = same-said t.result u.result (same_test same t.learnt u.learnt)

pub is-enclosed-once : (t t' : Test) → test_input t ≡ test_input t' → t.result ≡ t'.result
is-enclosed-once = is-enclosed-alike float-type float-type

pub bed-is-enclosed-once : (t t' : BedTest) → bed_test_input t ≡ bed_test_input t' → bed_tested t ≡ bed_tested t'
bed-is-enclosed-once t t' same = same_test same t.learnt t'.learnt
