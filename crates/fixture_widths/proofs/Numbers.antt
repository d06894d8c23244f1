-- Each answer has a number of its own: the number says which answer it is. Assumes nothing.
use Rattle.std.proofs.Common.{Result, Ok, Err, ◌≡◌, refl, sym, ap, arith}
use Rattle.fixtures.specs.declared.refusal.Refusal.{Refusal as LayerRefusal}
use Rattle.fixtures.specs.declared.refusal.Refusal.TheVariants.{BadDimensions, NoSuchLayer, BadLength, CutOff, UnknownKind, TooDeep, BadWord, BadFloat, LeftOver}
use Rattle.fixtures.specs.Refusal.{number}
use Rattle.fixtures.proofs.Numbers.{not_0, one-answer as one-layer-answer}
use Rattle.fixture_widths.specs.declared.Refusal.{Refusal}
use Rattle.fixture_widths.specs.declared.Refusal.TheVariants.{Layer, Room}
use Rattle.fixture_widths.specs.Refused.{answer_of}

not_82 : (e : LayerRefusal) → number e ≡ 82 → ⊥
not_82 BadDimensions h = omega (arith, h)
not_82 NoSuchLayer h = omega (arith, h)
not_82 BadLength h = omega (arith, h)
not_82 CutOff h = omega (arith, h)
not_82 UnknownKind h = omega (arith, h)
not_82 TooDeep h = omega (arith, h)
not_82 BadWord h = omega (arith, h)
not_82 BadFloat h = omega (arith, h)
not_82 LeftOver h = omega (arith, h)

-- an answer to a layer that is cut in its place, as an answer here
abbrev as_here : Result (Unit {0}) LayerRefusal → Result (Unit {0}) Refusal
as_here (Ok u) = Ok u
as_here (Err e) = Err (Layer e)

-- two answers that give nothing and have one number are one
pub one-answer : (a b : Result (Unit {0}) Refusal) → answer_of a ≡ answer_of b → a ≡ b
one-answer (Ok u) (Ok v) h = refl
one-answer (Ok u) (Err (Layer e)) h = absurd (not_0 e (sym h))
one-answer (Ok u) (Err Room) h = absurd (omega (arith, h))
one-answer (Err (Layer d)) (Ok v) h = absurd (not_0 d h)
one-answer (Err Room) (Ok v) h = absurd (omega (arith, h))
one-answer (Err (Layer d)) (Err (Layer e)) h = ap as_here (one-layer-answer (Err d) (Err e) h)
one-answer (Err (Layer d)) (Err Room) h = absurd (not_82 d h)
one-answer (Err Room) (Err (Layer e)) h = absurd (not_82 e (sym h))
one-answer (Err Room) (Err Room) h = refl
