-- The fold over the eight entries is the search. Assumes nothing.
use Rattle.std.proofs.Common.{ℕ, ◌≡◌, ◌+◌, ◌-◌, ◌&&◌, true, take, drop, ap, ◌∙◌, arith, rules, tests}
use lib.Dec.{eqb}
use Rattle.std.specs.List.{fold}
use Rattle.std.proofs.lemmas.Iterator.{YieldsList-from_slice}
use Rattle.std.proofs.lemmas.Iterator.Consumers.{fold_from_yields_List}
use Rattle.rules.specs.Vertices.{null_vertex}
use Rattle.layer_vertices.proofs.Numbering.{none-of-part}
use Rattle.layer_vertices.proofs.none_of_eight.Goals as goal

pub returns : goal.returns
returns c =
    let l = c.args.map.now in
    let at = c.args.at in
    let e : at + 8 - at ≡ 8 = omega arith in
    fold_from_yields_List _ (λ t x. t && eqb x null_vertex) true _ c.fold.ensures.ran (YieldsList-from_slice (take (at + 8 - at) (drop at l)) cc) (λ t x r q k. search (rules, tests))
    ∙ ap (λ (n : ℕ). fold (λ t x. t && eqb x null_vertex) true (take n (drop at l))) e
    ∙ none-of-part l at 8 c.requires
