-- Two outcomes that fit a public function's contract are equal: for each but check_plan, whose stand in planned_mesh, over the contract itself. Those of a
-- triple's map and zip_with settle what the closure's own claim settles. Assumes nothing.
use mathlib.Core.Path.{◌≡◌, sym, ◌∙◌}
use mir.Syntax.{Dict}
use denote.RattleType.{RattleType}
use denote.Param.Laws.{Laws, IsCopy}
use Rattle.std.specs.declared.clone.Clone as clone
use Rattle.plan.specs.declared.as_block.AsBlock as as-block
use Rattle.plan.specs.contracts.triple.Triple.map.F-Fn as map-f
use Rattle.plan.specs.contracts.triple.Triple.zip_with.F-Fn as zip-f
use Rattle.plan.specs.declared.triple.Triple.{Triple}
use Rattle.grid.proofs.OneResult.{OneResult}
use Rattle.plan.proofs.Once.{one-answer}
use Rattle.plan.proofs.refusal.bad_block.Kinds as bad-block-kinds
use Rattle.plan.proofs.refusal.bad_block.Reads as bad-block
use Rattle.plan.proofs.refusal.U32FromRefusal.from.Kinds as number-kinds
use Rattle.plan.proofs.refusal.U32FromRefusal.from.Reads as number
use Rattle.plan.proofs.refusal.accept.Kinds as accept-kinds
use Rattle.plan.proofs.refusal.accept.Reads as accept
use Rattle.plan.proofs.region.owned_by.Kinds as owned-by-kinds
use Rattle.plan.proofs.region.owned_by.Reads as owned-by
use Rattle.plan.proofs.as_block.BlockAsBlock.block.Kinds as block-kinds
use Rattle.plan.proofs.as_block.BlockAsBlock.block.Reads as block
use Rattle.plan.proofs.as_block.ArrayU3212AsBlock.block.Kinds as words-block-kinds
use Rattle.plan.proofs.as_block.ArrayU3212AsBlock.block.Reads as words-block
use Rattle.plan.proofs.triple.Triple+bool.all.Kinds as all-kinds
use Rattle.plan.proofs.triple.Triple+bool.all.Reads as all
use Rattle.plan.proofs.triple.Triple+bool.any.Kinds as any-kinds
use Rattle.plan.proofs.triple.Triple+bool.any.Reads as any
use Rattle.plan.proofs.triple.Triple.map.Kinds as map-kinds
use Rattle.plan.proofs.triple.Triple.map.Reads as map
use Rattle.plan.proofs.triple.Triple.zip_with.Kinds as zip-kinds
use Rattle.plan.proofs.triple.Triple.zip_with.Reads as zip

same-triple : {A : Type 0} {s t : Triple A} → s.x ≡ t.x → s.y ≡ t.y → s.z ≡ t.z → s ≡ t
same-triple p q r = λ i. record { x = p i; y = q i; z = r i }

pub bad-block-unique : OneResult 0 bad-block-kinds.ps bad-block-kinds.r bad-block.Learnt
bad-block-unique κs a z z' e e' l l' = l ∙ sym l'

pub number-unique : OneResult 0 number-kinds.ps number-kinds.r number.Learnt
number-unique κs a z z' e e' l l' = l ∙ sym l'

pub owned-by-unique : OneResult 0 owned-by-kinds.ps owned-by-kinds.r owned-by.Learnt
owned-by-unique κs a z z' e e' l l' = l ∙ sym l'

pub block-unique : OneResult 1 block-kinds.ps block-kinds.r block.Learnt
block-unique κs a z z' e e' l l' = l ∙ sym l'

pub words-block-unique : OneResult 1 words-block-kinds.ps words-block-kinds.r words-block.Learnt
words-block-unique κs a z z' e e' l l' = l ∙ sym l'

pub all-unique : OneResult 0 all-kinds.ps all-kinds.r all.Learnt
all-unique κs a z z' e e' l l' = l ∙ sym l'

pub any-unique : OneResult 0 any-kinds.ps any-kinds.r any.Learnt
any-unique κs a z z' e e' l l' = l ∙ sym l'

-- ---- over any type that stands for a block, and over any values

module _ (B : RattleType) (L : Laws B) (G : as-block.Ghosts B.Denot) (D : Dict) where
  pub accept-unique : OneResult 2 (accept-kinds.ps B L) (accept-kinds.r B L) (accept.Learnt B L G D)
  accept-unique κs a z z' e e' l l' = one-answer z z' (l ∙ sym l')

-- what a closure makes of each, where it makes one thing alone
module _ (T U F : RattleType) (L : Laws T) (L' : Laws U) (M : Laws F) (C : IsCopy T) (K : clone.Ghosts T.Denot) (d : Dict)
    (G : map-f.Ghosts T U F) (d1 d2 d3 d4 : Dict) where
  pub map-unique : ((f : F.Denot) (x : T.Denot) (y y' : U.Denot) → G.post f (x, tt) y → G.post f (x, tt) y' → y ≡ y')
      → OneResult 3 (map-kinds.ps T U F L L' M C) (map-kinds.r T U F L L' M C) (map.Learnt T U F L L' M C K d G d1 d2 d3 d4)
  map-unique one κs a z z' e e' l l' =
      let f = a.1.0 in
      same-triple (one f a.0.x z.x z'.x l.0 l'.0) (one f a.0.y z.y z'.y l.1 l'.1) (one f a.0.z z.z z'.z l.2 l'.2)

module _ (T S U F : RattleType) (L : Laws T) (N : Laws S) (L' : Laws U) (M : Laws F) (C : IsCopy T) (E : IsCopy S)
    (K : clone.Ghosts T.Denot) (d : Dict) (H : clone.Ghosts S.Denot) (d' : Dict) (G : zip-f.Ghosts T S U F) (d1 d2 d3 d4 : Dict) where
  pub zip-with-unique : ((f : F.Denot) (x : T.Denot) (s : S.Denot) (y y' : U.Denot) → G.post f (x, (s, tt)) y → G.post f (x, (s, tt)) y' → y ≡ y')
      → OneResult 4 (zip-kinds.ps T S U F L N L' M C E) (zip-kinds.r T S U F L N L' M C E) (zip.Learnt T S U F L N L' M C E K d H d' G d1 d2 d3 d4)
  zip-with-unique one κs a z z' e e' l l' =
      let g = a.1.0 in
      let f = a.1.1.0 in
      same-triple (one f a.0.x g.x z.x z'.x l.0 l'.0) (one f a.0.y g.y z.y z'.y l.1 l'.1) (one f a.0.z g.z z.z z'.z l.2 l'.2)
