-- The three outcomes of the call, from what its parts say. Assumes nothing.
use Prim.Native.Nat.{ℕ, ◌%◌}
use mathlib.Core.List.{List, [], ◌∷◌, map}
use mathlib.Core.Path.{◌≡◌, refl, sym, ap, subst, ◌∙◌}
use Rattle.std.specs.Prelude.{Option, Some, None, unwrap_or}
use Rattle.std.proofs.lemmas.Option.{unwrap_or-slice_get}
use lib.ListN.{length, get_or}
use Rattle.lists.specs.Lists.{up_to}
use Rattle.rules.specs.Cutting.{Piece, Plan}
use Rattle.plan.specs.declared.Block.{Block}
use Rattle.plan.specs.Plan.{piece}
use Rattle.witness.specs.declared.search.Wrong.{Wrong}
use Rattle.witness.specs.Witness.{piece_in, count_in, owners, axis_number, refusal, no_block, Tells, holds, told}
use Rattle.plan.specs.Words.{block_of}
use Rattle.plan.proofs.Refused.{number-good}
use Rattle.witness.specs.Steps.{piece_at, axis_of, Good}
use Rattle.witness.specs.Told.{edge_of, words_told, Told, Names}
use Rattle.witness.proofs.Refusals.{chunks, same-pieces, count-chunks, number-in, in-twelves}

module _ (words : List ℕ) (w : Piece) (e : 0 ≡ refusal words w) (old : List ℕ) where
  twelves : length words % 12 ≡ 0
  twelves = in-twelves words w e

  abbrev pub cs : List (List ℕ)
  cs = chunks words

  pub planned_told : Plan (map (piece_at cs) (up_to 0 (length cs))) w → Tells words w 43 old old
  planned_told h = holds (sym e) refl (subst (λ (n : ℕ). Plan (map (piece_in words) (up_to 0 n)) w) (count-chunks words twelves)
      (subst (λ (f : ℕ → Piece). Plan (map f (up_to 0 (length cs))) w) (same-pieces words twelves) h)) refl

  pub wrong_told : (f : Wrong) → Told (piece_at cs) (length cs) w f → (new : List ℕ) → new ≡ words_told f → Tells words w 0 old new
  wrong_told f t new en = go (subst (λ (n : ℕ). Told (piece_in words) n w f) (count-chunks words twelves)
      (subst (λ (g : ℕ → Piece). Told g (length cs) w f) (same-pieces words twelves) t))
    where
      go : Told (piece_in words) (count_in words) w f → Tells words w 0 old new
      go t = told (sym e) refl (edge_of f) t.wrong (en ∙ (λ i. axis_number (axis_of f.axis) ∷ f.at.x ∷ f.at.y ∷ f.at.z ∷ first i ∷ second i ∷ []))
        where
          os : List ℕ
          os = owners (piece_in words) (count_in words) w (edge_of f)

          first : unwrap_or f.first no_block ≡ get_or os 0 no_block
          first = ap (λ o. unwrap_or o no_block) t.first ∙ unwrap_or-slice_get os 0 no_block

          second : unwrap_or f.second no_block ≡ get_or os 1 no_block
          second = ap (λ o. unwrap_or o no_block) t.second ∙ unwrap_or-slice_get os 1 no_block

-- ---- as the code has them: the whole by its words, and the blocks as chunks

module _ (words ws : List ℕ) (b : Block) (eb : b ≡ block_of ws) (blocks : List (List ℕ)) (ec : blocks ≡ chunks words) (e : 0 ≡ refusal words (piece b)) (old : List ℕ) where
  pub all-good : Good blocks b
  all-good =
      let g = number-good block_of (chunks words) b (e ∙ sym (number-in words (in-twelves words (piece b) e) (piece b))) in
      subst (λ (l : List (List ℕ)). Good l b) (sym ec) (g.0.0, g.0.1, g.1)

  module _ (r : Option Wrong) (names : Names (piece_at blocks) (length blocks) (piece b) r) where
    in-words : {a : ℕ} {new : List ℕ} → Tells words (piece b) a old new → Tells words (piece_in ws 0) a old new
    in-words {a = a} {new = new} t = subst (λ (c : Block). Tells words (piece c) a old new) eb t

    here : (q : Option Wrong) → r ≡ q → Names (piece_at (chunks words)) (length (chunks words)) (piece b) q
    here q n = subst (λ (l : List (List ℕ)). Names (piece_at l) (length l) (piece b) q) ec (subst (Names (piece_at blocks) (length blocks) (piece b)) n names)

    pub none_told : r ≡ None → (a : ℕ) → a ≡ 43 → Tells words (piece_in ws 0) a old old
    none_told n a z = in-words (subst (λ (k : ℕ). Tells words (piece b) k old old) (sym z) (planned_told words (piece b) e old (here None n)))

    pub one_told : (f : Wrong) → r ≡ Some f → (new : List ℕ) → new ≡ words_told f → Tells words (piece_in ws 0) 0 old new
    one_told f n new en = in-words (wrong_told words (piece b) e old f (here (Some f) n) new en)
