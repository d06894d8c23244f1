-- The bounds of the volume by three counts, applied to bed_tally, bed_is_enclosed and bed_surface_nets on the bed of OnePoint: no cell lies wholly in the sludge, the surface
-- passes through eight and has six faces, and the skin of 6·85³ lies between. Assumes nothing.
use Prim.Native.Nat.{ℕ}
use mathlib.Core.Bool.{true, false}
use mathlib.Core.List.{List, [], ◌∷◌}
use mathlib.Core.Path.{◌≡◌, refl, sym, ap, subst}
use lib.IntN.{pos}
use lib.Signed.{◌≤ℤ◌}
use Rattle.bed.specs.Words12.{block_words}
use Rattle.bed.specs.Tallied.{counts_left}
use Rattle.bed.proofs.Places.{TallyCall, EnclosedCall}
use Rattle.tally.specs.Call.{Told, counted, told, tally_answer, tallied}
use Rattle.tallied_bed.specs.Between.{Between}
use Rattle.tallied_bed.proofs.Functions.{bed-tally-bounds}
use Rattle.applied.proofs.Made.{to, to_mut}
use Rattle.applied.proofs.OnePoint.{opened, grid, bed_whole, whole-examined}
use Rattle.applied.proofs.Bounded.{whole-weight}

-- the twelve words: dimensions, min, max and no max plane
abbrev words : List ℕ
words = 4 ∷ 4 ∷ 4 ∷ 0 ∷ 0 ∷ 0 ∷ 3 ∷ 3 ∷ 3 ∷ 0 ∷ 0 ∷ 0 ∷ []

-- what stands in the three words before
abbrev old : List ℕ
old = 70 ∷ 71 ∷ 72 ∷ []

pub whole-tallied : tallied grid (block_words words) ≡ told 0 (counted 0 8 36)
unfolding opened tallied tally_answer
whole-tallied = refl

abbrev whole_tally : TallyCall
whole_tally =
    record {
      lifetimes = ([], ([], ([], tt)));
      args = (to grid, (to words, (to_mut old, tt)));
      result = 0;
      last = (tt, (tt, (0 ∷ 8 ∷ 36 ∷ [], tt)));
      fits = (sym (ap (λ (t : Told). t.answer) whole-tallied), sym (ap (λ (t : Told). counts_left t old) whole-tallied));
    }

abbrev whole_asked : EnclosedCall
whole_asked =
    record {
      lifetimes = ([], ([], ([], tt)));
      args = (to grid, (to words, (to_mut false, tt)));
      result = 0;
      last = (tt, (tt, (true, tt)));
      fits = whole-examined;
    }

pub whole-between : Between (counted 0 8 36) (pos 3684750)
whole-between = subst (Between (counted 0 8 36)) whole-weight (bed-tally-bounds whole_tally whole_asked bed_whole refl refl refl refl refl).0

-- 36·3,684,750 is at most 6·256³·(36·(0 + 8) + 36)
pub whole-most : pos 132651000 ≤ℤ pos 32614907904
unfolding opened
whole-most = whole-between.high
