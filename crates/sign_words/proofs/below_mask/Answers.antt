-- `sign_words::below_mask` meets its contract: as many bits as n is past the word's first place, and all where it is past the last. Assumes nothing.
use Prim.Native.Nat.{◌*◌}
use native.Mathlib.Omega.{arith}
use mathlib.Core.Path.{sym, ap, ◌∙◌}
use Prim.Native.Nat.{ℕ, ◌-◌, ◌%◌, ◌^◌}
use Rattle.sign_words.proofs.Word.{word-within, bit_below}
use Rattle.sign_words.proofs.below_mask.Goals as goal

pub returns-then-places-lt64 : goal.returns-then-places-lt64
returns-then-places-lt64 c =
    ap (λ (k : ℕ). 1 * 2 ^ k % 18446744073709551616 - 1) c.saturating_sub-places.ensures ∙ bit_below c.args.n (64 * c.args.i) (omega arith)

pub returns-else-places-lt64 : goal.returns-else-places-lt64
returns-else-places-lt64 c = sym (word-within c.args.n (64 * c.args.i) 64 (omega arith))
