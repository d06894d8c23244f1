-- The biases of n triangles taken off a total: as if there were 2^33, so that one subtraction, of 2^24 from the upper word, is left. Assumes nothing.
use Rattle.std.proofs.Common.{◌≡◌, ℕ, ◌+◌, ◌-◌, ◌*◌, ◌/◌, ◌%◌, ◌^◌, ◌<◌, ◌≤◌, ℤ, pos, ◌-ℤ◌, sym, ap, ◌∙◌, ap₂, lt_of_lt_of_le, lt_of_le_of_lt, div-le_self, arith, lit≤, w64, SFits, to_z, of_z}
use Rattle.volume.proofs.Bounds.{fits-64}
use Rattle.weigh.specs.Words.{high_of, low_of}
use Rattle.weigh.specs.Answers.{Answer, says}
use Rattle.weigh.proofs.Whole.{same-difference}
use Rattle.weigh.proofs.Words.{high-minus, low-minus, minus-fits, minus-read, plain}

-- a quotient is not above its number
quotient-below : (m : ℕ) → m < 2 ^ 62 → m / 4294967296 < 2 ^ 62
quotient-below m h = lt_of_le_of_lt (div-le_self m 4294967296) h

module _ (high low shadow n : ℕ) (l : low < 2 ^ 32) (s : high * 2 ^ 32 + low ≤ n * 2 ^ 57) (d : shadow ≤ n * 2 ^ 22) (few : n ≤ 2 ^ 33) where
  -- the upper part with the biases of the triangles that there are not
  abbrev filled : ℕ
  filled = high + (8589934592 - n) * 8388608

  all : filled * 4294967296 + low ≡ high * 2 ^ 32 + low + (8589934592 - n) * 2 ^ 55
  all = omega arith

  sum_is : pos (high * 2 ^ 32 + low) -ℤ pos (n * 2 ^ 55) ≡ pos (filled * 4294967296 + low) -ℤ pos (16777216 * 2 ^ 64)
  sum_is = same-difference (high * 2 ^ 32 + low) (n * 2 ^ 55) (filled * 4294967296 + low) (16777216 * 2 ^ 64) (omega (arith, all))

  upper : (f : ℕ) → (f * 4294967296 + low) / 2 ^ 64 ≡ f / 4294967296
  upper f = omega arith

  lower : (f : ℕ) → (f * 4294967296 + low) % 2 ^ 64 ≡ f % 4294967296 * 4294967296 + low
  lower f = omega arith

  high-most : high ≤ n * 2 ^ 25
  high-most = omega arith

  above_most : filled / 4294967296 < 2 ^ 62
  above_most = let h : filled < 2 ^ 62 = omega (arith, high-most) in quotient-below filled h

  high_read : to_z w64 (filled / 4294967296) -ℤ pos 16777216 ≡ pos (filled / 4294967296) -ℤ pos 16777216
  high_read = ap (λ (z : ℤ). z -ℤ pos 16777216) (plain (filled / 4294967296) above_most)

  shadow-read : to_z w64 shadow -ℤ to_z w64 (n * 2097152) ≡ pos shadow -ℤ pos (n * 2097152)
  shadow-read = ap₂ ◌-ℤ◌ (plain shadow (omega arith)) (plain (n * 2097152) (omega arith))

  pub above-fits : SFits w64 (pos (filled / 4294967296))
  above-fits = fits-64 (pos (filled / 4294967296)) (lt_of_lt_of_le above_most (lit≤ tt))

  pub high_fits : SFits w64 (to_z w64 (filled / 4294967296) -ℤ pos 16777216)
  high_fits = rw high_read (minus-fits (filled / 4294967296) 16777216 above_most (omega arith))

  pub shadow-fits : SFits w64 (to_z w64 shadow -ℤ to_z w64 (n * 2097152))
  shadow-fits = rw shadow-read (minus-fits shadow (n * 2097152) (omega arith) (omega arith))

  pub unbiased : ◌≡◌ {A = Answer}
      (record {
        answer = 0;
        low = filled % 4294967296 * 4294967296 + low;
        high = to_z w64 (of_z w64 (to_z w64 (filled / 4294967296) -ℤ pos 16777216));
        shadow = to_z w64 (of_z w64 (to_z w64 shadow -ℤ to_z w64 (n * 2097152)));
      })
      (says 0 (pos (high * 2 ^ 32 + low) -ℤ pos (n * 2 ^ 55)) (pos shadow -ℤ pos (n * 2 ^ 21)))
  unbiased =
      let p : filled % 4294967296 * 4294967296 + low ≡ low_of (pos (high * 2 ^ 32 + low) -ℤ pos (n * 2 ^ 55)) =
      sym (lower filled) ∙ sym (low-minus (filled * 4294967296 + low) 16777216) ∙ ap low_of (sym sum_is) in
      let q : to_z w64 (of_z w64 (to_z w64 (filled / 4294967296) -ℤ pos 16777216)) ≡ high_of (pos (high * 2 ^ 32 + low) -ℤ pos (n * 2 ^ 55)) =
      ap (λ (z : ℤ). to_z w64 (of_z w64 z)) high_read
      ∙ minus-read (filled / 4294967296) 16777216 above_most (omega arith)
      ∙ ap (λ (m : ℕ). pos m -ℤ pos 16777216) (sym (upper filled))
      ∙ sym (high-minus (filled * 4294967296 + low) 16777216)
      ∙ ap high_of (sym sum_is) in
      let r : to_z w64 (of_z w64 (to_z w64 shadow -ℤ to_z w64 (n * 2097152))) ≡ pos shadow -ℤ pos (n * 2097152) =
      ap (λ (z : ℤ). to_z w64 (of_z w64 z)) shadow-read ∙ minus-read shadow (n * 2097152) (omega arith) (omega arith) in
      λ i. record { answer = 0; low = p i; high = q i; shadow = r i }
