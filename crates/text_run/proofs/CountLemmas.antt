-- The counters of an engine after several calls.
use Rattle.std.proofs.Common.{◌≡◌, ℕ, ◌+◌, ◌-◌, ◌^◌, ◌≤◌, min, Bool, true, false, Some, refl, sym, ap, ◌∙◌, arith, true≢false, if◌then◌else◌}
use Rattle.lines.specs.Engine.{analysed_of, counted, filled_of, written_of, Prints, RisesBy}
use Rattle.lines.specs.Printing.{skips_lines}
use Rattle.lines.specs.declared.engine.Engine.{Engine}
use Rattle.lines.specs.declared.printing.print.Print.{Print}
use Rattle.text_run.specs.Counts.{PrintsAtMost}
use Rattle.text_run.specs.TextRun.{HasPrinted}
use Rattle.text_run.specs.declared.faults.RunFault.{RunFault}
use Rattle.text_run.specs.declared.faults.RunFault.TheVariants as f

min_twice : (b count m n : ℕ) → min (min (count + m) b + n) b ≡ min (count + (m + n)) b
min_twice b count m n = omega arith

min_none : (b count : ℕ) → count ≤ b → min (count + 0) b ≡ count
min_none b count fits = omega arith

min_rises : (b count n : ℕ) → count ≤ b → (count ≤ min (count + n) b) × (min (count + n) b ≤ count + n)
min_rises b count n fits = (omega arith, omega arith)

min_fits : (b count : ℕ) → count ≡ min (count + 0) b → count ≤ b
min_fits b count is = omega (arith, is)

counted_twice : (count m n : ℕ) → counted (counted count m) n ≡ counted count (m + n)
counted_twice count m n = min_twice (2 ^ 64 - 1) count m n

unless_twice : (skips : Bool) (old mid new m n : ℕ) → mid ≡ (if skips then old else counted old m) → new ≡ (if skips then mid else counted mid n) → new ≡ (if skips then old else counted old (m + n))
unless_twice true old mid new m n a b = b ∙ a
unless_twice false old mid new m n a b = b ∙ ap (λ c. counted c n) a ∙ counted_twice old m n

unless_none : (skips : Bool) (count : ℕ) → count ≤ 2 ^ 64 - 1 → count ≡ (if skips then count else counted count 0)
unless_none true count fits = refl
unless_none false count fits = sym (min_none (2 ^ 64 - 1) count fits)

unless_rises : (skips : Bool) (old new n : ℕ) → old ≡ (if skips then old else counted old 0) → new ≡ (if skips then old else counted old n) → RisesBy n old new
unless_rises true old new n fits is = record { least = omega (arith, is); most = omega (arith, is) }
unless_rises false old new n fits is =
    let both = min_rises (2 ^ 64 - 1) old n (min_fits (2 ^ 64 - 1) old fits) in
    record { least = omega (arith, is, both.0); most = omega (arith, is, both.1) }

unless_skips : (skips : Bool) (old new n : ℕ) → new ≡ (if skips then old else counted old n) → skips ≡ true → new ≡ old
unless_skips true old new n is skipped = is
unless_skips false old new n is skipped = absurd (true≢false (sym skipped))

module _ (print : Print) where
  pub prints_none : (engine : Engine) → analysed_of engine ≤ 2 ^ 64 - 1 → filled_of engine ≤ 2 ^ 64 - 1 → written_of engine ≤ 2 ^ 64 - 1 → Prints 0 print engine engine
  prints_none engine analysed filled written = record {
    analysed = sym (min_none (2 ^ 64 - 1) (analysed_of engine) analysed);
    filled = unless_none (skips_lines print) (filled_of engine) filled;
    written = unless_none (skips_lines print) (written_of engine) written;
  }

  pub prints_more : (old mid new : Engine) (m n : ℕ) → Prints m print old mid → Prints n print mid new → Prints (m + n) print old new
  prints_more old mid new m n a b = record {
    analysed = b.analysed ∙ ap (λ c. counted c n) a.analysed ∙ counted_twice (analysed_of old) m n;
    filled = unless_twice (skips_lines print) (filled_of old) (filled_of mid) (filled_of new) m n a.filled b.filled;
    written = unless_twice (skips_lines print) (written_of old) (written_of mid) (written_of new) m n a.written b.written;
  }

  pub at_most_none : (engine : Engine) → PrintsAtMost 0 print engine engine
  at_most_none engine = record {
    at_most = record {
      analysed = record { least = omega arith; most = omega arith };
      filled = record { least = omega arith; most = omega arith };
      written = record { least = omega arith; most = omega arith };
    };
    skipped = λ skips. (refl, refl);
  }

  rises_more : (old mid new m n k : ℕ) → RisesBy m old mid → RisesBy n mid new → m + n ≤ k → RisesBy k old new
  rises_more old mid new m n k a b few = record { least = omega (arith, a.least, b.least); most = omega (arith, a.most, b.most) }

  pub at_most_more : (old mid new : Engine) (m n k : ℕ) → PrintsAtMost m print old mid → PrintsAtMost n print mid new → m + n ≤ k → PrintsAtMost k print old new
  at_most_more old mid new m n k a b few = record {
    at_most = record {
      analysed = rises_more (analysed_of old) (analysed_of mid) (analysed_of new) m n k a.at_most.analysed b.at_most.analysed few;
      filled = rises_more (filled_of old) (filled_of mid) (filled_of new) m n k a.at_most.filled b.at_most.filled few;
      written = rises_more (written_of old) (written_of mid) (written_of new) m n k a.at_most.written b.at_most.written few;
    };
    skipped = λ skips. ((b.skipped skips).0 ∙ (a.skipped skips).0, (b.skipped skips).1 ∙ (a.skipped skips).1);
  }

  -- if `Prints` holds for n characters, so does `PrintsAtMost`
  pub at_most_printed : (old new : Engine) (n : ℕ) → Prints 0 print old old → Prints n print old new → PrintsAtMost n print old new
  at_most_printed old new n fits a = record {
    at_most = record {
      analysed = unless_rises false (analysed_of old) (analysed_of new) n fits.analysed a.analysed;
      filled = unless_rises (skips_lines print) (filled_of old) (filled_of new) n fits.filled a.filled;
      written = unless_rises (skips_lines print) (written_of old) (written_of new) n fits.written a.written;
    };
    skipped = λ skips. (
      unless_skips (skips_lines print) (filled_of old) (filled_of new) n a.filled skips,
      unless_skips (skips_lines print) (written_of old) (written_of new) n a.written skips,
    );
  }

-- after any fault, `Prints` implies `HasPrinted` for the same number of characters
pub printed_as : (fault : RunFault) (n : ℕ) (print : Print) (old new : Engine) → Prints n print old new → HasPrinted (Some fault) n print old new
printed_as f.Read n print old new counts = counts
printed_as (f.Write m) n print old new counts = tt
printed_as (f.NotUtf8 m) n print old new counts = counts
printed_as f.ParagraphTooLong n print old new counts = counts
printed_as f.TextTooLong n print old new counts = counts
printed_as (f.BadLine m) n print old new counts = counts
printed_as f.Memory n print old new counts = tt
