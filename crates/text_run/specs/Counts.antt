-- Upper bounds on the increase of an engine's counters.
use Rattle.std.specs.Prelude.{◌≡◌, ℕ, true}
use Rattle.lines.specs.Engine.{filled_of, written_of, LaysOutAtMost}
use Rattle.lines.specs.Printing.{skips_lines}
use Rattle.lines.specs.declared.engine.Engine.{Engine}
use Rattle.lines.specs.declared.printing.print.Print.{Print}

-- Each counter increased by at most n. If no line is printed, the counts of filled and written characters are
-- unchanged.
pub record PrintsAtMost (n : ℕ) (print : Print) (old new : Engine) : Type 0 where
  pub at_most : LaysOutAtMost n old new
  pub skipped : skips_lines print ≡ true → (filled_of new ≡ filled_of old) × (written_of new ≡ written_of old)
