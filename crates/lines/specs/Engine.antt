-- How calls to an engine change its rules and work counters.
use Rattle.std.specs.Prelude.{◌≡◌, ℕ, ◌+◌, ◌-◌, ◌^◌, ◌≤◌, min, if◌then◌else◌}
use Rattle.lines.specs.Layouts.{Rules}
use Rattle.lines.specs.Printing.{skips_lines}
use Rattle.lines.specs.declared.engine.Engine.{Engine}
use Rattle.lines.specs.declared.printing.print.Print.{Print}

abbrev pub rules_of : Engine → Rules
rules_of engine = engine.rules

abbrev pub analysed_of : Engine → ℕ
analysed_of engine = engine.analysed

abbrev pub filled_of : Engine → ℕ
filled_of engine = engine.filled

abbrev pub written_of : Engine → ℕ
written_of engine = engine.written

-- the rules stay the same
abbrev pub SameRules : Engine → Engine → Type 0
SameRules old new = rules_of new ≡ rules_of old

-- a count increased by n, saturating at 2^64−1
abbrev pub counted : ℕ → ℕ → ℕ
counted count n = min (count + n) (2 ^ 64 - 1)

-- a count increases by at most n
pub record RisesBy (n old new : ℕ) : Type 0 where
  pub least : old ≤ new
  pub most : new ≤ old + n

-- n characters were analysed and filled into lines, and these lines were written
pub record LaysOut (n : ℕ) (old new : Engine) : Type 0 where
  pub analysed : analysed_of new ≡ counted (analysed_of old) n
  pub filled : filled_of new ≡ counted (filled_of old) n
  pub written : written_of new ≡ counted (written_of old) n

pub record LaysOutAtMost (n : ℕ) (old new : Engine) : Type 0 where
  pub analysed : RisesBy n (analysed_of old) (analysed_of new)
  pub filled : RisesBy n (filled_of old) (filled_of new)
  pub written : RisesBy n (written_of old) (written_of new)

-- n characters were filled into lines, and these lines were written; no character was analysed
pub record Fills (n : ℕ) (old new : Engine) : Type 0 where
  pub analysed : analysed_of new ≡ analysed_of old
  pub filled : filled_of new ≡ counted (filled_of old) n
  pub written : written_of new ≡ counted (written_of old) n

pub record FillsAtMost (n : ℕ) (old new : Engine) : Type 0 where
  pub analysed : analysed_of new ≡ analysed_of old
  pub filled : RisesBy n (filled_of old) (filled_of new)
  pub written : RisesBy n (written_of old) (written_of new)

-- n characters were filled: their line starts were found, and no line was written
pub record FindsExtents (n : ℕ) (old new : Engine) : Type 0 where
  pub analysed : analysed_of new ≡ analysed_of old
  pub filled : filled_of new ≡ counted (filled_of old) n
  pub written : written_of new ≡ written_of old

pub record FindsExtentsAtMost (n : ℕ) (old new : Engine) : Type 0 where
  pub analysed : analysed_of new ≡ analysed_of old
  pub filled : RisesBy n (filled_of old) (filled_of new)
  pub written : written_of new ≡ written_of old

-- the lines of n characters were written again; no character was analysed or filled
pub record Rewrites (n : ℕ) (old new : Engine) : Type 0 where
  pub analysed : analysed_of new ≡ analysed_of old
  pub filled : filled_of new ≡ filled_of old
  pub written : written_of new ≡ counted (written_of old) n

pub record RewritesAtMost (n : ℕ) (old new : Engine) : Type 0 where
  pub analysed : analysed_of new ≡ analysed_of old
  pub filled : filled_of new ≡ filled_of old
  pub written : RisesBy n (written_of old) (written_of new)

-- n characters were analysed. If lines are printed, these characters were also filled into lines, and the
-- lines were written.
pub record Prints (n : ℕ) (print : Print) (old new : Engine) : Type 0 where
  pub analysed : analysed_of new ≡ counted (analysed_of old) n
  pub filled : filled_of new ≡ (if skips_lines print then filled_of old else counted (filled_of old) n)
  pub written : written_of new ≡ (if skips_lines print then written_of old else counted (written_of old) n)
