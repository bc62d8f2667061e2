-- How the work counters increase. No contract of an exported function uses these definitions.
use Rattle.std.specs.Prelude.{◌≡◌, ℕ}
use Rattle.lines.specs.Engine.{counted, RisesBy}
use Rattle.lines.specs.declared.counts.Counts.{Counts}

-- n characters were analysed and filled into lines, and these lines were written
pub record LaysOutAll (n : ℕ) (old new : Counts) : Type 0 where
  pub analysed : new.analysed ≡ counted old.analysed n
  pub filled : new.filled ≡ counted old.filled n
  pub written : new.written ≡ counted old.written n

-- each counter increases by at most n, even if the call fails
pub record LaysOutSome (n : ℕ) (old new : Counts) : Type 0 where
  pub analysed : RisesBy n old.analysed new.analysed
  pub filled : RisesBy n old.filled new.filled
  pub written : RisesBy n old.written new.written

-- n characters were filled into lines, and these lines were written; no character was analysed
pub record FillsAll (n : ℕ) (old new : Counts) : Type 0 where
  pub analysed : new.analysed ≡ old.analysed
  pub filled : new.filled ≡ counted old.filled n
  pub written : new.written ≡ counted old.written n

pub record FillsSome (n : ℕ) (old new : Counts) : Type 0 where
  pub analysed : new.analysed ≡ old.analysed
  pub filled : RisesBy n old.filled new.filled
  pub written : RisesBy n old.written new.written

-- n characters were filled: their line starts were found, and no line was written
pub record FindsAll (n : ℕ) (old new : Counts) : Type 0 where
  pub analysed : new.analysed ≡ old.analysed
  pub filled : new.filled ≡ counted old.filled n
  pub written : new.written ≡ old.written

pub record FindsSome (n : ℕ) (old new : Counts) : Type 0 where
  pub analysed : new.analysed ≡ old.analysed
  pub filled : RisesBy n old.filled new.filled
  pub written : new.written ≡ old.written

-- no counter increases
pub record IsSameCount (old new : Counts) : Type 0 where
  pub analysed : new.analysed ≡ old.analysed
  pub filled : new.filled ≡ old.filled
  pub written : new.written ≡ old.written
