-- The state of the search for the character after a CR. No contract of an exported function uses these definitions.
use Rattle.std.specs.Prelude.{◌≡◌, ℕ, ◌+◌, ◌≤◌, List, ◌++◌, length, take, drop}
use Rattle.sequences.specs.Progress.{after_all}
use Rattle.sequences.specs.declared.known.Progress.TheVariants.{Start}
use Rattle.terminal.specs.Ends.{knows_next}
use Rattle.terminal.specs.Texts.{next_character}
use Rattle.terminal.specs.declared.passed.Passed.{Passed}

-- Whatever follows, removing the first n characters of a text does not change its next character.
pub record Skips (n : ℕ) (text : List ℕ) : Type 0 where
  pub next : (more : List ℕ) → next_character (text ++ more) ≡ next_character (drop n text ++ more)
  pub known : (more : List ℕ) → knows_next (text ++ more) ≡ knows_next (drop n text ++ more)

-- The first part whose end is not known begins at index `start` of a text. `scanned` characters of this part
-- were scanned.
pub record HasPassed (passed : Passed) (text : List ℕ) : Type 0 where
  pub within : passed.start + passed.scanned ≤ length text
  pub skips : Skips passed.start text
  pub progress : passed.progress ≡ after_all Start (take passed.scanned (drop passed.start text))
