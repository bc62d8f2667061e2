-- What is known about the characters read so far at the start of a line.
use Rattle.std.specs.Prelude.{◌≡◌, ◌*◌, ◌<◌, ◌≤◌, ℕ, true, false, List, length, take}
use Rattle.lines.specs.Filling.{columns, fits_to, must_end}
use Rattle.lines.specs.declared.char_info.CharInfo.{CharInfo}

-- The first `n` characters of `rest` have `sum` columns. The line fits up to each of these characters, and has no
-- mandatory break after any of them.
pub record FitsUpTo (width : ℕ) (rest : List CharInfo) (n sum : ℕ) : Type 0 where
  pub within : n ≤ length rest
  pub sum_is : sum ≡ columns (take n rest)
  pub most : sum ≤ 4294967295 * n
  pub fits : (k : ℕ) → k < n → fits_to width rest k ≡ true
  pub no_must : (k : ℕ) → k < n → must_end rest k ≡ false
