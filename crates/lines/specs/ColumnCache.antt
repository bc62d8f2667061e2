-- The entries of the cache of columns.
use Rattle.std.specs.Prelude.{ℕ, ◌/◌, ◌%◌, ◌==◌, Bool}
use Rattle.lines.specs.CharInfos.{columns_of}

-- whether an entry holds the right number of columns for its character
abbrev pub is_right : ℕ → Bool
is_right entry = columns_of (entry / 4) == entry % 4
