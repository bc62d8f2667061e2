-- Booleans as numbers.
use Rattle.std.specs.Prelude.{ℕ, Bool, if◌then◌else◌}

-- a Boolean as a number: 1 for true, 0 for false
abbrev pub flag : Bool → ℕ
flag is = if is then 1 else 0
