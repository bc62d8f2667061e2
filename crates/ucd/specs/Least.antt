-- The least number that passes a test.
use Rattle.std.specs.Prelude.{ℕ, zero, suc, Bool, Option, Some, None, if◌then◌else◌}

-- the least of the `count` numbers from `low` on that passes the test, if any does
abbrev pub least : (ℕ → Bool) → ℕ → ℕ → Option ℕ
least p low zero = None
least p low (suc count) = if p low then Some low else least p (suc low) count
