use Rattle.std.proofs.Common.{◌≡◌, ◌<◌, ℕ, false, get_or, length}
use Rattle.joining.proofs.shaping.clear.Given as goal

abbrev pub invariant-loop-k : goal.invariant-loop-k
invariant-loop-k l = record { len : length l.hidden ≡ length l.fn.hidden; none : (i : ℕ) → i < l.k → get_or l.hidden i false ≡ false }
