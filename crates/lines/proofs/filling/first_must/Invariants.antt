use Rattle.std.proofs.Common.{◌≡◌, ◌<◌, false, ℕ}
use Rattle.lines.specs.Filling.{must_end}
use Rattle.lines.proofs.filling.first_must.Given as goal

abbrev pub invariant-loop-k : goal.invariant-loop-k
invariant-loop-k l = (j : ℕ) → j < l.k → must_end l.rest j ≡ false
