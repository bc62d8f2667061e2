use Rattle.std.proofs.Common.{◌≡◌, ◌<◌, ◌||◌, false, ℕ}
use Rattle.lines.specs.Filling.{cluster_ends_at, may_end}
use Rattle.lines.proofs.filling.first_end.Given as goal

abbrev pub invariant-loop-k : goal.invariant-loop-k
invariant-loop-k l = (j : ℕ) → j < l.k → (may_end l.rest j || cluster_ends_at l.rest j) ≡ false
