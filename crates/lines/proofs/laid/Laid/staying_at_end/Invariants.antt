use Rattle.std.proofs.Common.{ℕ, ◌<◌, ◌-◌, length}
use Rattle.lines.specs.Matching.{HaveSamePlace}
use Rattle.lines.proofs.laid.Laid.staying_at_end.Given as goal

abbrev pub invariant-loop-k : goal.invariant-loop-k
invariant-loop-k l = (j : ℕ) → j < l.k → HaveSamePlace (length l.self.text) l.old l.extents (l.len - j - 1) (l.new_len - j - 1)
