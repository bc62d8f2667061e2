use Rattle.std.proofs.Common.{◌<◌, ◌≤◌, ℕ, slice_index_or}
use Rattle.hordguli_c.proofs.row_calls.are_levels.Given as goal

abbrev pub invariant-loop-k : goal.invariant-loop-k
invariant-loop-k l = (j d : ℕ) → j < l.k → slice_index_or l.levels j d ≤ 126
