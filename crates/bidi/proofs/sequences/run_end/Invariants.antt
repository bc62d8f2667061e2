use Rattle.std.proofs.Common.{◌≡◌, ℕ, ◌-◌, ◌<◌, ◌≤◌, length, get_or}
use Rattle.bidi.proofs.sequences.run_end.Given as goal

abbrev pub invariant-loop-end : goal.invariant-loop-end
invariant-loop-end l = (l.start < l.«end») × (l.«end» ≤ length l.levels) × ((k : ℕ) → l.start < k → k < l.«end» → get_or l.levels (k - 1) 0 ≡ get_or l.levels k 0)

abbrev pub decreases-loop-end : goal.decreases-loop-end
decreases-loop-end l = length l.levels - l.«end»
