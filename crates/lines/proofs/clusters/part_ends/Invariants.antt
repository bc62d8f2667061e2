use Rattle.std.proofs.Common.{◌≡◌, ◌-◌, ◌<◌}
use Rattle.lines.proofs.EndLemmas.{ends_up_to}
use Rattle.lines.proofs.clusters.part_ends.Given as goal

-- the ends found so far are those before k
abbrev pub invariant-loop-k : goal.invariant-loop-k
invariant-loop-k l = (0 < l.k) × (l.found.items ≡ ends_up_to l.ends l.start l.len (l.k - 1))
