use Rattle.std.proofs.Common.{◌≡◌, ◌++◌, drop, take}
use Rattle.lines.specs.Bare.{with_ends}
use Rattle.lines.proofs.clusters.put_ends.Given as goal

-- the first k items have their cluster ends, and the others are unchanged
abbrev pub invariant-loop-k : goal.invariant-loop-k
invariant-loop-k l = l.infos ≡ with_ends (take l.k l.fn.infos) (take l.k l.ends) ++ drop l.k l.fn.infos
