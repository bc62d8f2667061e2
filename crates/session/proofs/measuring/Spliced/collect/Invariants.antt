use Rattle.std.proofs.Common.{◌≡◌, drop, take}
use Rattle.session.specs.Measuring.{spliced}
use Rattle.session.proofs.measuring.Spliced.collect.Given as goal

-- the list has the first k advances
abbrev pub invariant-loop-k : goal.invariant-loop-k
invariant-loop-k l = l.list.items ≡ take l.k (take l.len (drop l.from (spliced l.self)))
