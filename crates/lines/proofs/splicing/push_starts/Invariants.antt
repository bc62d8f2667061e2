use Rattle.std.proofs.Common.{◌≡◌, ◌-◌, ◌++◌, length, map, take}
use Rattle.lines.specs.Splicing.{moved_start}
use Rattle.lines.proofs.splicing.push_starts.Given as goal

abbrev pub invariant-loop-k : goal.invariant-loop-k
invariant-loop-k l = record {
  items : l.list.items ≡ l.fn.list.items ++ map (moved_start l.from l.to) (take l.k l.starts);
}

abbrev pub decreases-loop-k : goal.decreases-loop-k
decreases-loop-k l = length l.starts - l.k
