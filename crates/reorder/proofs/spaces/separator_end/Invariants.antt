use Rattle.std.proofs.Common.{◌≤◌}
use Rattle.reorder.specs.NoEnds.{AreNoEnds}
use Rattle.reorder.proofs.spaces.separator_end.Given as goal

abbrev pub invariant-loop-at : goal.invariant-loop-at
invariant-loop-at g l = record {
  within : l.at ≤ l.end;
  passed : AreNoEnds (g.C.Classes.all l.line) l.at l.end;
}

abbrev pub decreases-loop-at : goal.decreases-loop-at
decreases-loop-at g l = l.at

abbrev pub invariant-loop-at-2 : goal.invariant-loop-at-2
invariant-loop-at-2 g l = record {
  within : l.at ≤ l.end;
  passed : AreNoEnds (g.C.Classes.all l.line) l.at l.end;
}

abbrev pub decreases-loop-at-2 : goal.decreases-loop-at-2
decreases-loop-at-2 g l = l.at
