use Rattle.std.proofs.Common.{◌-◌, ◌≤◌, length}
use Rattle.ucd.specs.PlainLines.{AreSpaces}
use Rattle.ucd.proofs.plain.spaces_end.Given as goal

-- the bytes from `start` to `end` are spaces
abbrev pub invariant-loop-end : goal.invariant-loop-end
invariant-loop-end l = record {
  from : l.start ≤ l.end;
  within : l.end ≤ length l.line;
  each : AreSpaces l.line l.start l.end;
}

abbrev pub decreases-loop-end : goal.decreases-loop-end
decreases-loop-end l = length l.line - l.end
