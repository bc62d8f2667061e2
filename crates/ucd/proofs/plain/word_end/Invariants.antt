use Rattle.std.proofs.Common.{◌-◌, ◌≤◌, length}
use Rattle.ucd.specs.PlainLines.{AreWord}
use Rattle.ucd.proofs.plain.word_end.Given as goal

-- the bytes from `start` to `end` belong to a word
abbrev pub invariant-loop-end : goal.invariant-loop-end
invariant-loop-end l = record {
  from : l.start ≤ l.end;
  within : l.end ≤ length l.line;
  each : AreWord l.line l.start l.end;
}

abbrev pub decreases-loop-end : goal.decreases-loop-end
decreases-loop-end l = length l.line - l.end
