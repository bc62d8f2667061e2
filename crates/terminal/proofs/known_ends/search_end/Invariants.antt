use Rattle.std.proofs.Common.{◌+◌, drop}
use Rattle.lines.specs.Engine.{rules_of}
use Rattle.lines.specs.Layouts.{cut_by}
use Rattle.terminal.specs.Ends.{AreNoEnds}
use Rattle.terminal.specs.Passed.{HasPassed}
use Rattle.terminal.proofs.known_ends.search_end.Given as goal

abbrev pub invariant-loop-k : goal.invariant-loop-k
invariant-loop-k l = record { none : AreNoEnds (cut_by (rules_of l.engine)) l.k l.text; passed : HasPassed l.passed (drop (l.k + 1) l.text) }
