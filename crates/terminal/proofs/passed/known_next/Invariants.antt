use Rattle.std.proofs.Common.{◌-◌, length}
use Rattle.terminal.specs.Passed.{HasPassed}
use Rattle.terminal.proofs.passed.known_next.Given as goal

abbrev pub invariant-loop-passed : goal.invariant-loop-passed
invariant-loop-passed l = HasPassed l.passed l.text

abbrev pub decreases-loop-passed : goal.decreases-loop-passed
decreases-loop-passed l = length l.text - l.passed.start
