use Rattle.lines.proofs.MeasureLemmas.{AreWritten}
use Rattle.lines.proofs.laid.put_each_width.Given as goal

abbrev pub invariant-loop-n : goal.invariant-loop-n
invariant-loop-n l = AreWritten l.tab_width l.text l.advances l.lines.lines l.n l.widths
