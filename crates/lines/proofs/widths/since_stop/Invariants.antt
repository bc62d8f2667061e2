use Rattle.lines.proofs.WidthLemmas.{AreSince}
use Rattle.lines.proofs.widths.since_stop.Given as goal

abbrev pub invariant-loop-start : goal.invariant-loop-start
invariant-loop-start l = AreSince l.text l.k l.start l.sum

abbrev pub decreases-loop-start : goal.decreases-loop-start
decreases-loop-start l = l.start
