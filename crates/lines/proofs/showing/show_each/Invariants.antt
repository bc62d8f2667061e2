use Rattle.std.proofs.Common.{◌-◌, length}
use Rattle.lines.proofs.ShowLemmas.{Showing}
use Rattle.lines.proofs.showing.show_each.Given as goal

abbrev pub invariant-loop-k : goal.invariant-loop-k
invariant-loop-k l = Showing l.text l.fn.levels l.extents l.k l.levels l.ltov l.vtol l.chars

abbrev pub decreases-loop-k : goal.decreases-loop-k
decreases-loop-k l = length l.starts - l.k
