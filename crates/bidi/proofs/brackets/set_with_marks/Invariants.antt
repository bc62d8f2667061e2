use Rattle.std.proofs.Common.{◌-◌, length}
use Rattle.bidi.proofs.BracketLemmas.{Marked}
use Rattle.bidi.proofs.brackets.set_with_marks.Given as goal

abbrev pub invariant-loop-at : goal.invariant-loop-at
invariant-loop-at l = Marked l.explicit l.fn.types l.types l.direction l.place l.at

abbrev pub decreases-loop-at : goal.decreases-loop-at
decreases-loop-at l = length l.initial.types - l.at
