use Rattle.std.proofs.Common.{length}
use Rattle.terminal.proofs.NumberLemmas.{IsNumbered}
use Rattle.terminal.proofs.numbers.put_numbers.Given as goal

abbrev pub invariant-loop-left : goal.invariant-loop-left
invariant-loop-left l = IsNumbered l.text.links.items l.text.runs.items (length l.text.characters.items) l.left l.end l.numbers

abbrev pub decreases-loop-left : goal.decreases-loop-left
decreases-loop-left l = l.left
