use Rattle.std.proofs.Common.{length, ◌-◌}
use Rattle.joining.proofs.ShapingLemmas.{IsJoined}
use Rattle.joining.proofs.shaping.join_letters.Given as goal

abbrev pub invariant-loop-at : goal.invariant-loop-at
invariant-loop-at g l =
    IsJoined (g.F.LetterForms.forms l.forms) (g.J.Joiners.all l.text) l.fn.characters l.at l.joins_before l.before l.characters l.hidden

abbrev pub decreases-loop-at : goal.decreases-loop-at
decreases-loop-at g l = length l.initial.characters - l.at
