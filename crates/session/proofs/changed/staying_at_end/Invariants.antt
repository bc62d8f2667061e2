use Rattle.std.proofs.Common.{ℕ, map}
use Rattle.lines.specs.Layouts.{Rules}
use Rattle.session.specs.Matching.{at_width, AreBrought}
use Rattle.session.proofs.ChangedLemmas.{EndSoFar}
use Rattle.session.proofs.changed.staying_at_end.Given as goal

abbrev pub invariant-loop-i : goal.invariant-loop-i
invariant-loop-i g l =
    (rules : Rules) (width : ℕ) → AreBrought rules width (g.S.ParagraphStore.items l.store) l.parts
    → EndSoFar (g.S.ParagraphStore.items l.store) (map (at_width rules width) (g.S.ParagraphStore.items l.store)) l.i l.count
