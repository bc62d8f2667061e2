use Rattle.std.specs.List.{slice_range}
use Rattle.session.proofs.ChangedLemmas.{StartSoFar}
use Rattle.session.proofs.changed.matching_at_start.Given as goal

abbrev pub invariant-loop-i : goal.invariant-loop-i
invariant-loop-i g l = StartSoFar (slice_range (g.S.ParagraphStore.items l.store) l.first l.end) l.new l.i l.count
