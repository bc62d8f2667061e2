use Rattle.session.specs.Kept.{pars_of}
use Rattle.session.specs.Measuring.{spliced}
use Rattle.session.proofs.MeasuringLemmas.{HavePassed}
use Rattle.session.proofs.measuring.has_room.Given as goal

-- the advances of each paragraph so far are within the limit
abbrev pub invariant-loop-i : goal.invariant-loop-i
invariant-loop-i g l = HavePassed (pars_of (g.S.ParagraphStore.items l.store)) (spliced l.list) l.first l.end l.i l.from
