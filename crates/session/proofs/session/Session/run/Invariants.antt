use Rattle.session.proofs.RunLemmas.{HasRun}
use Rattle.session.proofs.session.Session.run.Given as goal

abbrev pub invariant-loop-edit : goal.invariant-loop-edit
invariant-loop-edit g l = HasRun l.fn.self l.edits l.edit-index l.self
