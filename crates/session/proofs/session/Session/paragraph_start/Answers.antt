use Rattle.session.proofs.session.Session.paragraph_start.Goals as goal

pub returns-clause-start : goal.returns-clause-start
returns-clause-start g c = rw (← c.self.view_is) c.paragraph_start.ensures.start

pub returns-clause-none : goal.returns-clause-none
returns-clause-none g c = rw (← c.self.view_is) c.paragraph_start.ensures.none
