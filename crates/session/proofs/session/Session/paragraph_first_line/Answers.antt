use Rattle.session.proofs.session.Session.paragraph_first_line.Goals as goal

pub returns-clause-line : goal.returns-clause-line
returns-clause-line g c = rw (← c.self.view_is) c.paragraph_first_line.ensures.line

pub returns-clause-none : goal.returns-clause-none
returns-clause-none g c = rw (← c.self.view_is) c.paragraph_first_line.ensures.none
