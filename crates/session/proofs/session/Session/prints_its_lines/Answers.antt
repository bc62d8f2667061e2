use Rattle.lines.specs.declared.printing.print.Print.{Print}
use Rattle.session.specs.Sessions.{SessionState, state_of}
use Rattle.session.proofs.PrintLemmas.{page_by_lines}
use Rattle.session.proofs.session.Session.prints_its_lines.Goals as goal

pub returns : goal.returns
returns g c =
    let state : SessionState = state_of c.self.inside.engine c.self.inside.form.width c.self.inside.form.is_measured (g.S.ParagraphStore.items c.self.inside.store) in
    rw (← c.self.view_is) (λ (print : Print). page_by_lines c.paragraphs_print_their_lines.ensures state print c.self.invariant)
