use Rattle.std.proofs.Common.{Bool, subst}
use Rattle.session.specs.Sessions.{state_of, IsWholeLayout}
use Rattle.session.proofs.StateLemmas.{changed_as}
use Rattle.session.proofs.session.Session.set_measured_width.Goals as goal
use Rattle.session.proofs.session.Session.set_measured_width.Goals.{in-Ok, in-Err}

pub returns-clause-changed : goal.returns-clause-changed
returns-clause-changed g c =
    let it = c.self.inside in
    let kept = g.S.ParagraphStore.items it.store in
    let made = g.S.ParagraphStore.items c.set_width.new.store in
    elim c.match-set_width.branch [
      | in-Ok w ↦ rw w.result-is (rw (← c.self.view_is) (changed_as c.paragraphs_are_pieces.ensures c.lines_begin_in_order.ensures it.engine c.set_width.new.engine it.form.width c.set_width.new.form.width it.form.is_measured
          kept made c.self.invariant
          (subst (λ (m : Bool). IsWholeLayout (state_of c.set_width.new.engine c.set_width.new.form.width m made)) c.set_width.ensures.measured w.in-Ok.ensures.ok.laid_out) w.in-Ok.damage c.set_width.new.changed w.in-Ok.ensures.changed))
      | in-Err w ↦ rw w.result-is tt
    ]
