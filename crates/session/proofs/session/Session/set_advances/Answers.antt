use Rattle.session.specs.Sessions.{state_of}
use Rattle.session.proofs.StateLemmas.{changed_as, if_err, if_ok, if_ok_both, advances_with, remains_with}
use Rattle.session.proofs.session.Session.set_advances.Goals as goal

pub returns-clause-ok : goal.returns-clause-ok
returns-clause-ok g c =
    let it = c.self.inside in
    let old = state_of it.engine it.form.width it.form.is_measured (g.S.ParagraphStore.items it.store) in
    let new = state_of c.set_advances.new.engine it.form.width it.form.is_measured (g.S.ParagraphStore.items c.set_advances.new.store) in
    rw (← c.self.view_is) (if_ok _ _ c.set_advances.result (advances_with old new it.changed c.set_advances.new.changed c.args.pos c.args.advances.now) c.set_advances.ensures.ok)

pub returns-clause-err : goal.returns-clause-err
returns-clause-err g c =
    let it = c.self.inside in
    let old = state_of it.engine it.form.width it.form.is_measured (g.S.ParagraphStore.items it.store) in
    let new = state_of c.set_advances.new.engine it.form.width it.form.is_measured (g.S.ParagraphStore.items c.set_advances.new.store) in
    rw (← c.self.view_is) (if_err _ _ c.set_advances.result (remains_with old new it.changed c.set_advances.new.changed _ _) c.set_advances.ensures.err)

pub returns-clause-changed : goal.returns-clause-changed
returns-clause-changed g c =
    let it = c.self.inside in
    let old = state_of it.engine it.form.width it.form.is_measured (g.S.ParagraphStore.items it.store) in
    let new = state_of c.set_advances.new.engine it.form.width it.form.is_measured (g.S.ParagraphStore.items c.set_advances.new.store) in
    rw (← c.self.view_is) (if_ok_both _ _ _ c.set_advances.result
    (λ damage does found. changed_as c.paragraphs_are_pieces.ensures c.lines_begin_in_order.ensures it.engine c.set_advances.new.engine it.form.width it.form.width it.form.is_measured
    (g.S.ParagraphStore.items it.store) (g.S.ParagraphStore.items c.set_advances.new.store) c.self.invariant does.laid_out damage c.set_advances.new.changed found)
    c.set_advances.ensures.ok c.set_advances.ensures.changed)
