use Rattle.std.specs.Str.{chars}
use Rattle.session.specs.Edits.{replacing}
use Rattle.session.specs.Sessions.{state_of}
use Rattle.session.proofs.StateLemmas.{changed_as, if_err, if_ok, if_ok_both, edits_with, stays_with}
use Rattle.session.proofs.session.Session.replace.Goals as goal

pub returns-clause-ok : goal.returns-clause-ok
returns-clause-ok g c =
    let it = c.self.inside in
    let old = state_of it.engine it.form.width it.form.is_measured (g.S.ParagraphStore.items it.store) in
    let new = state_of c.replace.new.engine it.form.width it.form.is_measured (g.S.ParagraphStore.items c.replace.new.store) in
    rw (← c.self.view_is) (if_ok _ _ c.replace.result (edits_with old new it.changed c.replace.new.changed (replacing c.args.pos c.args.count (chars c.args.piece.now))) c.replace.ensures.ok)

pub returns-clause-err : goal.returns-clause-err
returns-clause-err g c =
    let it = c.self.inside in
    let old = state_of it.engine it.form.width it.form.is_measured (g.S.ParagraphStore.items it.store) in
    let new = state_of c.replace.new.engine it.form.width it.form.is_measured (g.S.ParagraphStore.items c.replace.new.store) in
    rw (← c.self.view_is) (if_err _ _ c.replace.result (stays_with old new it.changed c.replace.new.changed _ _) c.replace.ensures.err)

pub returns-clause-changed : goal.returns-clause-changed
returns-clause-changed g c =
    let it = c.self.inside in
    let old = state_of it.engine it.form.width it.form.is_measured (g.S.ParagraphStore.items it.store) in
    let new = state_of c.replace.new.engine it.form.width it.form.is_measured (g.S.ParagraphStore.items c.replace.new.store) in
    rw (← c.self.view_is) (if_ok_both _ _ _ c.replace.result
    (λ damage does found. changed_as c.paragraphs_are_pieces.ensures c.lines_begin_in_order.ensures it.engine c.replace.new.engine it.form.width it.form.width it.form.is_measured
    (g.S.ParagraphStore.items it.store) (g.S.ParagraphStore.items c.replace.new.store) c.self.invariant does.laid_out damage c.replace.new.changed found)
    c.replace.ensures.ok c.replace.ensures.changed)
