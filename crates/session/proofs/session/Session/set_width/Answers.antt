use Rattle.std.proofs.Common.{ℕ, Bool, subst}
use Rattle.std.specs.Prelude.{IfErr, IfOk}
use Rattle.session.specs.Sessions.{state_of, with_changed, IsWholeLayout, SetsWidth, SetsWidthNot}
use Rattle.session.proofs.StateLemmas.{changed_as, if_err, if_ok, if_ok_both, sets_with, stays_with}
use Rattle.session.proofs.session.Session.set_width.Goals as goal

pub returns-clause-ok : goal.returns-clause-ok
returns-clause-ok g c =
    let it = c.self.inside in
    let old = state_of it.engine it.form.width it.form.is_measured (g.S.ParagraphStore.items it.store) in
    let new = state_of c.set_width.new.engine c.set_width.new.form.width c.set_width.new.form.is_measured (g.S.ParagraphStore.items c.set_width.new.store) in
    rw (← c.self.view_is) (if_ok (SetsWidth c.args.width old new) _ c.set_width.result (sets_with old new it.changed c.set_width.new.changed c.args.width)
    (subst (λ (w : ℕ). IfOk c.set_width.result (SetsWidth w old new)) c.from.ensures c.set_width.ensures.ok))

pub returns-clause-err : goal.returns-clause-err
returns-clause-err g c =
    let it = c.self.inside in
    let old = state_of it.engine it.form.width it.form.is_measured (g.S.ParagraphStore.items it.store) in
    let new = state_of c.set_width.new.engine c.set_width.new.form.width c.set_width.new.form.is_measured (g.S.ParagraphStore.items c.set_width.new.store) in
    rw (← c.self.view_is) (if_err (SetsWidthNot c.args.width old new) (SetsWidthNot c.args.width (with_changed old it.changed) (with_changed new c.set_width.new.changed)) c.set_width.result
    (stays_with old new it.changed c.set_width.new.changed _ _)
    (subst (λ (w : ℕ). IfErr c.set_width.result (SetsWidthNot w old new)) c.from.ensures c.set_width.ensures.err))

pub returns-clause-changed : goal.returns-clause-changed
returns-clause-changed g c =
    let it = c.self.inside in
    let kept = g.S.ParagraphStore.items it.store in
    let made = g.S.ParagraphStore.items c.set_width.new.store in
    rw (← c.self.view_is) (if_ok_both _ _ _ c.set_width.result
    (λ damage does found. changed_as c.paragraphs_are_pieces.ensures c.lines_begin_in_order.ensures it.engine c.set_width.new.engine it.form.width c.set_width.new.form.width it.form.is_measured kept made c.self.invariant
    (subst (λ (m : Bool). IsWholeLayout (state_of c.set_width.new.engine c.set_width.new.form.width m made)) c.set_width.ensures.measured does.laid_out) damage c.set_width.new.changed found)
    c.set_width.ensures.ok c.set_width.ensures.changed)
