use Rattle.std.proofs.Common.{ℕ, false, subst}
use Rattle.std.specs.Str.{chars}
use Rattle.lines.specs.Engine.{rules_of}
use Rattle.lines.specs.Layouts.{cut_by}
use Rattle.session.specs.Sessions.{opening_refusal, state_of, OpensAs}
use Rattle.session.proofs.OpenLemmas.{opening-text}
use Rattle.session.proofs.StateLemmas.{opens_with}
use Rattle.session.proofs.session.Session.open.Goals as goal

pub returns-in-Ok-clause-ok : goal.returns-in-Ok-clause-ok
returns-in-Ok-clause-ok g c =
    let is_cut = cut_by (rules_of c.args.engine) in
    let whole = chars c.args.text.now in
    let reason = opening_refusal is_cut whole c.args.width in
    let new = state_of c.fill_store.new.engine c.from.result false (g.S.ParagraphStore.items c.in-Ok.store) in
    opens_with new new c.all_lines.result c.all_lines.result false reason c.args.engine whole c.args.width
    (subst (λ (w : ℕ). OpensAs false reason c.args.engine whole w new) c.from.ensures
    (c.in-Ok.ensures.ok reason (opening-text is_cut whole c.args.width c.if-width-eq0.false)))

pub returns-in-Err-clause-err : goal.returns-in-Err-clause-err
returns-in-Err-clause-err g c =
    let is_cut = cut_by (rules_of c.args.engine) in
    let whole = chars c.args.text.now in
    c.in-Err.ensures.err (opening_refusal is_cut whole c.args.width) (opening-text is_cut whole c.args.width c.if-width-eq0.false)
