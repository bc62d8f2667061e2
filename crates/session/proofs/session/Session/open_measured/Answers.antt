use Rattle.std.proofs.Common.{◌∙◌, sym, true}
use Rattle.std.specs.Str.{chars}
use Rattle.lines.specs.Engine.{rules_of}
use Rattle.lines.specs.Layouts.{cut_by}
use Rattle.session.specs.Sessions.{measured_refusal, state_of}
use Rattle.session.proofs.OpenLemmas.{measured-text}
use Rattle.session.proofs.StateLemmas.{opens_with}
use Rattle.session.proofs.session.Session.open_measured.Goals as goal

pub invariant_of-result : goal.invariant_of-result
invariant_of-result g c =
    let is_cut = cut_by (rules_of c.args.engine) in
    let whole = chars c.args.text.now in
    (c.in-Ok.ensures.ok (measured_refusal is_cut whole c.args.width) (measured-text is_cut whole c.args.width (sym c.is_no_width.ensures ∙ c.if-is_no_width.false))).laid_out

pub returns-in-Ok-clause-ok : goal.returns-in-Ok-clause-ok
returns-in-Ok-clause-ok g c =
    let is_cut = cut_by (rules_of c.args.engine) in
    let whole = chars c.args.text.now in
    let reason = measured_refusal is_cut whole c.args.width in
    let new = state_of c.fill_store.new.engine c.args.width true (g.S.ParagraphStore.items c.in-Ok.store) in
    opens_with new new c.all_lines.result c.all_lines.result true reason c.args.engine whole c.args.width
    (c.in-Ok.ensures.ok reason (measured-text is_cut whole c.args.width (sym c.is_no_width.ensures ∙ c.if-is_no_width.false)))

pub returns-in-Err-clause-err : goal.returns-in-Err-clause-err
returns-in-Err-clause-err g c =
    let is_cut = cut_by (rules_of c.args.engine) in
    let whole = chars c.args.text.now in
    c.in-Err.ensures.err (measured_refusal is_cut whole c.args.width) (measured-text is_cut whole c.args.width (sym c.is_no_width.ensures ∙ c.if-is_no_width.false))
