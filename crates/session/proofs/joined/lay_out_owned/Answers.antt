use Rattle.std.proofs.Common.{◌≡◌, ◌∙◌, Bool, IfOk, ap, subst, sym}
use Rattle.lines.specs.Engine.{rules_of}
use Rattle.lines.specs.Layouts.{layout_of, with_advances, Layout, Rules}
use Rattle.lines.specs.Measures.{given_if}
use Rattle.lines.proofs.LayoutLemmas.{own_rules}
use Rattle.session.proofs.joined.lay_out_owned.Goals as goal

pub returns-in-Ok-clause-ok : goal.returns-in-Ok-clause-ok
returns-in-Ok-clause-ok c =
    let by = rules_of c.args.engine.now in
    let laid = c.in-Ok.ensures.ok ∙ sym (ap (λ (r : Rules). layout_of r c.args.form.width c.args.text.items) (own_rules by c.lay_out.ensures.unmeasured))
    ∙ ap (λ (m : Bool). layout_of (with_advances by (given_if m c.args.advances.items)) c.args.form.width c.args.text.items) (sym c.if-form.false) in
    subst (λ (l : Layout). IfOk c.new.result (λ kept. kept ≡ l)) laid c.new.ensures
