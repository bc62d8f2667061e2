use Rattle.std.proofs.Common.{◌∙◌, Bool, ap, length, sym}
use Rattle.lines.specs.Engine.{rules_of}
use Rattle.lines.specs.Layouts.{layout_of, with_advances, Rules}
use Rattle.lines.proofs.LayoutLemmas.{own_rules}
use Rattle.session.specs.Kept.{first_advances}
use Rattle.session.proofs.opening.lay_out_moved.Goals as goal

pub returns-clause-ok : goal.returns-clause-ok
returns-clause-ok c =
    let by = rules_of c.args.engine.now in
    c.of_box.ensures ∙ c.in_ok-laid.ensures.ok
    ∙ sym (ap (λ (r : Rules). layout_of r c.args.form.width c.args.text.items) (own_rules by c.in_ok-laid.ensures.unmeasured))
    ∙ ap (λ (m : Bool). layout_of (with_advances by (first_advances m (length c.args.text.items))) c.args.form.width c.args.text.items) (sym c.if-form.false)
