use Rattle.std.proofs.Common.{◌≡◌, ◌∙◌, Bool, IfOk, ap, subst, sym}
use Rattle.lines.specs.Engine.{rules_of}
use Rattle.lines.specs.Layouts.{layout_of, with_advances, IsLaidAt, Layout, Rules}
use Rattle.lines.specs.Measures.{given_if}
use Rattle.lines.specs.declared.matching.SharedLines.{SharedLines}
use Rattle.lines.proofs.LayoutLemmas.{own_rules}
use Rattle.session.proofs.joined.lay_out_edited.Goals as goal
use Rattle.session.proofs.joined.lay_out_edited.Goals.{then-form+in_ok-done, else-form+in_ok-done-2}

pub returns-clause-ok : goal.returns-clause-ok
returns-clause-ok c =
    let by = rules_of c.args.engine.now in
    let text = c.args.text.items in
    let width = c.args.form.width in
    let whole : Bool → Layout = λ m. layout_of (with_advances by (given_if m c.args.advances.items)) width text in
    let laid : c.if-form.done.0 ≡ whole c.args.form.is_measured = elim c.if-form.branch [
      | then-form+in_ok-done w ↦ ap (λ (d : Layout × SharedLines). d.0) w.done-is ∙ w.in_ok-done.ensures.ok ∙ ap whole (sym w.if-form.true)
      | else-form+in_ok-done-2 w ↦
          ap (λ (d : Layout × SharedLines). d.0) w.done-is ∙ w.in_ok-done-2.ensures.ok ∙ sym (ap (λ (r : Rules). layout_of r width text) (own_rules by w.lay_out_edited.ensures.unmeasured))
          ∙ ap whole (sym w.if-form.false)
    ] in
    subst (λ (l : Layout). IfOk c.of_edited.result (λ kept. kept ≡ l)) laid c.of_edited.ensures

pub lay_out_edited-requires-clause-laid : goal.lay_out_edited-requires-clause-laid
lay_out_edited-requires-clause-laid c = subst (λ (l : Layout). IsLaidAt (with_advances (rules_of c.args.engine.now) l.advances) c.args.form.width l) (sym c.laid-laid.ensures) c.requires.edited.0

pub lay_out_measured_edited-requires-clause-laid : goal.lay_out_measured_edited-requires-clause-laid
lay_out_measured_edited-requires-clause-laid c =
    subst (λ (l : Layout). IsLaidAt (with_advances (rules_of c.args.engine.now) l.advances) c.args.form.width l) (sym c.laid-laid.ensures) c.requires.edited.0
