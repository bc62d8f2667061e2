use Rattle.std.proofs.Common.{◌≡◌, ◌∙◌, ℕ, IfOk, List, Some, ap, subst}
use Rattle.lines.specs.Engine.{rules_of}
use Rattle.lines.specs.Layouts.{fill_of, Layout, Rules, with_advances}
use Rattle.lines.proofs.LayoutLemmas.{remeasured}
use Rattle.lines.proofs.engine.Engine.remeasure.Goals as goal

pub returns-clause-ok : goal.returns-clause-ok
returns-clause-ok c =
    let own = subst (λ (rules : Rules). c.in_ok-lines.lines ≡ fill_of (with_advances rules (Some c.deref.result.now)) c.args.width c.args.laid.now.text) (ap rules_of c.self.view_is) c.in_ok-lines.ensures.lines in
    let fill = own ∙ ap (λ (xs : List ℕ). fill_of (with_advances (rules_of c.args.self.now) (Some xs)) c.args.width c.args.laid.now.text) c.deref.ensures.value in
    subst (λ (m : Layout). IfOk c.with_lines.result (λ new. new ≡ m)) (remeasured (rules_of c.args.self.now) c.args.width c.args.laid.now c.args.advances.items c.in_ok-lines.lines c.requires.laid fill) c.with_lines.ensures
