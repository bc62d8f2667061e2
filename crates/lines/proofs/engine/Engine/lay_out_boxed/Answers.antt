use Rattle.std.proofs.Common.{◌≡◌, IfOk, ap, None, subst, sym, ◌∙◌}
use Rattle.lines.specs.Layouts.{Filled, Layout, Rules, lines_of}
use Rattle.lines.specs.Engine.{rules_of}
use Rattle.lines.specs.Tabs.{tab_width_in}
use Rattle.lines.proofs.LayoutLemmas.{own_rules, same_layout}
use Rattle.lines.proofs.engine.Engine.lay_out_boxed.Goals as goal

pub returns-clause-ok : goal.returns-clause-ok
returns-clause-ok c =
    let lists = c.fill_lists.new.lists in
    let found = c.in_ok-base.ensures.layout in
    subst (λ (l : Layout). IfOk c.boxed.result (λ boxed. boxed.value ≡ l))
    (same_layout (rules_of c.args.self.now) c.args.width c.args.text.items c.deref.result.now None c.in_ok-base.base c.tab_width-tab_width.result lists.levels.items lists.marks.items lists.ends.items c.of.result.lines
    c.deref.ensures.value (sym c.fill_lists.ensures.unmeasured) found.base_is (c.tab_width-tab_width.ensures ∙ ap (λ (r : Rules). tab_width_in r.tables r.options) c.fill_lists.ensures.rules) found.levels found.marks found.ends
    (ap (λ (f : Filled). f.lines) c.of.ensures ∙ found.lines ∙ ap (λ (r : Rules). lines_of r c.args.width c.deref.result.now) (own_rules (rules_of c.args.self.now) c.fill_lists.ensures.unmeasured)))
    c.boxed.ensures
