use Rattle.std.proofs.Common.{ap, None, sym, ◌∙◌}
use Rattle.lines.specs.Layouts.{Filled, Rules}
use Rattle.lines.specs.Engine.{rules_of}
use Rattle.lines.specs.Tabs.{tab_width_in}
use Rattle.lines.proofs.LayoutLemmas.{same_layout}
use Rattle.lines.proofs.engine.Engine.lay_out_again.Goals as goal

pub returns-clause-ok : goal.returns-clause-ok
returns-clause-ok c =
    let lists = c.fill_changed.new.lists in
    let found = c.in_ok-base.ensures.layout in
    same_layout (rules_of c.args.self.now) c.args.width c.args.text.items c.deref-2.result.now None c.in_ok-base.base c.tab_width.result lists.levels.items lists.marks.items lists.ends.items c.of.result.lines
    c.deref-2.ensures.value (sym c.fill_changed.ensures.unmeasured) found.base_is (c.tab_width.ensures ∙ ap (λ (r : Rules). tab_width_in r.tables r.options) c.fill_changed.ensures.rules) found.levels found.marks found.ends
    (ap (λ (f : Filled). f.lines) c.of.ensures ∙ found.lines)
