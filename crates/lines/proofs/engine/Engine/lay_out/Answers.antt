use Rattle.std.proofs.Common.{ap, None, sym, ◌∙◌}
use Rattle.lines.specs.Layouts.{Filled, Rules, lines_of}
use Rattle.lines.specs.Engine.{rules_of}
use Rattle.lines.specs.Tabs.{tab_width_in}
use Rattle.lines.proofs.LayoutLemmas.{laid_out_by, own_rules, same_layout}
use Rattle.lines.proofs.engine.Engine.lay_out.Goals as goal

pub returns-in-Ok-clause-ok : goal.returns-in-Ok-clause-ok
returns-in-Ok-clause-ok c =
    let lists = c.fill_lists.new.lists in
    let found = c.in-Ok.ensures.layout in
    same_layout (rules_of c.args.self.now) c.args.width c.args.text.items c.deref.result.now None c.in-Ok.base c.tab_width.result lists.levels.items lists.marks.items lists.ends.items c.of.result.lines
    c.deref.ensures.value (sym c.fill_lists.ensures.unmeasured) found.base_is (c.tab_width.ensures ∙ ap (λ (r : Rules). tab_width_in r.tables r.options) c.fill_lists.ensures.rules) found.levels found.marks found.ends
    (ap (λ (f : Filled). f.lines) c.of.ensures ∙ found.lines ∙ ap (λ (r : Rules). lines_of r c.args.width c.deref.result.now) (own_rules (rules_of c.args.self.now) c.fill_lists.ensures.unmeasured))

pub returns-in-Ok-clause-laid_out : goal.returns-in-Ok-clause-laid_out
returns-in-Ok-clause-laid_out c =
    laid_out_by (rules_of c.args.self.now) _ c.args.width c.args.text.items _ c.fill_lists.ensures.rules c.requires.paragraph (returns-in-Ok-clause-ok c)
