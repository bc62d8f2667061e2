use Rattle.std.proofs.Common.{ap, subst, sym}
use Rattle.std.specs.Prelude.{option_map}
use Rattle.lines.specs.Engine.{rules_of}
use Rattle.lines.specs.HeldLayouts.{HoldsLayout}
use Rattle.lines.specs.Layouts.{layout_of, visuals, with_advances, Rules}
use Rattle.lines.specs.Matching.{ShareEnds}
use Rattle.lines.specs.SameKind.{MakesText}
use Rattle.lines.proofs.engine.Engine.fill_run.Goals as goal

pub lay_out_run-requires-clause-change : goal.lay_out_run-requires-clause-change
lay_out_run-requires-clause-change c = subst (λ (rules : Rules). MakesText rules c.args.width c.args.change c.args.text.now) (sym (ap rules_of c.self.view_is)) c.requires.change

pub returns-clause-layout : goal.returns-clause-layout
returns-clause-layout c =
    subst (λ (rules : Rules). HoldsLayout (with_advances rules (option_map (λ list. list.now) c.args.advances)) c.args.width c.args.text.now c.in_ok-done.done.0 c.lay_out_run.new.kept)
    (ap rules_of c.self.view_is) c.in_ok-done.ensures.layout

pub returns-clause-shared : goal.returns-clause-shared
returns-clause-shared c =
    let done = c.in_ok-done.done in
    subst (λ (rules : Rules). ShareEnds (visuals c.args.change.laid.now)
    (visuals (layout_of (with_advances rules (option_map (λ list. list.now) c.args.advances)) c.args.width c.args.text.now)) done.1.front done.1.back)
    (ap rules_of c.self.view_is) c.in_ok-done.ensures.shared

pub returns-clause-unmeasured : goal.returns-clause-unmeasured
returns-clause-unmeasured c = sym (ap (λ (rules : Rules). rules.advances) (ap rules_of c.self.view_is))
