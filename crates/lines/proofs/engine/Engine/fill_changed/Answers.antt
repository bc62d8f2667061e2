use Rattle.std.proofs.Common.{ap, subst, sym}
use Rattle.lines.specs.Engine.{rules_of}
use Rattle.lines.specs.HeldLayouts.{HoldsLayout}
use Rattle.lines.specs.Layouts.{layout_of, visuals, with_advances, IsLaidAt, Rules}
use Rattle.lines.specs.Matching.{ShareEnds}
use Rattle.lines.proofs.engine.Engine.fill_changed.Goals as goal

pub lay_out_changed-requires-clause-laid : goal.lay_out_changed-requires-clause-laid
lay_out_changed-requires-clause-laid c =
    subst (λ (rules : Rules). IsLaidAt (with_advances rules c.args.old.now.advances) c.args.width c.args.old.now) (sym (ap rules_of c.self.view_is)) c.requires.laid

pub returns-clause-layout : goal.returns-clause-layout
returns-clause-layout c =
    subst (λ (rules : Rules). HoldsLayout rules c.args.width c.args.text.now c.in_ok-done.done.0 c.lay_out_changed.new.kept) (ap rules_of c.self.view_is) c.in_ok-done.ensures.layout

pub returns-clause-shared : goal.returns-clause-shared
returns-clause-shared c =
    let done = c.in_ok-done.done in
    subst (λ (rules : Rules). ShareEnds (visuals c.args.old.now) (visuals (layout_of rules c.args.width c.args.text.now)) done.1.front done.1.back)
    (ap rules_of c.self.view_is) c.in_ok-done.ensures.shared

pub returns-clause-unmeasured : goal.returns-clause-unmeasured
returns-clause-unmeasured c = sym (ap (λ (rules : Rules). rules.advances) (ap rules_of c.self.view_is))
