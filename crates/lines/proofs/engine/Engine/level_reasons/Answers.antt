use Rattle.std.proofs.Common.{ap, ◌∙◌}
use Rattle.bidi.specs.LevelReasons.{level_reasons_of}
use Rattle.bidi.specs.Levels.{levels_of}
use Rattle.lines.specs.Engine.{rules_of}
use Rattle.lines.specs.Layouts.{Rules}
use Rattle.lines.proofs.engine.Engine.level_reasons.Goals as goal

pub returns-clause-reasons : goal.returns-clause-reasons
returns-clause-reasons c =
    c.in_ok-reasons.ensures.reasons ∙ ap (λ (rules : Rules). level_reasons_of rules.tables c.args.text.now rules.options.base) (ap rules_of c.self.view_is)

pub returns-clause-levels : goal.returns-clause-levels
returns-clause-levels c = λ _.
    c.in_ok-reasons.ensures.levels ∙ ap (λ (rules : Rules). levels_of rules.tables c.args.text.now rules.options.base) (ap rules_of c.self.view_is)
