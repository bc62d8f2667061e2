use Rattle.std.proofs.Common.{◌∙◌, ap}
use Rattle.lines.specs.Engine.{rules_of}
use Rattle.lines.specs.Layouts.{layout_of}
use Rattle.terminal.proofs.ParagraphLemmas.{lines_are_within, not_measured}
use Rattle.terminal.proofs.paragraph.lay_out.Goals as goal

pub returns-in-Ok-clause-laid : goal.returns-in-Ok-clause-laid
returns-in-Ok-clause-laid c = c.in-Ok.ensures.ok ∙ ap (layout_of (rules_of c.args.engine.now) c.args.width) c.in_ok-characters.ensures.items

pub returns-in-Ok-clause-plain : goal.returns-in-Ok-clause-plain
returns-in-Ok-clause-plain c = not_measured (rules_of c.args.engine.now) c.args.width _ c.in-Ok.laid c.in-Ok.ensures.ok c.lay_out.ensures.unmeasured

pub returns-in-Ok-clause-within : goal.returns-in-Ok-clause-within
returns-in-Ok-clause-within c = lines_are_within (rules_of c.args.engine.now) c.args.width _ c.in-Ok.laid c.in-Ok.ensures.ok
