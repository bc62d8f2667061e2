use Rattle.std.proofs.Common.{◌∙◌, ap}
use Rattle.lines.specs.Engine.{rules_of}
use Rattle.terminal.specs.Directions.{base_by, shown_level}
use Rattle.terminal.proofs.DirectionLemmas.{rest_level}
use Rattle.terminal.proofs.direction.whole_base.Goals as goal

pub returns-clause-base : goal.returns-clause-base
returns-clause-base c =
    c.base_by.ensures
    ∙ ap base_by (c.in_ok-shown_level.ensures.level ∙ ap (shown_level (rules_of c.args.engine.now)) c.split_at.ensures.back
    ∙ rest_level (rules_of c.args.engine.now) c.args.searched c.args.text.now c.requires.searched)
