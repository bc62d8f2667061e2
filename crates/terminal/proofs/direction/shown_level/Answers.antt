use Rattle.std.proofs.Common.{◌++◌, ap, ◌∙◌}
use Rattle.lines.specs.Engine.{rules_of}
use Rattle.sequences.specs.Scanners.{pen_of}
use Rattle.sequences.specs.Styled.{styled}
use Rattle.terminal.proofs.DirectionLemmas.{level_shown}
use Rattle.terminal.proofs.direction.shown_level.Goals as goal

pub returns-clause-level : goal.returns-clause-level
returns-clause-level c =
    let text = c.args.text.now in
    level_shown (rules_of c.args.engine.now) text c.deref.result.now c.push_text.new.self.text c.first_level.result
    (c.in_ok-push_text.ensures.text ∙ ap (λ xs. xs ++ styled (pen_of c.new-scanner.result) text) c.new-scanner.ensures.text
    ∙ ap (λ pen. styled pen text) c.new-scanner.ensures.pen)
    c.deref.ensures.value c.first_level.ensures.level
