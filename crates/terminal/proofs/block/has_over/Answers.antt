use Rattle.std.proofs.Common.{sym}
use Rattle.lines.specs.Engine.{rules_of}
use Rattle.terminal.proofs.PieceLemmas.{not_over}
use Rattle.terminal.proofs.block.has_over.Goals as goal

pub returns-then-characters-le-PARAGRAPH_LIMIT : goal.returns-then-characters-le-PARAGRAPH_LIMIT
returns-then-characters-le-PARAGRAPH_LIMIT c =
    sym (not_over c.paragraphs_are_pieces.ensures (rules_of c.args.engine.now) c.args.characters.now c.if-characters-le-PARAGRAPH_LIMIT.true)
