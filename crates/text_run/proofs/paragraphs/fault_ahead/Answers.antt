use Rattle.std.proofs.Common.{◌++◌, arith}
use Rattle.std.proofs.lemmas.List.{length-append}
use Rattle.std.specs.Str.{chars}
use Rattle.lines.specs.Engine.{rules_of}
use Rattle.lines.specs.Layouts.{cut_by}
use Rattle.text_run.proofs.LongLemmas.{text_few, text_within}
use Rattle.text_run.proofs.paragraphs.fault_ahead.Goals as goal

pub returns-then-text-more-le-PARAGRAPH_LIMIT-clause-within :
    goal.returns-then-text-more-le-PARAGRAPH_LIMIT-clause-within
returns-then-text-more-le-PARAGRAPH_LIMIT-clause-within c = λ is.
    let text = c.args.text.now in
    let more = c.args.more.now in
    text_within c.paragraphs_are_pieces.ensures (cut_by (rules_of c.args.engine.now)) (text ++ chars more)
    (omega (arith, length-append text (chars more), text_few more c.utf8.more, c.if-text-more-le-PARAGRAPH_LIMIT.true))
