use Rattle.lines.specs.Engine.{rules_of}
use Rattle.stream.specs.Pages.{page_state}
use Rattle.text_run.proofs.PrintLemmas.{some_printed}
use Rattle.text_run.proofs.page.push_paragraph.Goals as goal

pub returns-in-Ok-clause-ok : goal.returns-in-Ok-clause-ok
returns-in-Ok-clause-ok c = c.in-Ok.ensures.ok.0.bytes

pub returns-in-Err-clause-memory : goal.returns-in-Err-clause-memory
returns-in-Err-clause-memory c =
    some_printed (rules_of c.args.engine.now) c.args.width c.args.print.now c.args.paragraph.now
    (page_state c.args.page.now) (page_state c.write_paragraph.new.writer) c.in-Err.field-0 c.in-Err.ensures.err (λ is. c.in-Err.ensures.memory (cc (is, c.in-Err.is)))
