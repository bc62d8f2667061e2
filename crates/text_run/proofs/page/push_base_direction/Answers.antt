use Rattle.std.specs.Str.{chars}
use Rattle.lines.specs.Engine.{rules_of}
use Rattle.lines.specs.declared.printing.print.PrintFault.TheVariants.{Write}
use Rattle.stream.specs.Pages.{page_state}
use Rattle.text_run.proofs.PrintLemmas.{some_printed}
use Rattle.text_run.proofs.page.push_base_direction.Goals as goal

pub returns-in-Ok-clause-ok : goal.returns-in-Ok-clause-ok
returns-in-Ok-clause-ok c = λ width. (c.in-Ok.ensures.ok width).0.bytes

pub returns-in-Err-clause-memory : goal.returns-in-Err-clause-memory
returns-in-Err-clause-memory c =
    some_printed (rules_of c.args.engine.now) 1 c.args.print.now (chars c.args.paragraph.now)
    (page_state c.args.page.now) (page_state c.write_base_direction.new.writer) (Write c.in-Err.field-0) (c.in-Err.ensures.err 1) (λ is. cc)
