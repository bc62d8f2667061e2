use Rattle.std.proofs.Common.{subst}
use Rattle.lines.specs.Writing.{PassedOn, StoppedIn}
use Rattle.session.specs.Printing.{lines_page}
use Rattle.session.proofs.PrintLemmas.{fault_of_sink, lines_page_all}
use Rattle.session.proofs.session.Session.print_after.Goals as goal

pub returns-in-Ok-clause-ok : goal.returns-in-Ok-clause-ok
returns-in-Ok-clause-ok g c =
    let all = lines_page_all c.args.self.now c.args.print.now c.line_count.result c.line_count.ensures (c.prints_its_lines.ensures c.args.print.now) in
    subst (λ bytes. PassedOn bytes c.args.before (g.W.Sink.state c.args.writer.now) (g.W.Sink.state c.print_lines_after.new.writer) c.in-Ok.written) all c.in-Ok.ensures.ok

pub returns-in-Err-Write-clause-err : goal.returns-in-Err-Write-clause-err
returns-in-Err-Write-clause-err g c =
    let all = lines_page_all c.args.self.now c.args.print.now c.line_count.result c.line_count.ensures (c.prints_its_lines.ensures c.args.print.now) in
    subst (λ bytes. StoppedIn bytes c.args.before (g.W.Sink.state c.args.writer.now) (g.W.Sink.state c.print_lines_after.new.writer) c.in-Err-Write.fault.written) all
    (fault_of_sink c.args.self.now 0 c.line_count.result _
    (λ w. StoppedIn (lines_page c.args.self.now 0 c.line_count.result c.args.print.now) c.args.before
    (g.W.Sink.state c.args.writer.now) (g.W.Sink.state c.print_lines_after.new.writer) w)
    _ _ c.in-Err-Write.field-0-is c.in-Err-Write.ensures.err)
