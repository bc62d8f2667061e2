use Rattle.std.proofs.Common.{IfOk, IfErr, ap, List, ℕ, subst}
use Rattle.lines.specs.LaidTexts.{advances_in}
use Rattle.lines.specs.Layouts.{Layout}
use Rattle.lines.specs.Writing.{PassedOn, StoppedIn}
use Rattle.lines.proofs.PageLemmas.{laid_bytes}
use Rattle.lines.proofs.laid.Laid.write_after.Goals as goal

pub returns-clause-ok : goal.returns-clause-ok
returns-clause-ok g c =
    let of = c.laid_text.ensures in
    let same = laid_bytes c.args.width c.args.print.now c.laid_text.result.base c.laid_text.result.tab_width (advances_in c.laid_text.result) c.laid_text.result.text.now c.self.inside.lines.lines c.args.self.now
    of.base of.tab_width of.advances of.text (ap (λ (l : Layout). l.lines) c.self.view_is) in
    subst (λ (bytes : List ℕ). IfOk c.write_after.result (λ n. PassedOn bytes c.args.before (g.W.Sink.state c.args.writer.now) (g.W.Sink.state c.write_after.new.writer) n)) same
    c.write_after.ensures.ok

pub returns-clause-err : goal.returns-clause-err
returns-clause-err g c =
    let of = c.laid_text.ensures in
    let same = laid_bytes c.args.width c.args.print.now c.laid_text.result.base c.laid_text.result.tab_width (advances_in c.laid_text.result) c.laid_text.result.text.now c.self.inside.lines.lines c.args.self.now
    of.base of.tab_width of.advances of.text (ap (λ (l : Layout). l.lines) c.self.view_is) in
    subst (λ (bytes : List ℕ). IfErr c.write_after.result
    (λ fault. StoppedIn bytes c.args.before (g.W.Sink.state c.args.writer.now) (g.W.Sink.state c.write_after.new.writer) fault.written))
    same c.write_after.ensures.err
