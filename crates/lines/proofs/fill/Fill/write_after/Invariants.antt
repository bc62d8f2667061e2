use Rattle.std.proofs.Common.{◌≤◌, take}
use Rattle.std.specs.List.{concat}
use Rattle.lines.proofs.PageLemmas.{pieces}
use Rattle.lines.specs.LaidTexts.{advances_in}
use Rattle.lines.specs.Writing.{PassedOn}
use Rattle.lines.proofs.fill.Fill.write_after.Given as goal

abbrev pub invariant-loop-n : goal.invariant-loop-n
invariant-loop-n g l =
    let state = g.W.Sink.state in
    record {
      passed : PassedOn (concat (take l.n (pieces l.width l.print l.of.base l.of.tab_width (advances_in l.of) l.of.text.now l.self.lines))) l.before (state l.fn.writer) (state l.writer) l.written;
      counted : l.written ≤ (state l.writer).passed;
    }
