use Rattle.std.proofs.Common.{◌≤◌, ◌-◌}
use Rattle.lines.specs.Bytes.{ordered_chars}
use Rattle.lines.specs.Writing.{PassedOn}
use Rattle.lines.proofs.CellLemmas.{printed}
use Rattle.lines.proofs.printing.bytes.write_expanded.Given as goal

abbrev pub invariant-loop-at : goal.invariant-loop-at
invariant-loop-at g l =
    let state = g.W.Sink.state in
    record {
      within : l.at ≤ l.len;
      passed : PassedOn (printed l.line (ordered_chars l.print l.line) l.at) l.fn.before (state l.fn.writer) (state l.writer) l.written;
      counted : l.written ≤ (state l.writer).passed;
    }

abbrev pub decreases-loop-at : goal.decreases-loop-at
decreases-loop-at g l = l.len - l.at
