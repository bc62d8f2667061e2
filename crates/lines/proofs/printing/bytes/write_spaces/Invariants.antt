use Rattle.std.proofs.Common.{◌≤◌, ◌-◌, replicate}
use Rattle.lines.specs.Writing.{PassedOn}
use Rattle.lines.proofs.printing.bytes.write_spaces.Given as goal

abbrev pub invariant-loop-left : goal.invariant-loop-left
invariant-loop-left g l =
    let state = g.W.Sink.state in
    record {
      within : l.left ≤ l.count;
      passed : PassedOn (replicate (l.count - l.left) 32) l.fn.before (state l.fn.writer) (state l.writer) l.written;
      counted : l.written ≤ (state l.writer).passed;
    }

abbrev pub decreases-loop-left : goal.decreases-loop-left
decreases-loop-left g l = l.left
