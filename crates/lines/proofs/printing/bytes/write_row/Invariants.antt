use Rattle.std.proofs.Common.{◌≤◌, ◌-◌, length, map, take}
use Rattle.std.specs.List.{join_with_byte}
use Rattle.lines.specs.Writing.{PassedOn}
use Rattle.lines.proofs.printing.bytes.write_row.Given as goal

abbrev pub invariant-loop-at : goal.invariant-loop-at
invariant-loop-at g l =
    let state = g.W.Sink.state in
    record {
      within : l.at ≤ length l.numbers;
      passed : PassedOn (join_with_byte 32 (take l.at (map g.I.Integer.text l.numbers))) l.fn.before (state l.fn.writer) (state l.writer) l.written;
      counted : l.written ≤ (state l.writer).passed;
    }

abbrev pub decreases-loop-at : goal.decreases-loop-at
decreases-loop-at g l = length l.numbers - l.at
