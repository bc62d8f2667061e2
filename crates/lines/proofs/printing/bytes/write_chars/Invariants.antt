use Rattle.std.proofs.Common.{◌≤◌, ◌-◌, length, take, encode_utf8_all}
use Rattle.lines.specs.Writing.{PassedOn}
use Rattle.lines.proofs.printing.bytes.write_chars.Given as goal

abbrev pub invariant-loop-at : goal.invariant-loop-at
invariant-loop-at g l =
    let state = g.W.Sink.state in
    record {
      within : l.at ≤ length l.chars;
      passed : PassedOn (encode_utf8_all (take l.at l.chars)) l.fn.before (state l.fn.writer) (state l.writer) l.written;
      counted : l.written ≤ (state l.writer).passed;
    }

abbrev pub decreases-loop-at : goal.decreases-loop-at
decreases-loop-at g l = length l.chars - l.at
