use Rattle.std.proofs.Common.{◌≤◌, ◌-◌, length, map, take, encode_utf8_all, slice_index}
use Rattle.lines.specs.Writing.{PassedOn}
use Rattle.lines.proofs.printing.bytes.write_places.Given as goal

abbrev pub invariant-loop-at : goal.invariant-loop-at
invariant-loop-at g l =
    let state = g.W.Sink.state in
    record {
      within : l.at ≤ length l.places;
      passed : PassedOn (encode_utf8_all (take l.at (map (slice_index l.text) l.places))) l.fn.before (state l.fn.writer) (state l.writer) l.written;
      counted : l.written ≤ (state l.writer).passed;
    }

abbrev pub decreases-loop-at : goal.decreases-loop-at
decreases-loop-at g l = length l.places - l.at
