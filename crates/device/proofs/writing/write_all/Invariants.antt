use Rattle.std.proofs.Common.{◌≡◌, ◌-◌, ◌≤◌, length, take}
use Rattle.device.specs.Device.{StaysCounted, Took}
use Rattle.device.proofs.writing.write_all.Given as goal

abbrev pub invariant-loop-written : goal.invariant-loop-written
invariant-loop-written g l =
    let state = g.W.Sink.state in
    record {
      within : l.written ≤ length l.bytes;
      took : Took (state l.fn.writer) (state l.writer) (take l.written l.bytes);
      failures : (state l.writer).failures ≡ (state l.fn.writer).failures;
      counted : StaysCounted (state l.fn.writer) (state l.writer);
    }

abbrev pub decreases-loop-written : goal.decreases-loop-written
decreases-loop-written g l = length l.bytes - l.written
