use Rattle.std.proofs.Common.{◌≤◌, ◌-◌, length, drop}
use Rattle.device.specs.Device.{Device}
use Rattle.lines.specs.Engine.{rules_of, SameRules}
use Rattle.session.specs.Sessions.{SessionState}
use Rattle.tool.specs.Reading.{IsAt}
use Rattle.tool.proofs.script.feed.Given as goal

-- wherever the run started, `IsAt` holds after the part of the chunk that was read
abbrev pub invariant-loop-at : goal.invariant-loop-at
invariant-loop-at g l =
    let state = g.W.Sink.state in
    let rules = rules_of l.fn.session.engine in
    record {
      within : l.at ≤ length l.chunk;
      stands : (start : SessionState) (reader_start writer_start reader_now : Device)
          → IsAt rules l.options start reader_start reader_now writer_start (state l.fn.writer) l.fn.session
          l.fn.reading l.chunk
          → IsAt rules l.options start reader_start reader_now writer_start (state l.writer) l.session l.reading (drop l.at l.chunk);
      rules : SameRules l.fn.session.engine l.session.engine;
    }

abbrev pub decreases-loop-at : goal.decreases-loop-at
decreases-loop-at g l = length l.chunk - l.at
