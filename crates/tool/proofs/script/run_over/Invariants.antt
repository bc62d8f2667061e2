use Rattle.std.proofs.Common.{◌≡◌, ◌-◌, [], vec_len}
use Rattle.device.specs.Device.{greatest}
use Rattle.lines.specs.Engine.{rules_of}
use Rattle.tool.specs.Reading.{IsAt}
use Rattle.tool.proofs.script.run_over.Given as goal
use Rattle.stream.specs.declared.reading.TheConstants.{CHUNK}

-- the run is between two reads
abbrev pub invariant-loop-reading : goal.invariant-loop-reading
invariant-loop-reading g l =
    let reader = g.R.Source.state in
    let writer = g.W.Sink.state in
    record {
      kept : rules_of l.session.engine ≡ rules_of l.fn.session.engine;
      room : vec_len l.chunk ≡ CHUNK;
      stands : IsAt (rules_of l.fn.session.engine) l.options l.fn.session (reader l.fn.reader) (reader l.reader) (writer l.fn.writer) (writer l.writer) l.session l.reading [];
    }

abbrev pub decreases-loop-reading : goal.decreases-loop-reading
decreases-loop-reading g l = greatest - (g.R.Source.state l.reader).passed
