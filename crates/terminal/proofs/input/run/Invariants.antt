use Rattle.std.proofs.Common.{◌≡◌, ◌-◌}
use Rattle.device.specs.Device.{greatest}
use Rattle.lines.specs.Engine.{rules_of}
use Rattle.terminal.specs.RunState.{Stands}
use Rattle.terminal.proofs.input.run.Given as goal

-- the run is between two reads
abbrev pub invariant-loop-held : goal.invariant-loop-held
invariant-loop-held g l =
    let reader = g.R.Source.state in
    let writer = g.W.Sink.state in
    record {
      kept : rules_of l.engine ≡ rules_of l.fn.engine;
      stands : Stands (rules_of l.fn.engine) l.form (reader l.fn.reader) (writer l.fn.writer) (reader l.reader) (writer l.writer) l.held;
    }

abbrev pub decreases-loop-held : goal.decreases-loop-held
decreases-loop-held g l = greatest - (g.R.Source.state l.reader).passed
