use Rattle.std.proofs.Common.{◌≡◌, ◌-◌}
use Rattle.device.specs.Device.{greatest}
use Rattle.lines.specs.Engine.{rules_of}
use Rattle.terminal.specs.Searches.{Searches}
use Rattle.terminal.proofs.start.read_start.Given as goal

-- the search is between two reads
abbrev pub invariant-loop-search : goal.invariant-loop-search
invariant-loop-search g l =
    let reader = g.R.Source.state in
    record {
      kept : rules_of l.engine ≡ rules_of l.fn.engine;
      searches : Searches (rules_of l.fn.engine) l.escapes (reader l.fn.reader) (reader l.reader) l.search;
    }

abbrev pub decreases-loop-search : goal.decreases-loop-search
decreases-loop-search g l = greatest - (g.R.Source.state l.reader).passed
