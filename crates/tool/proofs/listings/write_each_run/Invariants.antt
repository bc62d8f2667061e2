use Rattle.std.proofs.Common.{◌≤◌}
use Rattle.reorder.specs.Runs.{runs_of}
use Rattle.reorder.specs.declared.runs.Run.{Run}
use Rattle.tool.specs.Queries.{listed, run_numbers}
use Rattle.tool.proofs.ListingLemmas.{AreWritten}
use Rattle.tool.proofs.listings.write_each_run.Given as goal

-- all runs that the iterator has yielded were written
abbrev pub invariant-loop-run : goal.invariant-loop-run
invariant-loop-run g l =
    let state = g.W.Sink.state in
    record {
      wrote : AreWritten (λ (run : Run). listed (run_numbers run)) (runs_of l.line.levels) l.run-iterator l.fn.before (state l.fn.writer) (state l.writer) l.written;
      counted : l.written ≤ (state l.writer).passed;
    }
