use Rattle.std.proofs.Common.{◌≡◌, ◌∙◌, List, subst}
use Rattle.reorder.specs.Runs.{runs_of}
use Rattle.reorder.specs.declared.runs.Run.{Run}
use Rattle.tool.specs.Queries.{listed, run_numbers}
use Rattle.tool.specs.Reading.{Stops}
use Rattle.tool.proofs.ListingLemmas.{AreWritten, written-next, written-stops}
use Rattle.tool.proofs.QueryLemmas.{same_stop}
use Rattle.tool.proofs.listings.write_each_run.Goals as goal

pub returns-in_err-written-clause-err : goal.returns-in_err-written-clause-err
returns-in_err-written-clause-err g c =
    let piece = λ (run : Run). listed (run_numbers run) in
    let front = subst (λ (runs : List Run). AreWritten piece (runs_of c.args.line.now.levels) runs c.args.before (g.W.Sink.state c.args.writer.now) (g.W.Sink.state c.loop-run.writer) c.loop-run.written) c.in-Some.ensures.steps c.loop-run.invariant.wrote in
    let bytes : c.deref.result.now ≡ listed (run_numbers c.in-Some.run') = c.deref.ensures.0 ∙ c.listed-numbers.ensures in
    same_stop _ _ (Stops _ c.args.before _ _) c.from_residual.ensures.1
    (written-stops piece front (g.W.Sink.state c.write_bytes.new.writer) c.in_err-written.field-0.0 (rw bytes at c.in_err-written.ensures.err))

pub loop-run-preserved : goal.loop-run-preserved
loop-run-preserved g c =
    let piece = λ (run : Run). listed (run_numbers run) in
    let front = subst (λ (runs : List Run). AreWritten piece (runs_of c.args.line.now.levels) runs c.args.before (g.W.Sink.state c.args.writer.now) (g.W.Sink.state c.loop-run.writer) c.loop-run.written) c.in-Some.ensures.steps c.loop-run.invariant.wrote in
    let bytes : c.deref.result.now ≡ listed (run_numbers c.in-Some.run') = c.deref.ensures.0 ∙ c.listed-numbers.ensures in
    record {
      wrote = written-next piece front (rw bytes at c.in_ok-written.ensures.ok);
      counted = c.in_ok-written.ensures.counted;
    }
