use Rattle.std.proofs.Common.{◌≡◌, ◌∙◌, length, codes, ap}
use Rattle.std.specs.List.{flat_map}
use Rattle.reorder.specs.Runs.{runs_of}
use Rattle.reorder.specs.declared.runs.Run.{Run}
use Rattle.tool.specs.Queries.{listed, run_numbers, count_answer}
use Rattle.tool.specs.Reading.{Stops}
use Rattle.tool.proofs.ListingLemmas.{end-stops, front-stops, items-stop}
use Rattle.tool.proofs.QueryLemmas.{same_stop}
use Rattle.tool.proofs.listings.write_runs.Goals as goal

pub returns-in_err-total-clause-err : goal.returns-in_err-total-clause-err
returns-in_err-total-clause-err g c =
    let ys = flat_map (λ (run : Run). listed (run_numbers run)) (runs_of c.args.line.now.levels) in
    let head : c.deref.result.now ≡ count_answer (length (runs_of c.args.line.now.levels)) = c.deref.ensures.0 ∙ c.count_answer.ensures ∙ ap count_answer c.run_count.ensures in
    same_stop _ _ (Stops _ c.args.written _ _) c.from_residual.ensures.1
    (front-stops _ _ _ ys (codes "\n") _ 0 c.in_err-total.field-0.0 (rw head at c.in_err-total.ensures.err))

pub returns-in_err-all-clause-err : goal.returns-in_err-all-clause-err
returns-in_err-all-clause-err g c =
    let head : c.deref.result.now ≡ count_answer (length (runs_of c.args.line.now.levels)) = c.deref.ensures.0 ∙ c.count_answer.ensures ∙ ap count_answer c.run_count.ensures in
    same_stop _ _ (Stops _ c.args.written _ _) c.from_residual-in_err-all.ensures.1
    (items-stop _ _ _ _ (codes "\n") _ _ (rw head at c.in_ok-total.ensures.ok) _ c.in_err-all.field-0.0 c.in_err-all.ensures.err)

pub returns-clause-err : goal.returns-clause-err
returns-clause-err g c =
    let head : c.deref.result.now ≡ count_answer (length (runs_of c.args.line.now.levels)) = c.deref.ensures.0 ∙ c.count_answer.ensures ∙ ap count_answer c.run_count.ensures in
    end-stops _ _ _ _ _ _ _ (rw head at c.in_ok-total.ensures.ok) _ _ c.in_ok-all.ensures.ok _ c.write_bytes-2.result c.write_bytes-2.ensures.err
