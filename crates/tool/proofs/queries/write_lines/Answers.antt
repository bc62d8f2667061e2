use Rattle.std.proofs.Common.{◌≡◌, ◌+◌, ◌≤◌, [], ◌∷◌, length, ◌∙◌, arith}
use Rattle.session.specs.Kept.{lines_in}
use Rattle.text_run.specs.declared.faults.RunFault.TheVariants as f
use Rattle.tool.specs.Queries.{numbers_answer}
use Rattle.tool.specs.Reading.{Stops}
use Rattle.tool.proofs.QueryLemmas.{lines_within, of_sink, same_stop, stops-after, stops-before}
use Rattle.tool.proofs.queries.write_lines.Goals as goal

pub returns-in_err-total-clause-err : goal.returns-in_err-total-clause-err
returns-in_err-total-clause-err g c =
    let within : c.args.first + c.args.count ≤ length (lines_in c.args.session.now.kept) = omega (arith, c.line_count-lines.ensures, c.if-first-lines.false, c.if-count-lines.false) in
    let text = lines_within c.args.print.now c.args.session.now.width c.args.session.now.kept c.args.first c.args.count within in
    let head : c.deref-2.result.now ≡ numbers_answer (c.args.count ∷ []) = c.deref-2.ensures.0 ∙ c.numbers_answer.ensures in
    same_stop _ _ (Stops _ c.args.written _ _) c.from_residual.ensures.1 (rw text (stops-before _ _ _ _ _ _ (rw head at c.in_err-total.ensures.err)))

pub returns-in-Err-Write-clause-err : goal.returns-in-Err-Write-clause-err
returns-in-Err-Write-clause-err g c =
    let within : c.args.first + c.args.count ≤ length (lines_in c.args.session.now.kept) = omega (arith, c.line_count-lines.ensures, c.if-first-lines.false, c.if-count-lines.false) in
    let text = lines_within c.args.print.now c.args.session.now.width c.args.session.now.kept c.args.first c.args.count within in
    let head : c.deref-2.result.now ≡ numbers_answer (c.args.count ∷ []) = c.deref-2.ensures.0 ∙ c.numbers_answer.ensures in
    rw text (stops-after _ _ _ _ _ _ _ (f.Write c.in-Err-Write.fault.written) (rw head at c.in_ok-total.ensures.ok)
    (of_sink _ _ _ _ _ c.in-Err-Write.field-0 c.in-Err-Write.fault c.in-Err-Write.field-0-is
    c.in-Err-Write.ensures.err))
