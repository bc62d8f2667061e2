use Rattle.std.proofs.Common.{◌≡◌, ℕ, List, [], ◌∷◌, codes, IfErr, subst, sym, ◌∙◌}
use Rattle.text_run.specs.declared.faults.RunFault.TheVariants as f
use Rattle.tool.specs.Queries.{numbers_answer}
use Rattle.tool.specs.Reading.{Stops}
use Rattle.tool.proofs.QueryLemmas.{each_stops-after, of_sink, part_within, same_stop, stops-after, stops-before}
use Rattle.lines.proofs.WriteLemmas.{passed-append}
use Rattle.tool.proofs.queries.write_text.Goals as goal

pub returns-in_err-total-clause-err : goal.returns-in_err-total-clause-err
returns-in_err-total-clause-err g c =
    let text = part_within c.args.session.now.kept c.args.pos c.args.count c.in-Some.len c.in-Some.ensures in
    let head : c.deref-2.result.now ≡ numbers_answer (c.in-Some.len ∷ []) = c.deref-2.ensures.0 ∙ c.numbers_answer.ensures in
    same_stop _ _ (Stops _ c.args.written _ _) c.from_residual.ensures.1
    (subst (λ (t : List ℕ). Stops t c.args.written (g.W.Sink.state c.args.writer.now)
    (g.W.Sink.state c.write_bytes-2.new.writer) c.in_err-total.field-0.0) (sym text)
    (stops-before _ _ _ (codes "\n") _ _ (stops-before _ _ _ _ _ _ (rw head at c.in_err-total.ensures.err))))

pub returns-in-Err-Write-clause-err : goal.returns-in-Err-Write-clause-err
returns-in-Err-Write-clause-err g c =
    let text = part_within c.args.session.now.kept c.args.pos c.args.count c.in-Some.len c.in-Some.ensures in
    let head : c.deref-2.result.now ≡ numbers_answer (c.in-Some.len ∷ []) = c.deref-2.ensures.0 ∙ c.numbers_answer.ensures in
    let fault = f.Write c.in-Err-Write.fault.written in
    subst (λ (t : List ℕ). Stops t c.args.written (g.W.Sink.state c.args.writer.now) (g.W.Sink.state c.write_text_after.new.writer) fault) (sym text)
    (stops-before _ _ _ (codes "\n") _ fault
    (stops-after _ _ _ _ _ _ _ fault (rw head at c.in_ok-total.ensures.ok) (of_sink _ _ _ _ _ c.in-Err-Write.field-0 c.in-Err-Write.fault c.in-Err-Write.field-0-is c.in-Err-Write.ensures.err)))

pub returns-clause-err : goal.returns-clause-err
returns-clause-err g c =
    let text = part_within c.args.session.now.kept c.args.pos c.args.count c.in-Some.len c.in-Some.ensures in
    let head : c.deref-2.result.now ≡ numbers_answer (c.in-Some.len ∷ []) = c.deref-2.ensures.0 ∙ c.numbers_answer.ensures in
    subst (λ (t : List ℕ). IfErr c.write_bytes-3.result (Stops t c.args.written (g.W.Sink.state c.args.writer.now) (g.W.Sink.state c.write_bytes-3.new.writer))) (sym text)
    (each_stops-after _ _ _ _ _ _ _ c.write_bytes-3.result (passed-append (rw head at c.in_ok-total.ensures.ok) c.in-Ok.ensures.ok) c.write_bytes-3.ensures.err)
