use Rattle.std.proofs.Common.{◌≡◌, ◌∷◌, [], ◌∙◌, List, ℕ, get_or, subst}
use Rattle.std.proofs.lemmas.List.{drop_more}
use Rattle.tool.specs.Queries.{listed}
use Rattle.tool.specs.Reading.{Stops}
use Rattle.tool.proofs.ListingLemmas.{AreWritten, written-next, written-stops}
use Rattle.tool.proofs.QueryLemmas.{same_stop}
use Rattle.tool.proofs.listings.write_each_end.Goals as goal

pub returns-in_err-written-clause-err : goal.returns-in_err-written-clause-err
returns-in_err-written-clause-err g c =
    let piece = λ (end : ℕ). listed (end ∷ []) in
    let ends = c.args.ends.now in
    let k = c.loop-end.end-index in
    let front = subst (λ (rest : List ℕ). AreWritten piece ends rest c.args.before (g.W.Sink.state c.args.writer.now) (g.W.Sink.state c.loop-end.writer) c.loop-end.written) (drop_more ends k 0 c.loop-end-test.true) c.loop-end.invariant.wrote in
    let bytes : c.deref.result.now ≡ listed (get_or ends k 0 ∷ []) = c.deref.ensures.0 ∙ c.listed.ensures in
    same_stop _ _ (Stops _ c.args.before _ _) c.from_residual.ensures.1
    (written-stops piece front (g.W.Sink.state c.write_bytes.new.writer) c.in_err-written.field-0.0 (rw bytes at c.in_err-written.ensures.err))

pub loop-end-preserved : goal.loop-end-preserved
loop-end-preserved g c =
    let piece = λ (end : ℕ). listed (end ∷ []) in
    let ends = c.args.ends.now in
    let k = c.loop-end.end-index in
    let front = subst (λ (rest : List ℕ). AreWritten piece ends rest c.args.before (g.W.Sink.state c.args.writer.now) (g.W.Sink.state c.loop-end.writer) c.loop-end.written) (drop_more ends k 0 c.loop-end-test.true) c.loop-end.invariant.wrote in
    let bytes : c.deref.result.now ≡ listed (get_or ends k 0 ∷ []) = c.deref.ensures.0 ∙ c.listed.ensures in
    record {
      wrote = written-next piece front (rw bytes at c.in_ok-written.ensures.ok);
      counted = c.in_ok-written.ensures.counted;
    }
