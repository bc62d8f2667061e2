use Rattle.std.proofs.Common.{◌≡◌, ◌∙◌, length, List, subst, ap, arith}
use Rattle.lines.specs.Columns.{columns_left}
use Rattle.lines.specs.Spans.{is_covered, spans_of, AreMaximal}
use Rattle.lines.specs.declared.spans.Span.{Span}
use Rattle.tool.specs.Queries.{listed, span_numbers}
use Rattle.tool.specs.Reading.{Stops}
use Rattle.tool.proofs.ListingLemmas.{AreWritten, next-within, written-next, written-stops}
use Rattle.tool.proofs.QueryLemmas.{same_stop}
use Rattle.tool.proofs.listings.write_each_span.Goals as goal

pub overflow_add-left : goal.overflow_add-left
overflow_add-left g c =
    let line = c.args.line.now in
    let all = spans_of line c.args.start c.args.end in
    let front = subst (λ (spans : List Span). AreWritten (λ (span : Span). listed (span_numbers c.args.left span)) all spans c.args.before (g.W.Sink.state c.args.writer.now) (g.W.Sink.state c.loop-span.writer) c.loop-span.written) c.in-Some.ensures.steps c.loop-span.invariant.wrote in
    let are = subst (AreMaximal (is_covered line c.args.start c.args.end) (columns_left line (length line.vtol))) c.spans-span-items.ensures.spans c.spans-span-items.ensures.maximal in
    let within = next-within (is_covered line c.args.start c.args.end) (columns_left line (length line.vtol)) all front.done c.next.new.self c.in-Some.span are front.items in
    let columns = ap (λ (places : List _). columns_left line (length places)) c.vtol.ensures in
    omega (arith, c.requires.left, within.0, within.1, columns, c.columns_left-columns.ensures.value, c.columns_left-columns.ensures.fits)

pub overflow_add-left-in-loop-span : goal.overflow_add-left-in-loop-span
overflow_add-left-in-loop-span g c =
    let line = c.args.line.now in
    let all = spans_of line c.args.start c.args.end in
    let front = subst (λ (spans : List Span). AreWritten (λ (span : Span). listed (span_numbers c.args.left span)) all spans c.args.before (g.W.Sink.state c.args.writer.now) (g.W.Sink.state c.loop-span.writer) c.loop-span.written) c.in-Some.ensures.steps c.loop-span.invariant.wrote in
    let are = subst (AreMaximal (is_covered line c.args.start c.args.end) (columns_left line (length line.vtol))) c.spans-span-items.ensures.spans c.spans-span-items.ensures.maximal in
    let within = next-within (is_covered line c.args.start c.args.end) (columns_left line (length line.vtol)) all front.done c.next.new.self c.in-Some.span are front.items in
    let columns = ap (λ (places : List _). columns_left line (length places)) c.vtol.ensures in
    omega (arith, c.requires.left, within.1, columns, c.columns_left-columns.ensures.value, c.columns_left-columns.ensures.fits)

pub returns-in_err-written-clause-err : goal.returns-in_err-written-clause-err
returns-in_err-written-clause-err g c =
    let piece = λ (span : Span). listed (span_numbers c.args.left span) in
    let front = subst (λ (spans : List Span). AreWritten piece (spans_of c.args.line.now c.args.start c.args.end) spans c.args.before (g.W.Sink.state c.args.writer.now) (g.W.Sink.state c.loop-span.writer) c.loop-span.written) c.in-Some.ensures.steps c.loop-span.invariant.wrote in
    let bytes : c.deref.result.now ≡ listed (span_numbers c.args.left c.in-Some.span) = c.deref.ensures.0 ∙ c.listed-numbers.ensures in
    same_stop _ _ (Stops _ c.args.before _ _) c.from_residual.ensures.1
    (written-stops piece front (g.W.Sink.state c.write_bytes.new.writer) c.in_err-written.field-0.0 (rw bytes at c.in_err-written.ensures.err))

pub loop-span-preserved : goal.loop-span-preserved
loop-span-preserved g c =
    let piece = λ (span : Span). listed (span_numbers c.args.left span) in
    let front = subst (λ (spans : List Span). AreWritten piece (spans_of c.args.line.now c.args.start c.args.end) spans c.args.before (g.W.Sink.state c.args.writer.now) (g.W.Sink.state c.loop-span.writer) c.loop-span.written) c.in-Some.ensures.steps c.loop-span.invariant.wrote in
    let bytes : c.deref.result.now ≡ listed (span_numbers c.args.left c.in-Some.span) = c.deref.ensures.0 ∙ c.listed-numbers.ensures in
    record {
      wrote = written-next piece front (rw bytes at c.in_ok-written.ensures.ok);
      counted = c.in_ok-written.ensures.counted;
    }
