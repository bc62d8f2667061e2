use Rattle.std.proofs.Common.{◌≤◌}
use Rattle.lines.specs.Spans.{spans_of}
use Rattle.lines.specs.declared.spans.Span.{Span}
use Rattle.tool.specs.Queries.{listed, span_numbers}
use Rattle.tool.proofs.ListingLemmas.{AreWritten}
use Rattle.tool.proofs.listings.write_each_span.Given as goal

-- all spans that the iterator has yielded were written
abbrev pub invariant-loop-span : goal.invariant-loop-span
invariant-loop-span g l =
    let state = g.W.Sink.state in
    record {
      wrote : AreWritten (λ (span : Span). listed (span_numbers l.left span)) (spans_of l.line l.start l.end) l.span-iterator l.fn.before (state l.fn.writer) (state l.writer) l.written;
      counted : l.written ≤ (state l.writer).passed;
    }
