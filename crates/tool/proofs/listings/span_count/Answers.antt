use Rattle.std.proofs.Common.{List, length, ap, arith}
use Rattle.lines.specs.Columns.{columns_left}
use Rattle.lines.specs.declared.spans.Span.{Span}
use Rattle.tool.proofs.ListingLemmas.{spans_few}
use Rattle.tool.proofs.listings.span_count.Goals as goal

pub overflow_add-count : goal.overflow_add-count
overflow_add-count c =
    let few = spans_few c.args.line.now c.args.start c.args.end in
    let columns = ap (λ (places : List _). columns_left c.args.line.now (length places)) c.vtol.ensures in
    omega (arith, few, columns, c.columns_left-columns.ensures.value, c.columns_left-columns.ensures.fits, c.loop-span.invariant, ap (λ (spans : List Span). length spans) c.in-Some.ensures.steps)
