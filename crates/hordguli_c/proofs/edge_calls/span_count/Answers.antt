use Rattle.std.proofs.Common.{ap, length, List, arith}
use Rattle.lines.specs.Columns.{columns_left}
use Rattle.lines.specs.declared.spans.Span.{Span}
use Rattle.hordguli_c.proofs.SpanLemmas.{length-out, spans_few}
use Rattle.hordguli_c.proofs.edge_calls.span_count.Goals as goal

pub loop-span-init : goal.loop-span-init
loop-span-init c =
    let first = length-out c.args.line.now c.args.from c.args.to c.spans-span-items.result c.spans-span-items.ensures.spans in
    omega (arith, first, ap (λ (spans : List Span). length spans) c.into_iter-span-iterator.ensures.into_iter_gives)

pub loop-span-preserved : goal.loop-span-preserved
loop-span-preserved c = omega (arith, c.loop-span.invariant, ap (λ (spans : List Span). length spans) c.in-Some.ensures.steps)

pub overflow_add-count : goal.overflow_add-count
overflow_add-count c =
    let few = spans_few c.args.line.now c.args.from c.args.to in
    let columns = ap (λ (places : List _). columns_left c.args.line.now (length places)) c.vtol.ensures in
    omega (arith, few, columns, c.columns_left-columns.ensures.value, c.columns_left-columns.ensures.fits, c.loop-span.invariant, ap (λ (spans : List Span). length spans) c.in-Some.ensures.steps)

pub returns : goal.returns
returns c = omega (arith, c.loop-span.invariant, ap (λ (spans : List Span). length spans) c.in-None.ensures.steps.0)
