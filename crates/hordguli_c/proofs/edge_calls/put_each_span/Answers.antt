use Rattle.std.proofs.Common.{◌<◌, ◌∷◌, List, length, map, subst}
use Rattle.lines.specs.declared.spans.Span.{Span}
use Rattle.hordguli_c.specs.Edges.{span_out, spans_out}
use Rattle.hordguli_c.proofs.SpanLemmas.{IsPut, put_next, put_within}
use Rattle.hordguli_c.proofs.edge_calls.put_each_span.Goals as goal

pub loop-span-preserved : goal.loop-span-preserved
loop-span-preserved c =
    let all = spans_out c.args.line.now c.args.from c.args.to in
    let rest = map span_out c.next.new.self in
    let here : IsPut all c.args.array.now (span_out c.in-Some.span ∷ rest) c.loop-span.array c.loop-span.k =
    subst (λ (spans : List Span). IsPut all c.args.array.now (map span_out spans) c.loop-span.array c.loop-span.k) c.in-Some.ensures.steps c.loop-span.invariant in
    let within : c.loop-span.k < length c.args.array.now = put_within all c.args.array.now c.loop-span.array rest (span_out c.in-Some.span) c.loop-span.k c.requires here in
    put_next all c.args.array.now c.loop-span.array rest (span_out c.in-Some.span) c.loop-span.k within here
