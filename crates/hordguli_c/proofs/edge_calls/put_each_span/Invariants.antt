use Rattle.std.proofs.Common.{map}
use Rattle.hordguli_c.specs.Edges.{span_out, spans_out}
use Rattle.hordguli_c.proofs.SpanLemmas.{IsPut}
use Rattle.hordguli_c.proofs.edge_calls.put_each_span.Given as goal

-- the first k spans are in the array, and the iterator will yield the other spans
abbrev pub invariant-loop-span : goal.invariant-loop-span
invariant-loop-span l = IsPut (spans_out l.line l.from l.to) l.fn.array (map span_out l.span-iterator) l.array l.k
