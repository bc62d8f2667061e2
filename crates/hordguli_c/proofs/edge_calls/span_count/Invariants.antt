use Rattle.std.proofs.Common.{◌≡◌, ◌+◌, length}
use Rattle.hordguli_c.specs.Edges.{spans_out}
use Rattle.hordguli_c.proofs.edge_calls.span_count.Given as goal

-- the count so far plus the number of spans left in the iterator is the total number of spans
abbrev pub invariant-loop-span : goal.invariant-loop-span
invariant-loop-span l = l.count + length l._span-iterator ≡ length (spans_out l.line l.from l.to)
