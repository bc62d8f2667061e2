use Rattle.std.proofs.Common.{◌≡◌, ◌+◌, length}
use Rattle.lines.specs.Spans.{spans_of}
use Rattle.tool.proofs.listings.span_count.Given as goal

-- the count so far plus the number of spans left in the iterator is the total number of spans
abbrev pub invariant-loop-span : goal.invariant-loop-span
invariant-loop-span l = l.count + length l._span-iterator ≡ length (spans_of l.line l.start l.end)
