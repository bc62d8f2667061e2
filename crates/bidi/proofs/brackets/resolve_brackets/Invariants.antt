use Rattle.std.proofs.Common.{length, not}
use Rattle.bidi.specs.Resolving.{IsClear}
use Rattle.bidi.specs.Closers.{closers_by}
use Rattle.bidi.proofs.BracketLemmas.{Resolved}
use Rattle.bidi.proofs.ClosersLemmas.{opener_or}
use Rattle.bidi.proofs.brackets.resolve_brackets.Given as goal

abbrev pub invariant-loop-pair : goal.invariant-loop-pair
invariant-loop-pair l = record {
  resolved : Resolved l.fn.embedding l.fn.sos l.fn.explicit (closers_by l.pairs (length l.fn.types)) l.fn.types l.types (opener_or l.pairs l.pair-index (length l.fn.types));
  same : IsClear l.left l.fn.before (opener_or l.pairs l.pair-index (length l.fn.types)) l.same;
  other : IsClear (not l.left) l.fn.before (opener_or l.pairs l.pair-index (length l.fn.types)) l.other;
}
