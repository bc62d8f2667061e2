use Rattle.std.proofs.Common.{◌≡◌}
use Rattle.bidi.proofs.ExplicitLemmas.{retained_to}
use Rattle.bidi.proofs.paragraph_reasons.kept_indices.Given as goal

abbrev pub invariant-loop-k : goal.invariant-loop-k
invariant-loop-k l = l.list.items ≡ retained_to l.classes l.k
