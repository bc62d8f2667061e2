use Rattle.std.proofs.Common.{Some}
use Rattle.bidi.specs.ReasonParts.{IsFilled}
use Rattle.bidi.proofs.level_reason.put_indices.Given as goal

abbrev pub invariant-loop-k : goal.invariant-loop-k
invariant-loop-k l = IsFilled l.items Some l.initial.list l.k l.list
