use Rattle.std.proofs.Common.{◌≡◌, ◌++◌, drop}
use Rattle.bidi.proofs.WeakStepLemmas.{marked}
use Rattle.bidi.proofs.weak_steps.w1.Given as goal

abbrev pub invariant-loop-k : goal.invariant-loop-k
invariant-loop-k l = l.list.items ++ marked l.before (drop l.k l.types) ≡ marked l.fn.sos l.types
