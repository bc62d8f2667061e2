use Rattle.std.proofs.Common.{◌≡◌, ◌++◌, drop}
use Rattle.bidi.proofs.WeakStepLemmas.{lefts}
use Rattle.bidi.proofs.weak_steps.w7.Given as goal

abbrev pub invariant-loop-k : goal.invariant-loop-k
invariant-loop-k l = l.list.items ++ lefts l.strong (drop l.k l.types) ≡ lefts l.fn.sos l.types
