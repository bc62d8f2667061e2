use Rattle.std.proofs.Common.{◌≡◌, ◌++◌, drop}
use Rattle.bidi.proofs.WeakStepLemmas.{turned}
use Rattle.bidi.proofs.weak_steps.w2.Given as goal

abbrev pub invariant-loop-k : goal.invariant-loop-k
invariant-loop-k l = l.list.items ++ turned l.strong (drop l.k l.types) ≡ turned l.fn.sos l.types
