use Rattle.std.proofs.Common.{◌≡◌, ◌++◌, drop}
use Rattle.ucd.specs.declared.bidi_class.BidiClass.TheVariants.{ON}
use Rattle.bidi.proofs.WeakStepLemmas.{joined}
use Rattle.bidi.proofs.weak_steps.w4.Given as goal

abbrev pub invariant-loop-k : goal.invariant-loop-k
invariant-loop-k l = l.list.items ++ joined l.before (drop l.k l.types) ≡ joined ON l.types
