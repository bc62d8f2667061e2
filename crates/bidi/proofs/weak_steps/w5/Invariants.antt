use Rattle.std.proofs.Common.{◌≡◌, ◌++◌, drop}
use Rattle.ucd.specs.declared.bidi_class.BidiClass.TheVariants.{ON}
use Rattle.bidi.specs.Neighbours.{nearest}
use Rattle.bidi.proofs.WeakLemmas.{ends_row}
use Rattle.bidi.proofs.WeakStepLemmas.{ended}
use Rattle.bidi.proofs.weak_steps.w5.Given as goal

abbrev pub invariant-loop-k : goal.invariant-loop-k
invariant-loop-k l = (l.list.items ++ ended l.before (drop l.k l.types) ≡ ended ON l.types) × (l.next ≡ nearest ends_row ON (drop l.k l.types))
