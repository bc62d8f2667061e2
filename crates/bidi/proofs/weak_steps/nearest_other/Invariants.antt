use Rattle.std.proofs.Common.{◌≡◌, drop}
use Rattle.ucd.specs.declared.bidi_class.BidiClass.TheVariants.{ON}
use Rattle.bidi.specs.Neighbours.{nearest}
use Rattle.bidi.proofs.WeakLemmas.{ends_row}
use Rattle.bidi.proofs.weak_steps.nearest_other.Given as goal

abbrev pub invariant-loop-k : goal.invariant-loop-k
invariant-loop-k l = nearest ends_row ON l.types ≡ nearest ends_row ON (drop l.k l.types)
