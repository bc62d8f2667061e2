use Rattle.std.proofs.Common.{◌≡◌, ◌++◌, None, drop}
use Rattle.bidi.specs.Neighbours.{nearest}
use Rattle.bidi.specs.Reasons.{index_from}
use Rattle.bidi.proofs.NeutralStepLemmas.{is_side, steps_from}
use Rattle.bidi.proofs.neutral_steps.neutral_steps.Given as goal

abbrev pub invariant-loop-k : goal.invariant-loop-k
invariant-loop-k l = (l.list.items ++ steps_from l.embedding l.eos l.before.class l.before.index l.k (drop l.k l.types) ≡ steps_from l.embedding l.eos l.fn.sos None 0 l.types)
    × (l.next.class ≡ nearest is_side l.eos (drop l.k l.types))
    × (l.next.index ≡ index_from is_side l.k (drop l.k l.types))
