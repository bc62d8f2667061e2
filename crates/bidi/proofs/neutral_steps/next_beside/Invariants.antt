use Rattle.std.proofs.Common.{◌≡◌, drop}
use Rattle.bidi.specs.Neighbours.{nearest}
use Rattle.bidi.specs.Reasons.{index_from}
use Rattle.bidi.proofs.NeutralStepLemmas.{is_side}
use Rattle.bidi.proofs.neutral_steps.next_beside.Given as goal

abbrev pub invariant-loop-k : goal.invariant-loop-k
invariant-loop-k l = (nearest is_side l.eos (drop l.from l.types) ≡ nearest is_side l.eos (drop l.k l.types))
    × (index_from is_side l.from (drop l.from l.types) ≡ index_from is_side l.k (drop l.k l.types))
