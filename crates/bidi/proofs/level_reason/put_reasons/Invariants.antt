use Rattle.bidi.specs.LevelReasons.{reason_in}
use Rattle.bidi.specs.ReasonParts.{IsFilled}
use Rattle.bidi.specs.Reasons.{sequence_of}
use Rattle.bidi.proofs.level_reason.put_reasons.Given as goal

abbrev pub invariant-loop-k : goal.invariant-loop-k
invariant-loop-k l = IsFilled l.places (reason_in l.kept (sequence_of l.sequence)) l.initial.list l.k l.list
