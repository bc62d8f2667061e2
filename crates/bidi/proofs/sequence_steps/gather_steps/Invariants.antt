use Rattle.std.proofs.Common.{◌≡◌, ◌++◌, ℕ, List, drop, length, map}
use Rattle.std.specs.List.{range_with_len}
use Rattle.ucd.specs.declared.bidi_class.BidiClass.{BidiClass}
use Rattle.bidi.specs.Reasons.{numbered, sequence_step}
use Rattle.bidi.specs.SequenceSteps.{AreWeakSteps}
use Rattle.bidi.specs.declared.bracket_steps.BracketStep.{BracketStep}
use Rattle.bidi.proofs.sequence_steps.gather_steps.Given as goal

abbrev pub invariant-loop-k : goal.invariant-loop-k
invariant-loop-k l = (sos : BidiClass) (types : List BidiClass) (at : ℕ → BracketStep) → AreWeakSteps sos types l.weak
    → l.brackets ≡ map at (range_with_len 0 (length l.neutral))
    → l.list.items ++ numbered (sequence_step l.level sos types l.paired at) l.k (drop l.k l.neutral) ≡ numbered (sequence_step l.level sos types l.paired at) 0 l.neutral
