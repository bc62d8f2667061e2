use Rattle.std.proofs.Common.{◌≡◌, ◌≤◌, length}
use Rattle.bidi.specs.Brackets.{context}
use Rattle.bidi.proofs.brackets.strong_before.Given as goal

abbrev pub invariant-loop-at : goal.invariant-loop-at
invariant-loop-at l = record {
  within : l.at ≤ length l.types;
  nearest : context l.sos l.types l.at ≡ context l.sos l.types l.place;
}

abbrev pub decreases-loop-at : goal.decreases-loop-at
decreases-loop-at l = l.at
