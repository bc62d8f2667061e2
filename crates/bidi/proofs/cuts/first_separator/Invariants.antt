use Rattle.std.proofs.Common.{◌≤◌, ◌-◌, length}
use Rattle.bidi.specs.Cuts.{AreNoSeparators}
use Rattle.bidi.proofs.cuts.first_separator.Given as goal

abbrev pub invariant-loop-at : goal.invariant-loop-at
invariant-loop-at l = record {
  within : l.at ≤ length l.text;
  before : AreNoSeparators l.text l.at;
}

abbrev pub decreases-loop-at : goal.decreases-loop-at
decreases-loop-at l = length l.text - l.at
