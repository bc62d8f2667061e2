use Rattle.std.proofs.Common.{◌-◌, ◌≤◌, length}
use Rattle.bidi.proofs.ClosersLemmas.{AreFound}
use Rattle.bidi.proofs.brackets.find_pairs.Given as goal

abbrev pub invariant-loop-place : goal.invariant-loop-place
invariant-loop-place l = record {
  within : l.place ≤ length l.types;
  found : AreFound l.kinds l.types l.place l.openers.items l.pairs.items l.has_pairs;
}

abbrev pub decreases-loop-place : goal.decreases-loop-place
decreases-loop-place l = length l.types - l.place
