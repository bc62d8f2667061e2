use Rattle.std.proofs.Common.{◌≡◌, ℕ, ◌-◌, ◌<◌, ◌≤◌, false, length}
use Rattle.bidi.specs.Brackets.{is_toward}
use Rattle.ucd.specs.Classes.{class_at}
use Rattle.bidi.proofs.brackets.next_toward.Given as goal

abbrev pub invariant-loop-at : goal.invariant-loop-at
invariant-loop-at l = record {
  reached : l.from ≤ l.at;
  bounded : l.at ≤ length l.types;
  passed : (m : ℕ) → l.from ≤ m → m < l.at → is_toward l.left (class_at l.types m) ≡ false;
}

abbrev pub decreases-loop-at : goal.decreases-loop-at
decreases-loop-at l = l.limit - l.at
