use Rattle.std.proofs.Common.{◌≡◌, ◌+◌, ◌*◌, ◌≤◌, fold, length}
use Rattle.sequences.specs.Overstrikes.{after_backspaces, strike}
use Rattle.sequences.proofs.overstrikes.strike_all.Given as goal

abbrev pub invariant-loop-c : goal.invariant-loop-c
invariant-loop-c l = record {
  struck : fold (strike l.after_underline) l.at (after_backspaces l.rest) ≡ fold (strike l.after_underline) l.fn.first (after_backspaces l.text);
  count : l.count + length (after_backspaces l.rest) ≡ length (after_backspaces l.text);
  within : 2 * l.count + length l.rest ≤ length l.text;
}

abbrev pub decreases-loop-c : goal.decreases-loop-c
decreases-loop-c l = length l.rest
