use Rattle.std.proofs.Common.{◌≡◌, ℕ, ◌*◌, ◌-◌, ◌<◌, ◌≤◌, true, List, length, get_or}
use Rattle.ucd.specs.declared.bidi_class.BidiClass.{BidiClass}
use Rattle.bidi.specs.WeakState.{AreRead}
use Rattle.bidi.specs.WeakTable.{is_simple}
use Rattle.bidi.proofs.weak.read_simple.Given as goal

abbrev pub invariant-loop-at : goal.invariant-loop-at
invariant-loop-at l = record {
  within : l.at ≤ l.end;
  size : length l.types ≡ length l.fn.types;
  bounded : l.strong < 3;
  simple : (k : ℕ) (d : BidiClass) → l.at ≤ k → k < l.end → is_simple (get_or l.types k d) ≡ true;
  read : (sos : BidiClass) (old : List BidiClass) → AreRead sos old l.fn.types l.fn.state.before l.fn.state.row l.fn.state.start l.fn.begin
      → AreRead sos old l.types l.before (l.strong * 32) l.at l.at;
}

abbrev pub decreases-loop-at : goal.decreases-loop-at
decreases-loop-at l = l.end - l.at
