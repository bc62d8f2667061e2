use Rattle.std.proofs.Common.{◌≡◌, ◌-◌, ◌≤◌, List, length}
use Rattle.ucd.specs.declared.bidi_class.BidiClass.{BidiClass}
use Rattle.bidi.specs.WeakState.{AreRead, IsState}
use Rattle.bidi.proofs.weak.read_each.Given as goal

abbrev pub invariant-loop-at : goal.invariant-loop-at
invariant-loop-at l = record {
  within : l.at ≤ l.end;
  size : length l.types ≡ length l.fn.types;
  state : IsState l.row l.start l.at;
  read : (sos : BidiClass) (old : List BidiClass) → AreRead sos old l.fn.types l.fn.state.before l.fn.state.row l.fn.state.start l.fn.begin
      → AreRead sos old l.types l.before l.row l.start l.at;
}

abbrev pub decreases-loop-at : goal.decreases-loop-at
decreases-loop-at l = l.end - l.at
