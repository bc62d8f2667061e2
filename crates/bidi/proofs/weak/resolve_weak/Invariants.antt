use Rattle.std.proofs.Common.{◌-◌, ◌≤◌, length}
use Rattle.bidi.specs.WeakState.{AreRead, IsState}
use Rattle.bidi.proofs.weak.resolve_weak.Given as goal

abbrev pub invariant-loop-at : goal.invariant-loop-at
invariant-loop-at l = record {
  within : l.at ≤ length l.types;
  state : IsState l.state.row l.state.start l.at;
  read : AreRead l.fn.sos l.fn.types l.types l.state.before l.state.row l.state.start l.at;
}

abbrev pub decreases-loop-at : goal.decreases-loop-at
decreases-loop-at l = length l.initial.types - l.at
