use Rattle.std.proofs.Common.{List, length}
use Rattle.bidi.specs.declared.explicit.Status.{Status}
use Rattle.bidi.specs.Openers.{AreBeforeIsolate}
use Rattle.bidi.proofs.explicit.pop_isolate.Given as goal

abbrev pub invariant-loop-status : goal.invariant-loop-status
invariant-loop-status l = (front : List Status) → AreBeforeIsolate front l.initial.statuses.items → AreBeforeIsolate front l.statuses.items

abbrev pub decreases-loop-status : goal.decreases-loop-status
decreases-loop-status l = length l.statuses.items
