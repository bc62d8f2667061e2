use Rattle.std.proofs.Common.{◌≡◌, false}
use Rattle.bidi.specs.Cuts.{AreNoSeparators}
use Rattle.bidi.proofs.cuts.any_may_separate.Given as goal

abbrev pub invariant-loop-c : goal.invariant-loop-c
invariant-loop-c l = l.any ≡ false → AreNoSeparators l.text l.c-index
