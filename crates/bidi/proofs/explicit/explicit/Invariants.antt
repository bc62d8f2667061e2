use Rattle.bidi.proofs.ExplicitLemmas.{IsWalked}
use Rattle.bidi.proofs.explicit.explicit.Given as goal

abbrev pub invariant-loop-class : goal.invariant-loop-class
invariant-loop-class l = IsWalked l.classes l.base l.class-index l.openers l.retained
