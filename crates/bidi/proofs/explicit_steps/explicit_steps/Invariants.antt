use Rattle.bidi.proofs.ExplicitStepLemmas.{AreSteps}
use Rattle.bidi.proofs.explicit_steps.explicit_steps.Given as goal

abbrev pub invariant-loop-k : goal.invariant-loop-k
invariant-loop-k l = AreSteps l.classes l.base l.k l.openers l.indices.items l.list.items
