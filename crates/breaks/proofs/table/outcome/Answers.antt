use Rattle.std.proofs.Common.{refl}
use Rattle.breaks.proofs.PassLemmas.{outcome_below}
use Rattle.breaks.proofs.table.outcome.Goals as goal

pub returns-clause-below : goal.returns-clause-below
returns-clause-below c = outcome_below _ _ c.requires refl
