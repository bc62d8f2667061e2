use Rattle.std.proofs.Common.{refl}
use Rattle.breaks.proofs.PassLemmas17.{outcome_below_17}
use Rattle.breaks.proofs.table_17.outcome.Goals as goal

pub returns-clause-below : goal.returns-clause-below
returns-clause-below c = outcome_below_17 _ _ c.requires refl
