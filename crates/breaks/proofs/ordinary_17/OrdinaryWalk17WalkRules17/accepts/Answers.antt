use Rattle.std.proofs.Common.{refl}
use Rattle.breaks.proofs.OrdinaryLemmas17.{ordinary_by_17}
use Rattle.breaks.proofs.ordinary_17.OrdinaryWalk17WalkRules17.accepts.Goals as goal

pub returns : goal.returns
returns c = ordinary_by_17 _ c.args.one _ _ c.symbol_17.ensures.below c.symbol_17.ensures.shown refl c.is_future_pictograph.ensures
