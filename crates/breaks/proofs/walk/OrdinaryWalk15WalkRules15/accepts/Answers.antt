use Rattle.std.proofs.Common.{refl}
use Rattle.breaks.proofs.OrdinaryLemmas.{ordinary_by}
use Rattle.breaks.proofs.walk.OrdinaryWalk15WalkRules15.accepts.Goals as goal

pub returns : goal.returns
returns c = ordinary_by _ c.args.one _ _ c.symbol_of.ensures.below c.symbol_of.ensures.shown refl c.is_future_pictograph.ensures
