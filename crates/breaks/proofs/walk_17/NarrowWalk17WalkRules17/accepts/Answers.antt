use Rattle.std.proofs.Common.{refl}
use Rattle.breaks.proofs.NarrowLemmas.{narrow_by}
use Rattle.breaks.proofs.walk_17.NarrowWalk17WalkRules17.accepts.Goals as goal

pub returns : goal.returns
returns c = narrow_by _ c.args.one _ _ _ c.symbol_17.ensures.below c.symbol_17.ensures.shown refl c.is_future_pictograph.ensures c.is_wide.ensures
