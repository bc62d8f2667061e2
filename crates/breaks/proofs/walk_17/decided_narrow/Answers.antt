use Rattle.breaks.proofs.NarrowLemmas.{narrow_is}
use Rattle.breaks.proofs.walk_17.decided_narrow.Goals as goal

pub returns-clause-decided : goal.returns-clause-decided
returns-clause-decided c = narrow_is c.args.outcome c.requires
