use Rattle.std.proofs.Common.{length, ◌-◌}
use Rattle.lines.specs.CharInfos.{sized}
use Rattle.lines.specs.FitsUpTo.{FitsUpTo}
use Rattle.lines.proofs.filling.fitting_after.Given as goal

abbrev pub invariant-loop-k : goal.invariant-loop-k
invariant-loop-k g l = FitsUpTo l.width (sized (g.S.Sizes.given l.sizes) l.rest) l.k l.columns

abbrev pub decreases-loop-k : goal.decreases-loop-k
decreases-loop-k g l = length l.rest - l.k
