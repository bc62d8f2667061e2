use Rattle.std.proofs.Common.{length, ap, arith}
use Rattle.bidi.proofs.DepthLemmas.{statuses-depth}
use Rattle.bidi.proofs.explicit.Openers.depth.Goals as goal

pub overflow_sub-result : goal.overflow_sub-result
overflow_sub-result c = omega (arith, ap length c.requires.holds.statuses_are, statuses-depth c.requires.base c.requires.chain)

pub returns : goal.returns
returns c base chain holds = omega (arith, ap length holds.statuses_are, statuses-depth base chain)
