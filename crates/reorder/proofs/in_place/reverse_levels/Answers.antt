use Rattle.std.proofs.Common.{arith}
use Rattle.reorder.proofs.InPlaceLemmas.{TurnedInPlace-start, TurnedInPlace-next, TurnedInPlace-end}
use Rattle.reorder.proofs.in_place.reverse_levels.Goals as goal

pub loop-level-init : goal.loop-level-init
loop-level-init c = TurnedInPlace-start _ _ _ _ c.requires.items c.requires.ordered.1

pub reverse_runs-requires : goal.reverse_runs-requires
reverse_runs-requires c = c.loop-level.invariant.sizes

pub loop-level-preserved : goal.loop-level-preserved
loop-level-preserved c =
    TurnedInPlace-next _ _ _ _ _ _ _ _ c.loop-level.invariant (omega (arith, c.requires.ordered.0)) c.loop-level-test.true c.reverse_runs.auto.items c.reverse_runs.ensures

pub returns : goal.returns
returns c = TurnedInPlace-end _ _ _ _ _ _ c.loop-level.invariant c.loop-level-test.false c.requires.top c.requires.low
