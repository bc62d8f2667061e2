use Rattle.std.proofs.Common.{sym, ◌∙◌, arith}
use Rattle.reorder.proofs.OrderLemmas.{Turned-start, Turned-next, Turned-end, Turned-within, unturned}
use Rattle.reorder.proofs.order.reverse_levels.Goals as goal

pub loop-level-init : goal.loop-level-init
loop-level-init c =
    let ordered = rw c.in-Some.is at c.requires.ordered in
    Turned-start _ _ _ _ ordered.1

pub reverse_runs-requires : goal.reverse_runs-requires
reverse_runs-requires c = Turned-within _ _ _ _ _ _ _ c.requires.within c.loop-level.invariant

pub loop-level-preserved : goal.loop-level-preserved
loop-level-preserved c =
    let ordered = rw c.in-Some.is at c.requires.ordered in
    Turned-next _ _ _ _ _ _ _ _ c.loop-level.invariant (omega (arith, ordered.0)) c.loop-level-test.true c.reverse_runs.ensures

pub returns-after-loop-level : goal.returns-after-loop-level
returns-after-loop-level c =
    Turned-end _ _ _ _ _ _ c.loop-level.invariant c.loop-level-test.false c.requires.highest (sym c.in-Some.is ∙ c.requires.lowest)

pub returns-in_default : goal.returns-in_default
returns-in_default c = unturned _ _ (sym c.in_default.is ∙ c.requires.lowest)
