use Rattle.std.proofs.Common.{ap, sym, ◌∙◌}
use Rattle.reorder.proofs.LevelLemmas.{Extremes-end, Reduced-start, lowest_by}
use Rattle.reorder.proofs.in_place.highest_and_lowest_odd.Goals as goal

pub loop-level-init : goal.loop-level-init
loop-level-init c = Reduced-start c.args.levels.now

pub returns-then-any-clause-lowest : goal.returns-then-any-clause-lowest
returns-then-any-clause-lowest c =
    ap (λ b. lowest_by b c.loop-level.lowest) (sym c.if-any.true)
    ∙ (Extremes-end _ _ _ _ c.loop-level.invariant.extremes c.loop-level-test.false).lowest_is

pub returns-else-any-clause-lowest : goal.returns-else-any-clause-lowest
returns-else-any-clause-lowest c =
    ap (λ b. lowest_by b c.loop-level.lowest) (sym c.if-any.false)
    ∙ (Extremes-end _ _ _ _ c.loop-level.invariant.extremes c.loop-level-test.false).lowest_is
