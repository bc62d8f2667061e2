use Rattle.std.proofs.Common.{◌+◌, ap, subst, sym, ◌∙◌}
use Rattle.reorder.specs.Order.{is_odd}
use Rattle.reorder.proofs.LeftmostLemmas.{even_one, odd_one, LeftmostOn, LeftmostOn-even, LeftmostOn-odd}
use Rattle.reorder.proofs.runs.leftmost_on.Goals as goal
use Rattle.reorder.proofs.runs.leftmost_on.Goals.{then-low-eq1, else-low-eq1}

pub loop-at-preserved : goal.loop-at-preserved
loop-at-preserved c =
    let levels = c.args.levels.now in
    elim c.if-low-eq1.branch [
      | then-low-eq1 w ↦
          subst (λ k. LeftmostOn levels c.args.level c.args.start k c.if-low-eq1.low (c.loop-at.at + 1)) (sym w.first-is)
          (subst (λ k. LeftmostOn levels c.args.level c.args.start c.loop-at.at k (c.loop-at.at + 1)) (sym w.low-is)
          (LeftmostOn-odd levels c.args.level c.args.start c.loop-at.first c.loop-at.low c.loop-at.at c.loop-at.invariant c.loop-at-test.true c.if-levels-at.true
          (ap is_odd (sym c.min-low.ensures) ∙ odd_one c.min-low.result w.if-low-eq1.true)))
      | else-low-eq1 w ↦
          subst (λ k. LeftmostOn levels c.args.level c.args.start k c.if-low-eq1.low (c.loop-at.at + 1)) (sym w.first-is)
          (subst (λ k. LeftmostOn levels c.args.level c.args.start c.loop-at.first k (c.loop-at.at + 1)) (sym (w.low-is ∙ c.min-low.ensures))
          (LeftmostOn-even levels c.args.level c.args.start c.loop-at.first c.loop-at.low c.loop-at.at c.loop-at.invariant c.loop-at-test.true c.if-levels-at.true
          (ap is_odd (sym c.min-low.ensures) ∙ even_one c.min-low.result w.if-low-eq1.false)))
    ]
