use Rattle.std.proofs.Common.{◌≡◌, suc, ◌-◌, ap, subst, sym, ◌∙◌, arith}
use Rattle.reorder.specs.Order.{is_odd}
use Rattle.reorder.proofs.LeftmostLemmas.{even_zero, odd_zero, LeftmostBack, LeftmostBack-even, LeftmostBack-odd}
use Rattle.reorder.proofs.runs.leftmost_back.Goals as goal

pub loop-at-preserved-then-low-eq0 : goal.loop-at-preserved-then-low-eq0
loop-at-preserved-then-low-eq0 c =
    let e : c.loop-at.at ≡ suc (c.loop-at.at - 1) = omega (arith, c.loop-at-test.true) in
    let before : LeftmostBack c.args.levels.now c.args.level c.args.end c.loop-at.first c.loop-at.low (suc (c.loop-at.at - 1)) =
    subst (λ k. LeftmostBack c.args.levels.now c.args.level c.args.end c.loop-at.first c.loop-at.low k) e c.loop-at.invariant in
    LeftmostBack-even c.args.levels.now c.args.level c.args.end c.loop-at.first c.loop-at.low (c.loop-at.at - 1) before c.if-levels-at.true
    (ap is_odd (sym c.min-low.ensures) ∙ even_zero c.min-low.result c.if-low-eq0.true)

pub loop-at-preserved : goal.loop-at-preserved
loop-at-preserved c =
    let e : c.loop-at.at ≡ suc (c.loop-at.at - 1) = omega (arith, c.loop-at-test.true) in
    let before : LeftmostBack c.args.levels.now c.args.level c.args.end c.loop-at.first c.loop-at.low (suc (c.loop-at.at - 1)) =
    subst (λ k. LeftmostBack c.args.levels.now c.args.level c.args.end c.loop-at.first c.loop-at.low k) e c.loop-at.invariant in
    subst (λ k. LeftmostBack c.args.levels.now c.args.level c.args.end c.loop-at.first k (c.loop-at.at - 1)) (sym c.min-low.ensures)
    (LeftmostBack-odd c.args.levels.now c.args.level c.args.end c.loop-at.first c.loop-at.low (c.loop-at.at - 1) before c.if-levels-at.true
    (ap is_odd (sym c.min-low.ensures) ∙ odd_zero c.min-low.result c.if-low-eq0.false))
