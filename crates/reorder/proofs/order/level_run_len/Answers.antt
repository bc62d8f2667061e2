use Rattle.std.proofs.Common.{refl, sym, arith}
use Rattle.reorder.proofs.LaneLemmas.{AlongRun-all, run_len_is}
use Rattle.reorder.proofs.RunLemmas.{AlongRun-next, AlongRun-start}
use Rattle.reorder.proofs.order.level_run_len.Goals as goal

pub loop-end-init : goal.loop-end-init
loop-end-init c = AlongRun-start c.args.levels.now c.args.start _ c.requires refl

pub loop-end-preserved : goal.loop-end-preserved
loop-end-preserved c =
    let len = c.same_len-len in
    AlongRun-all _ _ _ _ _ c.loop-end.invariant (omega (arith, c.loop-end-test.true, len.ensures.most)) len.ensures.same

pub returns-then-len-lt-LANES-clause-len : goal.returns-then-len-lt-LANES-clause-len
returns-then-len-lt-LANES-clause-len c =
    let len = c.same_len-len in
    run_len_is _ _ _ _ _ c.loop-end.invariant (omega (arith, c.loop-end-test.true, len.ensures.most)) len.ensures.same (λ inside. len.ensures.stops c.if-len-lt-LANES.true)

pub returns-then-levels-ge-LANES-clause-len : goal.returns-then-levels-ge-LANES-clause-len
returns-then-levels-ge-LANES-clause-len c =
    let len = c.last_same_len in
    run_len_is _ _ _ _ _ c.loop-end.invariant len.ensures.within len.ensures.same len.ensures.stops

pub loop-end-2-preserved : goal.loop-end-2-preserved
loop-end-2-preserved c = AlongRun-next _ _ _ _ c.loop-end-2.invariant c.loop-end-2-test.true (sym c.if-levels-end.true)
