use Rattle.std.proofs.Common.{◌∙◌, arith}
use Rattle.session.proofs.WidthLemmas.{all_filled, all_listed, none_filled, read_here, read_item, read_laid, values, FindsExtents-all, FindsExtentsAtMost-all, FindsExtentsAtMost-next, AreFilled-next}
use Rattle.session.proofs.width.find_each.Goals as goal

pub loop-kept-init : goal.loop-kept-init
loop-kept-init c = none_filled c.args.engine.now c.args.width (values c.args.list.now) c.in_ok-parts.parts.items (omega (arith, c.filled-filled.ensures)) c.in_ok-parts.ensures.items

pub find_one-requires-clause-laid : goal.find_one-requires-clause-laid
find_one-requires-clause-laid c =
    read_laid c.args.list.now c.loop-kept.kept-index c.kept-item.result c.laid.result.now c.loop-kept-test.true c.kept-item.is c.laid.ensures
    c.args.engine.now c.loop-kept.engine c.loop-kept.invariant.rules c.requires.laid

pub returns-in_err-find_one-clause-rules : goal.returns-in_err-find_one-clause-rules
returns-in_err-find_one-clause-rules c = c.find_one.ensures.rules ∙ c.loop-kept.invariant.rules

pub returns-in_err-find_one-clause-counts : goal.returns-in_err-find_one-clause-counts
returns-in_err-find_one-clause-counts c =
    FindsExtentsAtMost-next c.args.engine.now c.loop-kept.engine c.args.width (values c.args.list.now) c.loop-kept.kept-index c.loop-kept.parts.items c.loop-kept.invariant
    c.laid.result.now (read_here c.args.list.now c.loop-kept.kept-index c.kept-item.result c.laid.result.now c.loop-kept-test.true c.kept-item.is c.laid.ensures)
    (read_item c.args.list.now c.loop-kept.kept-index c.kept-item.result c.laid.result.now c.loop-kept-test.true c.kept-item.is c.laid.ensures)
    c.find_one.new.engine c.find_one.ensures.rules c.find_one.ensures.counts

pub returns-in_err-push-clause-rules : goal.returns-in_err-push-clause-rules
returns-in_err-push-clause-rules c = c.find_one.ensures.rules ∙ c.loop-kept.invariant.rules

pub returns-in_err-push-clause-counts : goal.returns-in_err-push-clause-counts
returns-in_err-push-clause-counts c =
    FindsExtentsAtMost-next c.args.engine.now c.loop-kept.engine c.args.width (values c.args.list.now) c.loop-kept.kept-index c.loop-kept.parts.items c.loop-kept.invariant
    c.laid.result.now (read_here c.args.list.now c.loop-kept.kept-index c.kept-item.result c.laid.result.now c.loop-kept-test.true c.kept-item.is c.laid.ensures)
    (read_item c.args.list.now c.loop-kept.kept-index c.kept-item.result c.laid.result.now c.loop-kept-test.true c.kept-item.is c.laid.ensures)
    c.find_one.new.engine c.find_one.ensures.rules c.find_one.ensures.counts

pub loop-kept-preserved : goal.loop-kept-preserved
loop-kept-preserved c =
    AreFilled-next c.args.engine.now c.loop-kept.engine c.args.width (values c.args.list.now) c.loop-kept.kept-index c.loop-kept.parts.items c.loop-kept.invariant
    c.laid.result.now (read_here c.args.list.now c.loop-kept.kept-index c.kept-item.result c.laid.result.now c.loop-kept-test.true c.kept-item.is c.laid.ensures)
    (read_item c.args.list.now c.loop-kept.kept-index c.kept-item.result c.laid.result.now c.loop-kept-test.true c.kept-item.is c.laid.ensures)
    c.find_one.new.engine c.find_one.ensures.rules c.find_one.ensures.counts
    c.in_ok-find_one.field-0 c.push.new.self.items c.in_ok-find_one.ensures.exact c.in_ok-find_one.ensures.ok c.in_ok-push.ensures.items

pub returns-clause-ok : goal.returns-clause-ok
returns-clause-ok c =
    all_filled c.args.engine.now c.loop-kept.engine c.args.width (values c.args.list.now) c.loop-kept.kept-index c.loop-kept.parts.items c.loop-kept.invariant
    (all_listed c.args.list.now c.loop-kept.kept-index c.loop-kept-test.false)

pub returns-clause-rules : goal.returns-clause-rules
returns-clause-rules c = c.loop-kept.invariant.rules

pub returns-clause-counts : goal.returns-clause-counts
returns-clause-counts c =
    FindsExtentsAtMost-all c.args.engine.now c.loop-kept.engine c.args.width (values c.args.list.now) c.loop-kept.kept-index c.loop-kept.parts.items c.loop-kept.invariant
    (all_listed c.args.list.now c.loop-kept.kept-index c.loop-kept-test.false)

pub returns-clause-exact : goal.returns-clause-exact
returns-clause-exact c =
    FindsExtents-all c.args.engine.now c.loop-kept.engine c.args.width (values c.args.list.now) c.loop-kept.kept-index c.loop-kept.parts.items c.loop-kept.invariant
    (all_listed c.args.list.now c.loop-kept.kept-index c.loop-kept-test.false)
