use Rattle.std.proofs.Common.{ap, ◌∙◌, arith}
use Rattle.std.specs.List.{prefix_len}
use Rattle.std.proofs.lemmas.List.{take_rest}
use Rattle.reorder.specs.Order.{is_at_least}
use Rattle.reorder.proofs.OrderLemmas.{Reversed-next, Reversed-end}
use Rattle.reorder.proofs.order.reverse_runs.Goals as goal

pub loop-start-preserved : goal.loop-start-preserved
loop-start-preserved c =
    let test = is_at_least c.args.levels.now c.args.level in
    Reversed-next test _ _ _ _ _ _ c.loop-start.invariant c.loop-start-test.true
    (c.run_len-len.ensures.len ∙ ap (prefix_len test) (take_rest c.loop-start.items c.loop-start.start)) (omega arith) c.reverse.ensures.after

pub returns : goal.returns
returns c = Reversed-end _ _ _ _ c.loop-start.invariant c.loop-start-test.false
