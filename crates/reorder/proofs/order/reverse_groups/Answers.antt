use Rattle.std.proofs.Common.{arith}
use Rattle.std.proofs.lemmas.List.{take_rest}
use Rattle.reorder.specs.Order.{has_base}
use Rattle.reorder.proofs.GroupLemmas.{Grouped-part, Grouped-end}
use Rattle.reorder.proofs.order.reverse_groups.Goals as goal

pub loop-start-preserved : goal.loop-start-preserved
loop-start-preserved g c =
    let done = c.reverse_group-start.ensures in
    Grouped-part (has_base (g.C.Classes.all c.args.line.now) c.args.levels.now) c.args.vtol.now c.loop-start.vtol _ c.reverse_group-start.new.items
    c.loop-start.start c.reverse_group-start.result c.loop-start.invariant (omega arith) (take_rest c.loop-start.vtol c.loop-start.start)
    c.reverse_group-start.auto.items done.rest done.done

pub returns : goal.returns
returns g c = Grouped-end _ _ _ _ c.loop-start.invariant c.loop-start-test.false
