use Rattle.std.proofs.Common.{◌∙◌, length, ap, sym}
use Rattle.reorder.proofs.OrderLemmas.{length-order}
use Rattle.reorder.proofs.order.order_places.Goals as goal

pub lay_runs-requires-clause-whole : goal.lay_runs-requires-clause-whole
lay_runs-requires-clause-whole c =
    ap length c.in-Some.ensures.runs ∙ length-order c.args.levels.now ∙ sym (c.order_runs.auto.items ∙ c.requires.vtol)
