use Rattle.std.proofs.lemmas.Grind.{common_steps}
use Rattle.std.proofs.Common.{length, reverse, arith, ap, length-append}
use Rattle.std.proofs.lemmas.List.{length-reverse}
use Rattle.store.proofs.tree_store.take_down.Goals as goal

pub push_reserved-requires : goal.push_reserved-requires
push_reserved-requires g c =
    let items = c.loop.items.items in
    let nodes = c.loop.nodes.items in
    omega (
      arith,
      ap length c.loop.invariant.0,
      length-append items (reverse nodes),
      length-reverse nodes,
      length-append c.args.items.now.items (reverse c.args.nodes.items),
      length-reverse c.args.nodes.items,
      c.loop.items.ok.0,
      c.requires,
    )

pub loop-preserved : goal.loop-preserved
loop-preserved g c = grind (arith, common_steps)

pub returns : goal.returns
returns g c = grind (arith, common_steps)
