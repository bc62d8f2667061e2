use Rattle.std.proofs.lemmas.Grind.{common_steps}
use Rattle.std.proofs.Common.{◌∷◌, ◌++◌, [], reverse, sym, ap, ◌∙◌, arith}
use Rattle.store.proofs.ListLemmas.{length_both, one_over, room_after}
use Rattle.store.proofs.tree_store.hang.Goals as goal

pub take_last-requires : goal.take_last-requires
take_last-requires g c =
    omega (arith, length_both c.loop.items.items c.loop.nodes.items c.args.items.now.items c.loop.invariant.0, c.loop.items.ok.0, c.args.items.now.ok.0)

pub push_reserved-requires : goal.push_reserved-requires
push_reserved-requires g c = omega (arith, c.loop.nodes.ok.0, c.in_ok-nodes.ensures.capacity)

pub push_reserved-requires-in-Err : goal.push_reserved-requires-in-Err
push_reserved-requires-in-Err g c = omega (arith, c.take_last.ensures.len, c.take_last.ensures.capacity, c.loop.items.ok)

pub take_down-requires : goal.take_down-requires
take_down-requires g c =
    let items = c.args.items.now in
    let put_back = c.push_reserved-in-Err in
    let items_is = put_back.ensures.items ∙ ap (λ x. c.take_last.new.self.items ++ x ∷ []) c.in-Err.ensures.err ∙ sym c.take_last.ensures.items in
    room_after c.loop.items.items c.loop.nodes.items items.items put_back.new.self.items items.len items.cap put_back.new.self.cap
    c.loop.invariant.0 items_is items.ok.0 items.ok.1 (put_back.ensures.capacity ∙ c.take_last.ensures.capacity ∙ c.loop.invariant.2)

pub returns-in-Err-clause-err : goal.returns-in-Err-clause-err
returns-in-Err-clause-err g c =
    c.take_down.ensures ∙ ap (λ items. items ++ reverse c.loop.nodes.items)
    (c.push_reserved-in-Err.ensures.items ∙ ap (λ x. c.take_last.new.self.items ++ x ∷ []) c.in-Err.ensures.err ∙ sym c.take_last.ensures.items) ∙ c.loop.invariant.0

pub loop-preserved : goal.loop-preserved
loop-preserved g c = (
  one_over c.loop.items.items c.take_last.new.self.items c.loop.nodes.items c.push_reserved.new.self.items c.args.items.now.items
      c.take_last.result c.in-Ok.node c.take_last.ensures.items c.in-Ok.ensures.ok c.push_reserved.ensures.items c.loop.invariant.0,
  omega arith,
  omega arith,
  omega arith,
)

pub returns-clause-ok : goal.returns-clause-ok
returns-clause-ok g c = grind (arith, common_steps)

pub returns-clause-left : goal.returns-clause-left
returns-clause-left g c = grind (arith, common_steps)
