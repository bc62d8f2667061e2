use Rattle.std.proofs.Common.{◌∙◌, [], ap, sym}
use Rattle.reorder.specs.Order.{has_base, reverse_with_next, vtol_of}
use Rattle.reorder.proofs.OrderLemmas.{vtol_within}
use Rattle.reorder.proofs.order.visual_places.Goals as goal

pub returns-then-reordernsm : goal.returns-then-reordernsm
unfolding vtol_of
returns-then-reordernsm g c =
    let classes = g.C.Classes.all c.args.line.now in
    let levels = c.args.levels.now in
    let is = c.reverse_groups.ensures ∙ ap (reverse_with_next (has_base classes levels) []) c.order_places.ensures
    ∙ ap (λ asked. vtol_of asked classes levels) (sym c.if-reordernsm.true) in
    record { vtol = is; within = vtol_within c.args.reordernsm classes levels c.reverse_groups.new.vtol is }

pub returns-else-reordernsm : goal.returns-else-reordernsm
unfolding vtol_of
returns-else-reordernsm g c =
    let classes = g.C.Classes.all c.args.line.now in
    let levels = c.args.levels.now in
    let is = c.order_places.ensures ∙ ap (λ asked. vtol_of asked classes levels) (sym c.if-reordernsm.false) in
    record { vtol = is; within = vtol_within c.args.reordernsm classes levels c.order_places.new.vtol is }
