use Rattle.std.proofs.Common.{◌-◌, take, refl, sym, ap, subst, ◌∙◌, arith}
use Rattle.store.specs.Subtrees.{tree_of, tree_of_node}
use Rattle.store.specs.Sums.{SumsFit}
use Rattle.store.specs.Trees.{in_order, height}
use Rattle.store.proofs.FindLemmas.{item_before, item_there, item_after, items_fit}
use Rattle.store.proofs.SumsLemmas.{first_fit, all_fit, all_are}
use Rattle.store.proofs.TreeLemmas.{nodes_low}
use Rattle.store.proofs.subtree.Subtree.+find_item.Goals as goal

pub overflow_add-result : goal.overflow_add-result
overflow_add-result g t c =
    let n = c.deref-node.result.now in
    let tree_is = sym c.self.view_is ∙ ap tree_of c.in-Some.is ∙ ap tree_of_node (sym c.deref-node.ensures) in
    omega (arith, nodes_low n.left c.args.index, c.find_item-position.ensures.visits, ap height tree_is)

pub overflow_add-result-2 : goal.overflow_add-result-2
overflow_add-result-2 g t c =
    let n = c.deref-node.result.now in
    let tree_is = sym c.self.view_is ∙ ap tree_of c.in-Some.is ∙ ap tree_of_node (sym c.deref-node.ensures) in
    omega (arith, nodes_low n.right (c.args.index - c.count-count.result - 1), c.find_item-position-2.ensures.visits, ap height tree_is)

pub returns-then-index-count-clause-found : goal.returns-then-index-count-clause-found
returns-then-index-count-clause-found g t c =
    let n = c.deref-node.result.now in
    let tree_is = sym c.self.view_is ∙ ap tree_of c.in-Some.is ∙ ap tree_of_node (sym c.deref-node.ensures) in
    rw (ap in_order tree_is) (item_before g.P.Measured (in_order n.left) n.item (in_order n.right) c.args.index
    c.find_item-position.result _ (omega (arith, c.count-count.ensures)) refl refl refl c.find_item-position.ensures.found)

pub returns-then-index-count-2-clause-found : goal.returns-then-index-count-2-clause-found
returns-then-index-count-2-clause-found g t c =
    let n = c.deref-node.result.now in
    let tree_is = sym c.self.view_is ∙ ap tree_of c.in-Some.is ∙ ap tree_of_node (sym c.deref-node.ensures) in
    rw (ap in_order tree_is) (item_there g.P.Measured (in_order n.left) n.item (in_order n.right) c.args.index _
    (omega (arith, c.count-count.ensures)) refl refl c.sums-before.ensures.sums)

pub plus-requires : goal.plus-requires
plus-requires g t c =
    let n = c.deref-node.result.now in
    let tree_is = sym c.self.view_is ∙ ap tree_of c.in-Some.is ∙ ap tree_of_node (sym c.deref-node.ensures) in
    let fit = subst (λ tree. SumsFit g.P.Measured (in_order tree)) tree_is c.sums-sums.ensures.fit in
    first_fit g.P.Measured (in_order n.left) n.item (in_order n.right) c.sums-before.result c.of.result
    c.of.result c.of.result c.of.result c.sums-before.ensures.sums c.of.ensures fit

pub plus-requires-2 : goal.plus-requires-2
plus-requires-2 g t c =
    let n = c.deref-node.result.now in
    let tree_is = sym c.self.view_is ∙ ap tree_of c.in-Some.is ∙ ap tree_of_node (sym c.deref-node.ensures) in
    let fit = subst (λ tree. SumsFit g.P.Measured (in_order tree)) tree_is c.sums-sums.ensures.fit in
    let k = c.args.index - c.count-count.result - 1 in
    all_fit g.P.Measured (in_order n.left) n.item (take k (in_order n.right)) c.sums-before.result c.of.result
    c.plus.result c.find_item-position-2.result.before c.of.result c.sums-before.ensures.sums c.of.ensures c.plus.ensures
    c.find_item-position-2.ensures.found.sums (items_fit g.P.Measured (in_order n.left) n.item (in_order n.right) k fit)

pub returns-clause-found : goal.returns-clause-found
returns-clause-found g t c =
    let n = c.deref-node.result.now in
    let tree_is = sym c.self.view_is ∙ ap tree_of c.in-Some.is ∙ ap tree_of_node (sym c.deref-node.ensures) in
    let k = c.args.index - c.count-count.result - 1 in
    let sums_are = all_are g.P.Measured (in_order n.left) n.item (take k (in_order n.right)) c.sums-before.result c.of.result
    c.plus.result c.find_item-position-2.result.before c.plus-2.result c.sums-before.ensures.sums c.of.ensures c.plus.ensures
    c.find_item-position-2.ensures.found.sums c.plus-2.ensures in
    rw (ap in_order tree_is) (item_after g.P.Measured (in_order n.left) n.item (in_order n.right) c.args.index k _
    (omega (arith, c.count-count.ensures)) refl refl sums_are)
