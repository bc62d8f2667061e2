use Rattle.std.proofs.Common.{◌≡◌, ◌+◌, ◌-◌, length, sum_by, refl, sym, ap, subst, ◌∙◌, arith}
use Rattle.store.specs.Subtrees.{tree_of, tree_of_node}
use Rattle.store.specs.Sums.{measure, SumsFit}
use Rattle.store.specs.Trees.{in_order, height}
use Rattle.store.proofs.FindLemmas.{at_item, before_fit, found_before, found_after}
use Rattle.store.proofs.SumsLemmas.{first_fit, all_fit, all_are}
use Rattle.store.proofs.TreeLemmas.{nodes_low}
use Rattle.store.proofs.subtree.Subtree.+find.Goals as goal

pub overflow_add-result : goal.overflow_add-result
overflow_add-result g t c =
    let n = c.deref-node.result.now in
    let tree_is = sym c.self.view_is ∙ ap tree_of c.in-Some.is ∙ ap tree_of_node (sym c.deref-node.ensures) in
    omega (arith, nodes_low n.left c.find-position.result.index, c.find-position.ensures.visits, ap height tree_is)

pub overflow_add-result-4 : goal.overflow_add-result-4
overflow_add-result-4 g t c =
    let n = c.deref-node.result.now in
    let tree_is = sym c.self.view_is ∙ ap tree_of c.in-Some.is ∙ ap tree_of_node (sym c.deref-node.ensures) in
    omega (arith, nodes_low n.right c.find-position-2.result.index, c.find-position-2.ensures.visits, ap height tree_is)

pub returns-then-n-left-clause-found : goal.returns-then-n-left-clause-found
returns-then-n-left-clause-found g t c =
    let n = c.deref-node.result.now in
    let tree_is = sym c.self.view_is ∙ ap tree_of c.in-Some.is ∙ ap tree_of_node (sym c.deref-node.ensures) in
    rw (ap in_order tree_is) (found_before g.P.Measured c.args.unit (in_order n.left) n.item (in_order n.right) c.args.n
    c.find-position.result _ refl refl refl c.find-position.ensures.found)

pub returns-then-rest-size-clause-found : goal.returns-then-rest-size-clause-found
returns-then-rest-size-clause-found g t c =
    let n = c.deref-node.result.now in
    let tree_is = sym c.self.view_is ∙ ap tree_of c.in-Some.is ∙ ap tree_of_node (sym c.deref-node.ensures) in
    let size = measure g.P.Measured c.args.unit in
    let sum_is : sum_by size (in_order n.left) + (c.args.n - c.total-left.result) ≡ c.args.n = omega (arith, c.total-left.ensures) in
    rw (ap in_order tree_is) (at_item g.P.Measured c.args.unit (in_order n.left) n.item (in_order n.right) c.args.n _
    c.count-index.ensures sum_is (omega (arith, c.size_of-size.ensures)) c.sums-before.ensures.sums)

pub plus-requires : goal.plus-requires
plus-requires g t c =
    let n = c.deref-node.result.now in
    let tree_is = sym c.self.view_is ∙ ap tree_of c.in-Some.is ∙ ap tree_of_node (sym c.deref-node.ensures) in
    let fit = subst (λ tree. SumsFit g.P.Measured (in_order tree)) tree_is c.sums-sums.ensures.fit in
    first_fit g.P.Measured (in_order n.left) n.item (in_order n.right) c.sums-before.result c.of.result
    c.of.result c.of.result c.of.result c.sums-before.ensures.sums c.of.ensures fit

pub plus-requires-2 : goal.plus-requires-2
plus-requires-2 g t c =
    let n = c.deref-node.result.now in
    let tree_is = sym c.self.view_is ∙ ap tree_of c.in-Some.is ∙ ap tree_of_node (sym c.deref-node.ensures) in
    let fit = subst (λ tree. SumsFit g.P.Measured (in_order tree)) tree_is c.sums-sums.ensures.fit in
    let found = c.find-position-2.ensures.found in
    all_fit g.P.Measured (in_order n.left) n.item found.finds.before c.sums-before.result c.of.result
    c.plus.result c.find-position-2.result.before c.of.result c.sums-before.ensures.sums c.of.ensures c.plus.ensures found.sums
    (before_fit g.P.Measured c.args.unit (in_order n.left) n.item (in_order n.right) _ c.find-position-2.result found fit)

pub returns-clause-found : goal.returns-clause-found
returns-clause-found g t c =
    let n = c.deref-node.result.now in
    let tree_is = sym c.self.view_is ∙ ap tree_of c.in-Some.is ∙ ap tree_of_node (sym c.deref-node.ensures) in
    let size = measure g.P.Measured c.args.unit in
    let k = c.args.n - c.total-left.result - c.size_of-size.result in
    let sum_is : sum_by size (in_order n.left) + size n.item + k ≡ c.args.n = omega (arith, c.total-left.ensures, c.size_of-size.ensures) in
    let index_is : c.count-index.result + 1 + c.find-position-2.result.index ≡ length (in_order n.left) + 1 + c.find-position-2.result.index = omega (arith, c.count-index.ensures) in
    let found = c.find-position-2.ensures.found in
    let sums_are = all_are g.P.Measured (in_order n.left) n.item found.finds.before c.sums-before.result c.of.result
    c.plus.result c.find-position-2.result.before c.plus-2.result c.sums-before.ensures.sums c.of.ensures c.plus.ensures found.sums c.plus-2.ensures in
    rw (ap in_order tree_is) (found_after g.P.Measured c.args.unit (in_order n.left) n.item (in_order n.right) c.args.n k
    c.find-position-2.result _ index_is refl sum_is found sums_are)
