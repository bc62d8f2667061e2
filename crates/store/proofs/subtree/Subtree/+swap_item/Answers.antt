use Rattle.std.proofs.Common.{◌≡◌, ◌+◌, ◌-◌, ◌<◌, ◌++◌, ◌∷◌, length, slice_range, refl, sym, ap, ◌∙◌, subst, arith, length-append}
use Rattle.store.specs.Subtrees.{tree_of, tree_of_node, IsSummed, IsSound}
use Rattle.store.specs.Sums.{AreSums, SumsFit}
use Rattle.store.specs.Trees.{in_order}
use Rattle.store.proofs.SubtreeLemmas.{IsLike}
use Rattle.store.proofs.SwapLemmas.{fit_before, fit_after, range_before, range_after, same_left, same_right, swap_less, swap_more, swap_summed, swapped, swapped_before, swapped_here, swapped_after, swaps_in}
use Rattle.store.proofs.subtree.Subtree.+swap_item.Goals as goal

pub minus-requires : goal.minus-requires
minus-requires g t c =
    let n = c.deref_mut-node.result.now in
    let tree_is = sym c.self.view_is ∙ ap tree_of c.in-Some.is ∙ ap tree_of_node (sym c.deref_mut-node.ensures.value) in
    let summed = subst (IsSummed g.P.Measured) (sym c.deref_mut-node.ensures.value) (subst (IsSound g.P.Measured) c.in-Some.is c.self.invariant) in
    let s = swaps_in g.P.Measured c.args.self.now n c.args.index c.args.item.now c.args.less c.args.more tree_is summed
    c.requires.within c.requires.less c.requires.more c.requires.fit in
    swap_less g.P.Measured n c.args.index c.args.item.now c.args.less c.args.more s

pub plus-sums-requires : goal.plus-sums-requires
plus-sums-requires g t c =
    let n = c.deref_mut-node.result.now in
    let tree_is = sym c.self.view_is ∙ ap tree_of c.in-Some.is ∙ ap tree_of_node (sym c.deref_mut-node.ensures.value) in
    let summed = subst (IsSummed g.P.Measured) (sym c.deref_mut-node.ensures.value) (subst (IsSound g.P.Measured) c.in-Some.is c.self.invariant) in
    let s = swaps_in g.P.Measured c.args.self.now n c.args.index c.args.item.now c.args.less c.args.more tree_is summed
    c.requires.within c.requires.less c.requires.more c.requires.fit in
    swap_more g.P.Measured n c.args.index c.args.item.now c.args.less c.args.more s c.minus.result c.minus.ensures

pub swap_item-requires : goal.swap_item-requires
swap_item-requires g t c =
    let n = c.deref_mut-node.result.now in
    let tree_is = sym c.self.view_is ∙ ap tree_of c.in-Some.is ∙ ap tree_of_node (sym c.deref_mut-node.ensures.value) in
    let h : c.args.index < length (in_order n.left) = omega (arith, c.count-before.ensures) in
    let falls : length (in_order n.left) < t =
    omega (arith, c.decreases, ap (λ tree. length (in_order tree)) tree_is, length-append (in_order n.left) (n.item ∷ in_order n.right)) in
    let less = subst (λ tree. AreSums g.P.Measured (slice_range (in_order tree) c.args.index (c.args.index + 1)) c.args.less) tree_is c.requires.less in
    let fit = subst (λ tree. SumsFit g.P.Measured (swapped (in_order tree) c.args.index c.args.item.now)) tree_is c.requires.fit in
    λ κs m. (
      falls,
      (
        m,
        (
          h,
          (
            subst (λ xs. AreSums g.P.Measured xs c.args.less) (range_before (in_order n.left) (in_order n.right) n.item c.args.item.now c.args.index h) less,
            (c.requires.more, fit_before g.P.Measured (in_order n.left) (in_order n.right) n.item c.args.item.now c.args.index h fit),
          ),
        ),
      ),
    )

pub swap_item-requires-then-index-before-2 : goal.swap_item-requires-then-index-before-2
swap_item-requires-then-index-before-2 g t c =
    let n = c.deref_mut-node.result.now in
    let tree_is = sym c.self.view_is ∙ ap tree_of c.in-Some.is ∙ ap tree_of_node (sym c.deref_mut-node.ensures.value) in
    let k = c.args.index - c.count-before.result - 1 in
    let e : c.args.index ≡ length (in_order n.left) + 1 + k = omega (arith, c.count-before.ensures) in
    let h : k < length (in_order n.right) =
    omega (arith, c.count-before.ensures, c.requires.within, ap (λ tree. length (in_order tree)) tree_is, length-append (in_order n.left) (n.item ∷ in_order n.right)) in
    let falls : length (in_order n.right) < t =
    omega (arith, c.decreases, ap (λ tree. length (in_order tree)) tree_is, length-append (in_order n.left) (n.item ∷ in_order n.right)) in
    let less = subst (λ tree. AreSums g.P.Measured (slice_range (in_order tree) c.args.index (c.args.index + 1)) c.args.less) tree_is c.requires.less in
    let fit = subst (λ tree. SumsFit g.P.Measured (swapped (in_order tree) c.args.index c.args.item.now)) tree_is c.requires.fit in
    λ κs m. (
      falls,
      (
        m,
        (
          h,
          (
            subst (λ xs. AreSums g.P.Measured xs c.args.less) (range_after (in_order n.left) (in_order n.right) n.item c.args.item.now c.args.index k e) less,
            (c.requires.more, fit_after g.P.Measured (in_order n.left) (in_order n.right) n.item c.args.item.now c.args.index k e fit),
          ),
        ),
      ),
    )

pub returns-then-index-before-2-clause-items : goal.returns-then-index-before-2-clause-items
returns-then-index-before-2-clause-items g t c =
    let n = c.deref_mut-node.result.now in
    let tree_is = sym c.self.view_is ∙ ap tree_of c.in-Some.is ∙ ap tree_of_node (sym c.deref_mut-node.ensures.value) in
    let k = c.args.index - c.count-before.result - 1 in
    let e : c.args.index ≡ length (in_order n.left) + 1 + k = omega (arith, c.count-before.ensures) in
    ap (λ xs. in_order n.left ++ n.item ∷ xs) c.swap_item-then-index-before-2.ensures.items ∙ sym (swapped_after (in_order n.left) (in_order n.right) n.item c.args.item.now c.args.index k e)
    ∙ ap (λ tree. swapped (in_order tree) c.args.index c.args.item.now) (sym tree_is)

pub returns-then-index-before-2-clause-out : goal.returns-then-index-before-2-clause-out
returns-then-index-before-2-clause-out g t c =
    let n = c.deref_mut-node.result.now in
    let tree_is = sym c.self.view_is ∙ ap tree_of c.in-Some.is ∙ ap tree_of_node (sym c.deref_mut-node.ensures.value) in
    let k = c.args.index - c.count-before.result - 1 in
    let e : c.args.index ≡ length (in_order n.left) + 1 + k = omega (arith, c.count-before.ensures) in
    c.swap_item-then-index-before-2.ensures.out ∙ sym (range_after (in_order n.left) (in_order n.right) n.item c.args.item.now c.args.index k e) ∙ ap (λ tree. slice_range (in_order tree) c.args.index (c.args.index + 1)) (sym tree_is)

pub returns-clause-items : goal.returns-clause-items
returns-clause-items g t c =
    let n = c.deref_mut-node.result.now in
    let tree_is = sym c.self.view_is ∙ ap tree_of c.in-Some.is ∙ ap tree_of_node (sym c.deref_mut-node.ensures.value) in
    let e : c.args.index ≡ length (in_order n.left) = omega (arith, c.count-before.ensures) in
    ap (λ x. in_order n.left ++ x ∷ in_order n.right) c.swap.ensures.x_after ∙ sym (swapped_here (in_order n.left) (in_order n.right) n.item c.args.item.now c.args.index e)
    ∙ ap (λ tree. swapped (in_order tree) c.args.index c.args.item.now) (sym tree_is)

pub invariant_of-self : goal.invariant_of-self
invariant_of-self g t c =
    let n = c.deref_mut-node.result.now in
    let tree_is = sym c.self.view_is ∙ ap tree_of c.in-Some.is ∙ ap tree_of_node (sym c.deref_mut-node.ensures.value) in
    let summed = subst (IsSummed g.P.Measured) (sym c.deref_mut-node.ensures.value) (subst (IsSound g.P.Measured) c.in-Some.is c.self.invariant) in
    let s = swaps_in g.P.Measured c.args.self.now n c.args.index c.args.item.now c.args.less c.args.more tree_is summed
    c.requires.within c.requires.less c.requires.more c.requires.fit in
    let h : c.args.index < length (in_order n.left) = omega (arith, c.count-before.ensures) in
    let l : IsLike n.left c.swap_item.new.self = record { balanced = c.swap_item.ensures.balanced; height_is = c.swap_item.ensures.height; count_is = c.swap_item.ensures.count } in
    swap_summed g.P.Measured n c.args.index c.args.item.now c.args.less c.args.more s _ c.minus.result c.minus.ensures c.plus-sums.ensures l (same_right g.P.Measured n c.args.index c.args.item.now c.args.less c.args.more s) refl refl
    (ap (λ xs. xs ++ n.item ∷ in_order n.right) c.swap_item.ensures.items ∙ sym (swapped_before (in_order n.left) (in_order n.right) n.item c.args.item.now c.args.index h))

pub invariant_of-self-then-index-before-2 : goal.invariant_of-self-then-index-before-2
invariant_of-self-then-index-before-2 g t c =
    let n = c.deref_mut-node.result.now in
    let tree_is = sym c.self.view_is ∙ ap tree_of c.in-Some.is ∙ ap tree_of_node (sym c.deref_mut-node.ensures.value) in
    let summed = subst (IsSummed g.P.Measured) (sym c.deref_mut-node.ensures.value) (subst (IsSound g.P.Measured) c.in-Some.is c.self.invariant) in
    let s = swaps_in g.P.Measured c.args.self.now n c.args.index c.args.item.now c.args.less c.args.more tree_is summed
    c.requires.within c.requires.less c.requires.more c.requires.fit in
    let k = c.args.index - c.count-before.result - 1 in
    let e : c.args.index ≡ length (in_order n.left) + 1 + k = omega (arith, c.count-before.ensures) in
    let r : IsLike n.right c.swap_item-then-index-before-2.new.self = record { balanced = c.swap_item-then-index-before-2.ensures.balanced; height_is = c.swap_item-then-index-before-2.ensures.height; count_is = c.swap_item-then-index-before-2.ensures.count } in
    swap_summed g.P.Measured n c.args.index c.args.item.now c.args.less c.args.more s _ c.minus.result c.minus.ensures c.plus-sums.ensures (same_left g.P.Measured n c.args.index c.args.item.now c.args.less c.args.more s) r refl refl
    (ap (λ xs. in_order n.left ++ n.item ∷ xs) c.swap_item-then-index-before-2.ensures.items ∙ sym (swapped_after (in_order n.left) (in_order n.right) n.item c.args.item.now c.args.index k e))
