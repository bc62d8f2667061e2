use Rattle.std.proofs.Common.{◌≡◌, ℕ, ◌+◌, ◌<◌, ◌++◌, ◌∷◌, length, get_or, sum_by, refl, sym, ap, ◌∙◌, subst, arith, length-append, ◌^◌}
use Rattle.std.specs.List.{AllZip}
use Rattle.store.specs.Exchanging.{pairwise, total_cost}
use Rattle.store.specs.Subtrees.{tree_of, tree_of_node, IsSummed, IsSound}
use Rattle.store.specs.Sums.{SumsFit}
use Rattle.store.specs.Trees.{in_order, height}
use Rattle.std.proofs.lemmas.List.Sums.{sum_by-append}
use Rattle.store.proofs.ExchangeLemmas.{as_many, length-pairwise, fit_front, fit_item, fit_right, pairwise-append, pairwise_parts, raised_twice, sum_parts, set_one, AreParted}
use Rattle.store.proofs.SubtreeLemmas.{balanced_again, summed_again, IsLike}
use Rattle.store.proofs.SumsLemmas.{fit_by, fit_again}
use Rattle.store.proofs.subtree.Subtree.+exchange_all.Goals as goal

pub split_at_mut-first-requires : goal.split_at_mut-first-requires
split_at_mut-first-requires g t c =
    let n = c.deref_mut-node.result.now in
    let tree_is = sym c.self.view_is ∙ ap tree_of c.in-Some.is ∙ ap tree_of_node (sym c.deref_mut-node.ensures.value) in
    omega (
      arith,
      as_many (g.E.Exchanger.fits (g.E.Exchanger.kind c.args.by.now)) (in_order c.args.self.now)
          c.args.parts.now c.requires.fit,
      ap (λ tree. length (in_order tree)) tree_is,
      length-append (in_order n.left)
          (n.item ∷ in_order n.right),
      c.count-before.ensures,
    )

pub split_at_mut-part-requires : goal.split_at_mut-part-requires
split_at_mut-part-requires g t c =
    let n = c.deref_mut-node.result.now in
    let tree_is = sym c.self.view_is ∙ ap tree_of c.in-Some.is ∙ ap tree_of_node (sym c.deref_mut-node.ensures.value) in
    omega (
      arith,
      as_many (g.E.Exchanger.fits (g.E.Exchanger.kind c.args.by.now)) (in_order c.args.self.now)
          c.args.parts.now c.requires.fit,
      ap (λ tree. length (in_order tree)) tree_is,
      length-append (in_order n.left)
          (n.item ∷ in_order n.right),
      c.count-before.ensures,
      c.split_at_mut-first.ensures.front_len,
      c.split_at_mut-first.ensures.back_len,
    )

pub exchange_all-requires : goal.exchange_all-requires
exchange_all-requires g t c =
    let by = g.E.Exchanger.kind c.args.by.now in
    let n = c.deref_mut-node.result.now in
    let xs = in_order n.left in
    let ys = n.item ∷ in_order n.right in
    let qs = c.split_at_mut-first.result.0.now in
    let rs = c.split_at_mut-first.result.1.now in
    let tree_is = sym c.self.view_is ∙ ap tree_of c.in-Some.is ∙ ap tree_of_node (sym c.deref_mut-node.ensures.value) in
    let whole = subst (λ zs. AllZip (g.E.Exchanger.fits by) zs c.args.parts.now) (ap in_order tree_is) c.requires.fit in
    let parted = subst (λ ps. AllZip (g.E.Exchanger.fits by) (xs ++ ys) ps) c.split_at_mut-first.ensures.value whole in
    let l : length qs ≡ length xs = omega (arith, c.split_at_mut-first.ensures.front_len, c.count-before.ensures) in
    let falls : length xs < t = omega (arith, c.decreases, ap (λ tree. length (in_order tree)) tree_is, length-append xs ys) in
    let sum_is : sum_by g.P.Measured.lines (pairwise (g.E.Exchanger.exchanged by) (in_order c.args.self.now) c.args.parts.now)
    ≡ sum_by g.P.Measured.lines (pairwise (g.E.Exchanger.exchanged by) xs qs) + sum_by g.P.Measured.lines (pairwise (g.E.Exchanger.exchanged by) ys rs) =
    ap (λ zs. sum_by g.P.Measured.lines (pairwise (g.E.Exchanger.exchanged by) zs c.args.parts.now)) (ap in_order tree_is)
    ∙ ap (λ zs. sum_by g.P.Measured.lines (pairwise (g.E.Exchanger.exchanged by) (xs ++ ys) zs)) c.split_at_mut-first.ensures.value
    ∙ ap (sum_by g.P.Measured.lines) (pairwise-append (g.E.Exchanger.exchanged by) xs ys qs rs l)
    ∙ sum_by-append g.P.Measured.lines (pairwise (g.E.Exchanger.exchanged by) xs qs) (pairwise (g.E.Exchanger.exchanged by) ys rs) in
    let lines : sum_by g.P.Measured.lines (pairwise (g.E.Exchanger.exchanged by) xs qs) < 2 ^ 64 = omega (arith, sum_is, c.requires.lines_fit) in
    λ κs h. (falls, (h.0, (h.1.0, (h.1.1, (fit_front (g.E.Exchanger.fits by) xs ys qs rs l parted, lines)))))

pub exchange-requires : goal.exchange-requires
exchange-requires g t c =
    let by = g.E.Exchanger.kind c.args.by.now in
    let n = c.deref_mut-node.result.now in
    let xs = in_order n.left in
    let ps = c.split_at_mut-first.result.0.now in
    let rest = c.split_at_mut-first.result.1.now in
    let one = c.split_at_mut-part.result.0.now in
    let qs = c.split_at_mut-part.result.1.now in
    let tree_is = sym c.self.view_is ∙ ap tree_of c.in-Some.is ∙ ap tree_of_node (sym c.deref_mut-node.ensures.value) in
    let whole = subst (λ zs. AllZip (g.E.Exchanger.fits by) zs c.args.parts.now) (ap in_order tree_is) c.requires.fit in
    let parted : AreParted (g.E.Exchanger.fits by) xs n.item (in_order n.right) ps rest one qs c.args.parts.now = record {
      all_is = c.split_at_mut-first.ensures.value;
      rest_is = c.split_at_mut-part.ensures.value;
      front_len = c.split_at_mut-first.ensures.front_len ∙ c.count-before.ensures;
      one_len = c.split_at_mut-part.ensures.front_len;
    } in
    let d = c.index-part-0.result in
    subst (λ other. g.E.Exchanger.fits other n.item (get_or one 0 d)) (sym c.exchange_all.ensures.same)
    (fit_item (g.E.Exchanger.fits by) xs n.item (in_order n.right) ps rest one qs d parted whole)

pub exchange_all-requires-2 : goal.exchange_all-requires-2
exchange_all-requires-2 g t c =
    let by = g.E.Exchanger.kind c.args.by.now in
    let n = c.deref_mut-node.result.now in
    let xs = in_order n.left in
    let ps = c.split_at_mut-first.result.0.now in
    let rest = c.split_at_mut-first.result.1.now in
    let one = c.split_at_mut-part.result.0.now in
    let qs = c.split_at_mut-part.result.1.now in
    let d = c.index-part-0.result in
    let tree_is = sym c.self.view_is ∙ ap tree_of c.in-Some.is ∙ ap tree_of_node (sym c.deref_mut-node.ensures.value) in
    let whole = subst (λ zs. AllZip (g.E.Exchanger.fits by) zs c.args.parts.now) (ap in_order tree_is) c.requires.fit in
    let parted : AreParted (g.E.Exchanger.fits by) xs n.item (in_order n.right) ps rest one qs c.args.parts.now = record {
      all_is = c.split_at_mut-first.ensures.value;
      rest_is = c.split_at_mut-part.ensures.value;
      front_len = c.split_at_mut-first.ensures.front_len ∙ c.count-before.ensures;
      one_len = c.split_at_mut-part.ensures.front_len;
    } in
    let falls : length (in_order n.right) < t =
    omega (arith, c.decreases, ap (λ tree. length (in_order tree)) tree_is, length-append xs (n.item ∷ in_order n.right)) in
    let sum_is = ap (λ zs. sum_by g.P.Measured.lines (pairwise (g.E.Exchanger.exchanged by) zs c.args.parts.now)) (ap in_order tree_is)
    ∙ sum_parts (g.E.Exchanger.fits by) xs n.item (in_order n.right) ps rest one qs g.P.Measured.lines (g.E.Exchanger.exchanged by) d parted in
    let lines : sum_by g.P.Measured.lines (pairwise (g.E.Exchanger.exchanged by) (in_order n.right) qs) < 2 ^ 64 = omega (arith, sum_is, c.requires.lines_fit) in
    let fit = fit_right (g.E.Exchanger.fits by) xs n.item (in_order n.right) ps rest one qs parted whole in
    let by_is = sym (c.exchange.ensures.same ∙ c.exchange_all.ensures.same) in
    let fit_by = subst (λ other. AllZip (g.E.Exchanger.fits other) (in_order n.right) qs) by_is fit in
    let lines_by = subst (λ other. sum_by g.P.Measured.lines (pairwise (g.E.Exchanger.exchanged other) (in_order n.right) qs) < 2 ^ 64) by_is lines in
    λ κs h. (falls, (h.0, (h.1.0, (h.1.1, (fit_by, lines_by)))))

pub returns-clause-items : goal.returns-clause-items
returns-clause-items g t c =
    let by = g.E.Exchanger.kind c.args.by.now in
    let n = c.deref_mut-node.result.now in
    let xs = in_order n.left in
    let ys = in_order n.right in
    let ps = c.split_at_mut-first.result.0.now in
    let rest = c.split_at_mut-first.result.1.now in
    let one = c.split_at_mut-part.result.0.now in
    let qs = c.split_at_mut-part.result.1.now in
    let d = c.index-part-0.result in
    let tree_is = sym c.self.view_is ∙ ap tree_of c.in-Some.is ∙ ap tree_of_node (sym c.deref_mut-node.ensures.value) in
    let parted : AreParted (g.E.Exchanger.fits by) xs n.item ys ps rest one qs c.args.parts.now = record {
      all_is = c.split_at_mut-first.ensures.value;
      rest_is = c.split_at_mut-part.ensures.value;
      front_len = c.split_at_mut-first.ensures.front_len ∙ c.count-before.ensures;
      one_len = c.split_at_mut-part.ensures.front_len;
    } in
    let made = ap (λ zs. pairwise (g.E.Exchanger.exchanged by) zs c.args.parts.now) (ap in_order tree_is)
    ∙ pairwise_parts (g.E.Exchanger.fits by) xs n.item ys ps rest one qs (g.E.Exchanger.exchanged by) d parted in
    let items : in_order c.exchange_all.new.self ++ c.exchange.new.item ∷ in_order c.exchange_all-2.new.self
    ≡ pairwise (g.E.Exchanger.exchanged by) (in_order c.args.self.now) c.args.parts.now =
    rw (made, c.exchange_all.ensures.items, c.exchange.ensures.item, c.exchange_all-2.ensures.items, c.exchange.ensures.same, c.exchange_all.ensures.same) refl in
    items

pub returns-clause-parts : goal.returns-clause-parts
returns-clause-parts g t c =
    let by = g.E.Exchanger.kind c.args.by.now in
    let n = c.deref_mut-node.result.now in
    let xs = in_order n.left in
    let ys = in_order n.right in
    let ps = c.split_at_mut-first.result.0.now in
    let rest = c.split_at_mut-first.result.1.now in
    let one = c.split_at_mut-part.result.0.now in
    let qs = c.split_at_mut-part.result.1.now in
    let d = c.index-part-0.result in
    let tree_is = sym c.self.view_is ∙ ap tree_of c.in-Some.is ∙ ap tree_of_node (sym c.deref_mut-node.ensures.value) in
    let parted : AreParted (g.E.Exchanger.fits by) xs n.item ys ps rest one qs c.args.parts.now = record {
      all_is = c.split_at_mut-first.ensures.value;
      rest_is = c.split_at_mut-part.ensures.value;
      front_len = c.split_at_mut-first.ensures.front_len ∙ c.count-before.ensures;
      one_len = c.split_at_mut-part.ensures.front_len;
    } in
    let made = ap (λ zs. pairwise (g.E.Exchanger.handed_out by) zs c.args.parts.now) (ap in_order tree_is)
    ∙ pairwise_parts (g.E.Exchanger.fits by) xs n.item ys ps rest one qs (g.E.Exchanger.handed_out by) d parted in
    rw (
      made,
      set_one one c.exchange.new.part parted.one_len,
      c.exchange_all.ensures.parts,
      c.exchange.ensures.part,
      c.exchange_all-2.ensures.parts,
      c.exchange.ensures.same,
      c.exchange_all.ensures.same,
    ) refl

pub sums_with-sums-requires : goal.sums_with-sums-requires
sums_with-sums-requires g t c =
    let by = g.E.Exchanger.kind c.args.by.now in
    let n = c.deref_mut-node.result.now in
    let xs = in_order n.left in
    let ys = in_order n.right in
    let ps = c.split_at_mut-first.result.0.now in
    let rest = c.split_at_mut-first.result.1.now in
    let one = c.split_at_mut-part.result.0.now in
    let qs = c.split_at_mut-part.result.1.now in
    let d = c.index-part-0.result in
    let tree_is = sym c.self.view_is ∙ ap tree_of c.in-Some.is ∙ ap tree_of_node (sym c.deref_mut-node.ensures.value) in
    let parted : AreParted (g.E.Exchanger.fits by) xs n.item ys ps rest one qs c.args.parts.now = record {
      all_is = c.split_at_mut-first.ensures.value;
      rest_is = c.split_at_mut-part.ensures.value;
      front_len = c.split_at_mut-first.ensures.front_len ∙ c.count-before.ensures;
      one_len = c.split_at_mut-part.ensures.front_len;
    } in
    let made = ap (λ zs. pairwise (g.E.Exchanger.exchanged by) zs c.args.parts.now) (ap in_order tree_is)
    ∙ pairwise_parts (g.E.Exchanger.fits by) xs n.item ys ps rest one qs (g.E.Exchanger.exchanged by) d parted in
    let items : in_order c.exchange_all.new.self ++ c.exchange.new.item ∷ in_order c.exchange_all-2.new.self
    ≡ pairwise (g.E.Exchanger.exchanged by) (in_order c.args.self.now) c.args.parts.now =
    rw (made, c.exchange_all.ensures.items, c.exchange.ensures.item, c.exchange_all-2.ensures.items, c.exchange.ensures.same, c.exchange_all.ensures.same) refl in
    let summed : IsSummed g.P.Measured n =
    subst (IsSummed g.P.Measured) (sym c.deref_mut-node.ensures.value) (subst (IsSound g.P.Measured) c.in-Some.is c.self.invariant) in
    let fit : SumsFit g.P.Measured (in_order c.args.self.now) = rw (ap in_order tree_is) (fit_by g.P.Measured _ n.sums summed.sums_are c.fits.ensures) in
    subst (SumsFit g.P.Measured) (sym items) (fit_again g.P.Measured (g.E.Exchanger.fits by) (g.E.Exchanger.exchanged by)
    (g.met.E.Exchanger.keeps_chars by) (g.met.E.Exchanger.keeps_bytes by) (g.met.E.Exchanger.keeps_utf16 by) (in_order c.args.self.now)
    c.args.parts.now c.requires.fit c.requires.lines_fit fit)

pub invariant_of-self-2 : goal.invariant_of-self-2
invariant_of-self-2 g t c =
    let n = c.deref_mut-node.result.now in
    let summed : IsSummed g.P.Measured n =
    subst (IsSummed g.P.Measured) (sym c.deref_mut-node.ensures.value) (subst (IsSound g.P.Measured) c.in-Some.is c.self.invariant) in
    let l : IsLike n.left c.exchange_all.new.self = record {
      balanced = c.exchange_all.ensures.balanced;
      height_is = c.exchange_all.ensures.height;
      count_is = c.exchange_all.ensures.count;
    } in
    let r : IsLike n.right c.exchange_all-2.new.self = record {
      balanced = c.exchange_all-2.ensures.balanced;
      height_is = c.exchange_all-2.ensures.height;
      count_is = c.exchange_all-2.ensures.count;
    } in
    summed_again g.P.Measured n _ summed l r refl refl c.sums_with-sums.ensures

pub returns-clause-count : goal.returns-clause-count
returns-clause-count g t c =
    let by = g.E.Exchanger.kind c.args.by.now in
    ap length (returns-clause-items g t c)
    ∙ length-pairwise (g.E.Exchanger.fits by) (g.E.Exchanger.exchanged by) (in_order c.args.self.now) c.args.parts.now c.requires.fit

pub returns-clause-height : goal.returns-clause-height
returns-clause-height g t c =
    let tree_is = sym c.self.view_is ∙ ap tree_of c.in-Some.is ∙ ap tree_of_node (sym c.deref_mut-node.ensures.value) in
    rw (c.exchange_all.ensures.height, c.exchange_all-2.ensures.height) (sym (ap height tree_is))

pub returns-clause-balanced : goal.returns-clause-balanced
returns-clause-balanced g t c =
    let n = c.deref_mut-node.result.now in
    let summed : IsSummed g.P.Measured n =
    subst (IsSummed g.P.Measured) (sym c.deref_mut-node.ensures.value) (subst (IsSound g.P.Measured) c.in-Some.is c.self.invariant) in
    balanced_again n.left n.right c.exchange_all.new.self c.exchange_all-2.new.self n.item summed.balanced
    c.exchange_all.ensures.balanced c.exchange_all-2.ensures.balanced c.exchange_all.ensures.height c.exchange_all-2.ensures.height

-- the cost of exchanging a node's parts is the sum of the costs of the left subtree, of the node's own item,
-- and of the right subtree
pub returns-clause-worked : goal.returns-clause-worked
returns-clause-worked g t c =
    let by = g.E.Exchanger.kind c.args.by.now in
    let cost = g.E.Exchanger.cost in
    let n = c.deref_mut-node.result.now in
    let xs = in_order n.left in
    let ys = in_order n.right in
    let ps = c.split_at_mut-first.result.0.now in
    let rest = c.split_at_mut-first.result.1.now in
    let one = c.split_at_mut-part.result.0.now in
    let qs = c.split_at_mut-part.result.1.now in
    let d = c.index-part-0.result in
    let tree_is = sym c.self.view_is ∙ ap tree_of c.in-Some.is ∙ ap tree_of_node (sym c.deref_mut-node.ensures.value) in
    let parted : AreParted (g.E.Exchanger.fits by) xs n.item ys ps rest one qs c.args.parts.now = record {
      all_is = c.split_at_mut-first.ensures.value;
      rest_is = c.split_at_mut-part.ensures.value;
      front_len = c.split_at_mut-first.ensures.front_len ∙ c.count-before.ensures;
      one_len = c.split_at_mut-part.ensures.front_len;
    } in
    let costs : total_cost cost (in_order c.args.self.now) c.args.parts.now ≡ total_cost cost xs ps + (cost n.item (get_or one 0 d) + total_cost cost ys qs) =
    ap (λ zs. total_cost cost zs c.args.parts.now) (ap in_order tree_is)
    ∙ sum_parts (g.E.Exchanger.fits by) xs n.item ys ps rest one qs (λ (n : ℕ). n) cost d parted in
    raised_twice _ _ _ _ _ _ c.exchange_all.ensures.worked (raised_twice _ _ _ _ _ _ c.exchange.ensures.worked c.exchange_all-2.ensures.worked refl) costs
