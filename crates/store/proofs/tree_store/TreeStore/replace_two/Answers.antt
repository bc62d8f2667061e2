use Rattle.std.proofs.Common.{◌+◌, ap, sym, subst, ◌∙◌}
use Rattle.std.specs.List.{slice_range, splice}
use Rattle.store.specs.Sums.{SumsFit}
use Rattle.store.specs.Trees.{in_order}
use Rattle.store.proofs.SwapLemmas.{both, both_set, fit_first, range_of_two, swapped, swapped_twice}
use Rattle.store.proofs.tree_store.TreeStore.replace_two.Goals as goal

pub exchange-requires-clause-fit : goal.exchange-requires-clause-fit
exchange-requires-clause-fit g c =
    fit_first g.P.Measured (in_order c.args.self.now) c.args.items.now.items c.args.index c.index_mut.result.now c.requires.two c.index_mut.ensures.value c.requires.room

pub exchange-requires-2-clause-fit : goal.exchange-requires-2-clause-fit
exchange-requires-2-clause-fit g c =
    let items = in_order c.args.self.now in
    let new = both c.args.items.now.items c.index_mut.result.now c.index_mut-2.result.now c.exchange.new.item c.requires.two c.index_mut.ensures.value c.index_mut-2.ensures.value in
    subst (SumsFit g.P.Measured)
    (sym (ap (λ xs. swapped xs (c.args.index + 1) c.index_mut-2.result.now) c.exchange.ensures.items
    ∙ swapped_twice items c.args.index c.requires.within c.index_mut.result.now c.index_mut-2.result.now
    ∙ ap (splice items c.args.index (c.args.index + 2)) (sym new)))
    c.requires.fit

pub returns-clause-items : goal.returns-clause-items
returns-clause-items g c =
    let items = in_order c.args.self.now in
    let new = both c.args.items.now.items c.index_mut.result.now c.index_mut-2.result.now c.exchange.new.item c.requires.two c.index_mut.ensures.value c.index_mut-2.ensures.value in
    c.exchange-2.ensures.items ∙ ap (λ xs. swapped xs (c.args.index + 1) c.index_mut-2.result.now) c.exchange.ensures.items
    ∙ swapped_twice items c.args.index c.requires.within c.index_mut.result.now c.index_mut-2.result.now
    ∙ ap (splice items c.args.index (c.args.index + 2)) (sym new)

pub returns-clause-out : goal.returns-clause-out
returns-clause-out g c =
    let items = in_order c.args.self.now in
    let second = c.exchange-2.ensures.out ∙ ap (λ xs. slice_range xs (c.args.index + 1) (c.args.index + 1 + 1)) c.exchange.ensures.items in
    both_set c.args.items.now.items c.exchange.new.item c.exchange-2.new.item c.requires.two
    ∙ range_of_two items c.args.index c.requires.within c.index_mut.result.now c.index_mut-2.result.now c.exchange.new.item c.exchange-2.new.item c.exchange.ensures.out second
