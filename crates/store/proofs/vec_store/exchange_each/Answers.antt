use Rattle.std.proofs.Common.{◌≡◌, ◌<◌, length, get_or, refl, ap, sym, subst, arith, ◌∙◌}
use Rattle.store.specs.Exchanging.{pairwise, raised}
use Rattle.store.proofs.ExchangeLemmas.{as_many, cost_all, cost_more, fit_at, raised_twice, length-pairwise, pairwise_at}
use Rattle.store.proofs.ListLemmas.{get_next, set_next, made_all}
use Rattle.store.proofs.vec_store.exchange_each.Goals as goal

pub bounds-parts-index : goal.bounds-parts-index
bounds-parts-index g c = omega (arith, as_many (g.E.Exchanger.fits (g.E.Exchanger.kind c.args.by.now)) _ _ c.requires)

pub exchange-requires : goal.exchange-requires
exchange-requires g c =
    let by = g.E.Exchanger.kind c.args.by.now in
    let xs = c.args.items.now in
    let ps = c.args.parts.now in
    let k = c.loop-index.index in
    let d = c.index-items-index.result in
    let e = c.index-parts-index.result in
    let l = length-pairwise (g.E.Exchanger.fits by) (g.E.Exchanger.exchanged by) xs ps c.requires in
    let m = length-pairwise (g.E.Exchanger.fits by) (g.E.Exchanger.handed_out by) xs ps c.requires in
    let n = as_many (g.E.Exchanger.fits by) xs ps c.requires in
    let x_is = get_next (pairwise (g.E.Exchanger.exchanged by) xs ps) xs c.loop-index.items k d l c.loop-index-test.true c.loop-index.invariant.items in
    let p_is = get_next (pairwise (g.E.Exchanger.handed_out by) xs ps) ps c.loop-index.parts k e (m ∙ sym n) (omega arith) c.loop-index.invariant.parts in
    let by_is = c.loop-index.invariant.same in
    subst (λ other. g.E.Exchanger.fits other (get_or c.loop-index.items k d) (get_or c.loop-index.parts k e)) (sym by_is)
    (subst (λ z. g.E.Exchanger.fits by z (get_or c.loop-index.parts k e)) (sym x_is)
    (subst (λ q. g.E.Exchanger.fits by (get_or xs k d) q) (sym p_is) (fit_at (g.E.Exchanger.fits by) xs ps k d e c.loop-index-test.true c.requires)))

pub loop-index-preserved : goal.loop-index-preserved
loop-index-preserved g c =
    let by = g.E.Exchanger.kind c.args.by.now in
    let xs = c.args.items.now in
    let ps = c.args.parts.now in
    let k = c.loop-index.index in
    let d = c.index-items-index.result in
    let e = c.index-parts-index.result in
    let l = length-pairwise (g.E.Exchanger.fits by) (g.E.Exchanger.exchanged by) xs ps c.requires in
    let m = length-pairwise (g.E.Exchanger.fits by) (g.E.Exchanger.handed_out by) xs ps c.requires in
    let n = as_many (g.E.Exchanger.fits by) xs ps c.requires in
    let h : k < length ps = omega arith in
    let x_is = get_next (pairwise (g.E.Exchanger.exchanged by) xs ps) xs c.loop-index.items k d l c.loop-index-test.true c.loop-index.invariant.items in
    let p_is = get_next (pairwise (g.E.Exchanger.handed_out by) xs ps) ps c.loop-index.parts k e (m ∙ sym n) h c.loop-index.invariant.parts in
    let y = c.exchange.new.item in
    let q = c.exchange.new.part in
    let y_is : y ≡ get_or (pairwise (g.E.Exchanger.exchanged by) xs ps) k y =
    c.exchange.ensures.item ∙ rw (c.loop-index.invariant.same, x_is, p_is) (sym (pairwise_at (g.E.Exchanger.fits by) (g.E.Exchanger.exchanged by) xs ps k d e y c.loop-index-test.true c.requires)) in
    let q_is : q ≡ get_or (pairwise (g.E.Exchanger.handed_out by) xs ps) k q =
    c.exchange.ensures.part ∙ rw (c.loop-index.invariant.same, x_is, p_is) (sym (pairwise_at (g.E.Exchanger.fits by) (g.E.Exchanger.handed_out by) xs ps k d e q c.loop-index-test.true c.requires)) in
    let cost_is : g.E.Exchanger.cost (get_or c.loop-index.items k d) (get_or c.loop-index.parts k e) ≡ g.E.Exchanger.cost (get_or xs k d) (get_or ps k e) =
    rw (x_is, p_is) refl in
    let costs = cost_more (g.E.Exchanger.fits by) g.E.Exchanger.cost xs ps k d e c.loop-index-test.true c.requires in
    record {
      items = set_next _ xs c.loop-index.items k y l c.loop-index-test.true c.loop-index.invariant.items y_is;
      parts = set_next _ ps c.loop-index.parts k q (m ∙ sym n) h c.loop-index.invariant.parts q_is;
      same = c.exchange.ensures.same ∙ c.loop-index.invariant.same;
      worked = raised_twice _ _ _ _ _ _ c.loop-index.invariant.worked (c.exchange.ensures.worked ∙ ap (raised (g.E.Exchanger.worked c.loop-index.by)) cost_is) costs;
    }

pub returns-clause-items : goal.returns-clause-items
returns-clause-items g c =
    let by = g.E.Exchanger.kind c.args.by.now in
    let xs = c.args.items.now in
    let ps = c.args.parts.now in
    let l = length-pairwise (g.E.Exchanger.fits by) (g.E.Exchanger.exchanged by) xs ps c.requires in
    c.loop-index.invariant.items ∙ made_all _ xs c.loop-index.index l (omega arith)

pub returns-clause-parts : goal.returns-clause-parts
returns-clause-parts g c =
    let by = g.E.Exchanger.kind c.args.by.now in
    let xs = c.args.items.now in
    let ps = c.args.parts.now in
    let m = length-pairwise (g.E.Exchanger.fits by) (g.E.Exchanger.handed_out by) xs ps c.requires in
    let n = as_many (g.E.Exchanger.fits by) xs ps c.requires in
    c.loop-index.invariant.parts ∙ made_all _ ps c.loop-index.index (m ∙ sym n) (omega arith)

pub returns-clause-worked : goal.returns-clause-worked
returns-clause-worked g c =
    let by = g.E.Exchanger.kind c.args.by.now in
    c.loop-index.invariant.worked
    ∙ ap (raised (g.E.Exchanger.worked c.args.by.now))
    (cost_all (g.E.Exchanger.fits by) g.E.Exchanger.cost c.args.items.now c.args.parts.now c.loop-index.index (omega arith) c.requires)
