use Rattle.std.proofs.Common.{ap, ◌∙◌, sym, subst}
use Rattle.store.specs.Subtrees.{tree_of, IsSound, IsSummed}
use Rattle.store.specs.Trees.{in_order}
use Rattle.store.proofs.SumsLemmas.{fit_by}
use Rattle.store.proofs.subtree.Subtree.sums.Goals as goal

pub returns-in-Some-clause-sums : goal.returns-in-Some-clause-sums
returns-in-Some-clause-sums g c =
    let summed : IsSummed g.P.Measured c.in-Some.node.value = subst (IsSound g.P.Measured) c.in-Some.is c.self.invariant in
    let items = ap in_order (sym c.self.view_is ∙ ap tree_of c.in-Some.is) in
    rw (items, c.deref-in-Some.ensures) summed.sums_are

pub returns-in-Some-clause-fit : goal.returns-in-Some-clause-fit
returns-in-Some-clause-fit g c =
    let summed : IsSummed g.P.Measured c.in-Some.node.value = subst (IsSound g.P.Measured) c.in-Some.is c.self.invariant in
    let items = ap in_order (sym c.self.view_is ∙ ap tree_of c.in-Some.is) in
    rw items (fit_by g.P.Measured _ c.deref.result.now.sums (rw c.deref.ensures summed.sums_are) c.fits.ensures)
