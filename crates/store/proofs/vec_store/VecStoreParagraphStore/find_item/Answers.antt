use Rattle.std.proofs.Common.{sym}
use Rattle.store.proofs.FindLemmas.{item_counts, item_found}
use Rattle.store.proofs.SumsLemmas.{fit_by}
use Rattle.store.proofs.vec_store.VecStoreParagraphStore.find_item.Goals as goal

pub find_item-requires-clause-fit : goal.find_item-requires-clause-fit
find_item-requires-clause-fit g c = rw c.deref.ensures.value (fit_by g.P.Measured _ _ c.self.invariant c.fits.ensures)

pub returns-clause-found : goal.returns-clause-found
returns-clause-found g c =
    rw (c.found.ensures, sym c.self.view_is, sym c.deref.ensures.value) (item_found g.P.Measured _ c.args.index c.find_item.result c.find_item.ensures.found)

pub returns-clause-counts : goal.returns-clause-counts
returns-clause-counts g c =
    rw (c.found.ensures, sym c.self.view_is, sym c.deref.ensures.value) (item_counts g.P.Measured _ c.args.index c.find_item.result c.find_item.ensures.found)
