use Rattle.std.proofs.Common.{sym}
use Rattle.store.proofs.FindLemmas.{counts_at}
use Rattle.store.proofs.SumsLemmas.{fit_by}
use Rattle.store.proofs.vec_store.VecStore.find.Goals as goal

pub find-requires-clause-fit : goal.find-requires-clause-fit
find-requires-clause-fit g c = rw c.deref.ensures.value (fit_by g.P.Measured _ _ c.self.invariant c.fits.ensures)

pub returns-clause-counts : goal.returns-clause-counts
returns-clause-counts g c =
    rw (c.found.ensures, sym c.self.view_is, sym c.deref.ensures.value) (counts_at g.P.Measured c.args.unit _ c.args.n c.find.result c.find.ensures.found)
