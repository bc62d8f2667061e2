use Rattle.store.specs.Trees.{in_order}
use Rattle.store.proofs.JoinLemmas.{fit_lifted}
use Rattle.store.proofs.joining.lift.Goals as goal

pub over-requires-clause-fits : goal.over-requires-clause-fits
over-requires-clause-fits g c =
    (fit_lifted g.P.Measured (in_order c.args.left) (in_order c.args.right) c.args.before c.args.after c.in-Some.middle
    c.args.inner c.in-Some.first c.in-Some.second c.in-Some.ensures.parts c.requires.fits).front_fits

pub over-requires-2-clause-fits : goal.over-requires-2-clause-fits
over-requires-2-clause-fits g c =
    (fit_lifted g.P.Measured (in_order c.args.left) (in_order c.args.right) c.args.before c.args.after c.in-Some.middle
    c.args.inner c.in-Some.first c.in-Some.second c.in-Some.ensures.parts c.requires.fits).back_fits

pub over-requires-3-clause-fits : goal.over-requires-3-clause-fits
over-requires-3-clause-fits g c =
    rw (c.over.ensures, c.over-2.ensures) (fit_lifted g.P.Measured (in_order c.args.left) (in_order c.args.right) c.args.before c.args.after c.in-Some.middle
    c.args.inner c.in-Some.first c.in-Some.second c.in-Some.ensures.parts c.requires.fits).all_fit
