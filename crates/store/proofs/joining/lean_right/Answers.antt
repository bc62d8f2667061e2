use Rattle.std.proofs.Common.{arith}
use Rattle.std.proofs.lemmas.Grind.{common_steps}
use Rattle.store.specs.Trees.{in_order}
use Rattle.store.proofs.JoinLemmas.{fit_after}
use Rattle.store.proofs.joining.lean_right.Goals as goal

pub over-requires-clause-fits : goal.over-requires-clause-fits
over-requires-clause-fits g c =
    (fit_after g.P.Measured (in_order c.args.left) c.args.node c.in-Some.top
    c.args.right c.in-Some.inner c.in-Some.outer c.in-Some.ensures.parts c.requires.fits).front_fits

pub over-requires-then-height-clause-fits : goal.over-requires-then-height-clause-fits
over-requires-then-height-clause-fits g c =
    rw c.over.ensures (fit_after g.P.Measured (in_order c.args.left) c.args.node c.in-Some.top
    c.args.right c.in-Some.inner c.in-Some.outer c.in-Some.ensures.parts c.requires.fits).all_fit

pub lift-requires-clause-fits : goal.lift-requires-clause-fits
lift-requires-clause-fits g c =
    (fit_after g.P.Measured (in_order c.args.left) c.args.node c.in-Some.top
    c.args.right c.in-Some.inner c.in-Some.outer c.in-Some.ensures.parts c.requires.fits).all_fit

pub returns-then-height-clause-items : goal.returns-then-height-clause-items
returns-then-height-clause-items g c = grind (arith, common_steps)

pub returns-clause-items : goal.returns-clause-items
returns-clause-items g c = grind (arith, common_steps)
