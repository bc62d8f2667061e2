use Rattle.std.proofs.Common.{arith}
use Rattle.std.proofs.lemmas.Grind.{common_steps}
use Rattle.std.proofs.Common.{◌∷◌, ◌++◌, subst}
use Rattle.store.specs.Subtrees.{Fits}
use Rattle.store.specs.Trees.{in_order}
use Rattle.store.proofs.JoinLemmas.{fit_before}
use Rattle.store.proofs.joining.lean_left.Goals as goal

pub over-requires-clause-fits : goal.over-requires-clause-fits
over-requires-clause-fits g c =
    (fit_before g.P.Measured (in_order c.args.right) c.args.node c.in-Some.top
    c.args.left c.in-Some.outer c.in-Some.inner c.in-Some.ensures.parts c.requires.fits).back_fits

pub over-requires-then-height-clause-fits : goal.over-requires-then-height-clause-fits
over-requires-then-height-clause-fits g c =
    rw c.over.ensures (fit_before g.P.Measured (in_order c.args.right) c.args.node c.in-Some.top
    c.args.left c.in-Some.outer c.in-Some.inner c.in-Some.ensures.parts c.requires.fits).all_fit

pub lift-requires-clause-fits : goal.lift-requires-clause-fits
lift-requires-clause-fits g c =
    subst (λ t. Fits g.P.Measured (in_order t ++ c.args.node ∷ in_order c.args.right)) c.in-Some.ensures.parts c.requires.fits

pub returns-then-height-clause-items : goal.returns-then-height-clause-items
returns-then-height-clause-items g c = grind (arith, common_steps)
