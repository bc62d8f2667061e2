use Rattle.std.proofs.Common.{◌∷◌, ◌++◌, [], ap, ◌∙◌, subst}
use Rattle.store.specs.Subtrees.{Fits}
use Rattle.store.specs.Trees.{in_order}
use Rattle.store.proofs.FitsLemmas.{fits_rest}
use Rattle.store.proofs.joining.+take_first.Goals as goal

pub join-requires : goal.join-requires
join-requires g t c =
    let items_are = ap in_order c.in_ok-left.ensures.parts ∙ ap (λ zs. zs ++ c.in_ok-left.top ∷ in_order c.in_ok-left.right) c.in-Some.ensures in
    fits_rest g.P.Measured [] (in_order c.in-Some.rest ++ c.in_ok-left.top ∷ in_order c.in_ok-left.right) c.in-Some.first
    (subst (Fits g.P.Measured) items_are c.in_ok-left.ensures.fits)
