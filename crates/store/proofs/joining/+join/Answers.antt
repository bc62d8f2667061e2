use Rattle.std.proofs.Common.{◌∷◌, ◌++◌, length, ap, sym, ◌∙◌, arith, append_assoc, length-append}
use Rattle.store.specs.Trees.{in_order}
use Rattle.store.proofs.JoinLemmas.{fit_before, fit_after}
use Rattle.store.proofs.joining.+join.Goals as goal

pub join-requires : goal.join-requires
join-requires g t c =
    let parts = c.in-Some.ensures.parts in
    let fit = fit_before g.P.Measured (in_order c.args.right) c.args.node c.in-Some.top
    c.args.left c.in-Some.first c.in-Some.middle parts c.requires in
    λ κs h. (omega (arith, c.decreases, ap (λ t. length (in_order t)) parts, length-append (in_order c.in-Some.first) (c.in-Some.top ∷ in_order c.in-Some.middle)), (h, fit.back_fits))

pub balance-requires-clause-fits : goal.balance-requires-clause-fits
balance-requires-clause-fits g t c =
    rw c.join.ensures.items (fit_before g.P.Measured (in_order c.args.right) c.args.node c.in-Some.top
    c.args.left c.in-Some.first c.in-Some.middle c.in-Some.ensures.parts c.requires).all_fit

pub join-requires-then-right_height-left_height : goal.join-requires-then-right_height-left_height
join-requires-then-right_height-left_height g t c =
    let parts = c.in-Some-open.ensures.parts in
    let fit = fit_after g.P.Measured (in_order c.args.left) c.args.node c.in-Some-open.top
    c.args.right c.in-Some-open.middle c.in-Some-open.last parts c.requires in
    λ κs h. (omega (arith, c.decreases, ap (λ t. length (in_order t)) parts, length-append (in_order c.in-Some-open.middle) (c.in-Some-open.top ∷ in_order c.in-Some-open.last)), (h, fit.front_fits))

pub balance-requires-then-right_height-left_height-clause-fits : goal.balance-requires-then-right_height-left_height-clause-fits
balance-requires-then-right_height-left_height-clause-fits g t c =
    rw c.join-then-right_height-left_height.ensures.items (fit_after g.P.Measured (in_order c.args.left) c.args.node c.in-Some-open.top
    c.args.right c.in-Some-open.middle c.in-Some-open.last c.in-Some-open.ensures.parts c.requires).all_fit

pub overflow_add-right_height : goal.overflow_add-right_height
overflow_add-right_height g t c =
    omega (arith, c.requires.count, c.height-right_height.ensures.low, length-append (in_order c.args.left) (c.args.node ∷ in_order c.args.right))

pub overflow_add-left_height : goal.overflow_add-left_height
overflow_add-left_height g t c =
    omega (arith, c.requires.count, c.height-left_height.ensures.low, length-append (in_order c.args.left) (c.args.node ∷ in_order c.args.right))

pub returns-then-left_height-right_height-clause-items : goal.returns-then-left_height-right_height-clause-items
returns-then-left_height-right_height-clause-items g t c =
    let n = c.in-Some in
    c.balance.ensures.items ∙ ap (λ zs. in_order n.first ++ n.top ∷ zs) c.join.ensures.items
    ∙ sym (append_assoc (in_order n.first) (n.top ∷ in_order n.middle) (c.args.node ∷ in_order c.args.right))
    ∙ ap (λ t. in_order t ++ c.args.node ∷ in_order c.args.right) (sym n.ensures.parts)

pub returns-then-right_height-left_height-clause-items : goal.returns-then-right_height-left_height-clause-items
returns-then-right_height-left_height-clause-items g t c =
    let n = c.in-Some-open in
    c.balance-then-right_height-left_height.ensures.items ∙ ap (λ zs. zs ++ n.top ∷ in_order n.last) c.join-then-right_height-left_height.ensures.items
    ∙ append_assoc (in_order c.args.left) (c.args.node ∷ in_order n.middle) (n.top ∷ in_order n.last)
    ∙ ap (λ t. in_order c.args.left ++ c.args.node ∷ in_order t) (sym n.ensures.parts)
