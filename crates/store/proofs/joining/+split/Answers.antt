use Rattle.std.proofs.lemmas.Grind.{common_steps}
use Rattle.std.proofs.Common.{◌≡◌, ◌-◌, ◌<◌, ◌∷◌, ◌++◌, take, length, arith, ap, subst, sym, ◌∙◌, append_assoc, []}
use Rattle.store.specs.Subtrees.{Fits}
use Rattle.store.specs.Trees.{in_order}
use Rattle.store.proofs.FitsLemmas.{fits_after, fits_before}
use Rattle.store.proofs.ListLemmas.{take_far, drop_far}
use Rattle.store.proofs.joining.+split.Goals as goal

pub join-requires : goal.join-requires
join-requires g t c =
    let whole = subst (λ tree. Fits g.P.Measured (in_order tree)) c.in-Some.ensures.parts c.in-Some.ensures.fits in
    rw c.split-front.ensures.after (fits_after g.P.Measured (in_order c.in-Some.left) (c.in-Some.top ∷ in_order c.in-Some.right) c.args.at whole)

pub join-requires-2 : goal.join-requires-2
join-requires-2 g t c =
    let l = in_order c.in-Some.left in
    let r = in_order c.in-Some.right in
    let n = c.args.at - c.count-before.result - 1 in
    let whole = subst (λ tree. Fits g.P.Measured (in_order tree)) c.in-Some.ensures.parts c.in-Some.ensures.fits in
    let parted = subst (Fits g.P.Measured) (sym (append_assoc l (c.in-Some.top ∷ []) r)) whole in
    rw c.split-middle.ensures.front (subst (Fits g.P.Measured) (append_assoc l (c.in-Some.top ∷ []) (take n r))
    (fits_before g.P.Measured (l ++ c.in-Some.top ∷ []) r n parted))

pub returns-clause-front : goal.returns-clause-front
returns-clause-front g t c =
    let l = in_order c.in-Some.left in
    let r = in_order c.in-Some.right in
    let n_is : c.count-before.result ≡ length l = c.count-before.ensures in
    let far : length l < c.args.at = omega arith in
    let e : in_order c.args.tree ≡ l ++ c.in-Some.top ∷ r = ap in_order c.in-Some.ensures.parts in
    c.join-2.ensures.items ∙ rw (e, c.split-middle.ensures.front, n_is) (sym (take_far l r c.in-Some.top c.args.at far))

pub returns-clause-after : goal.returns-clause-after
returns-clause-after g t c =
    let l = in_order c.in-Some.left in
    let r = in_order c.in-Some.right in
    let n_is : c.count-before.result ≡ length l = c.count-before.ensures in
    let far : length l < c.args.at = omega arith in
    let e : in_order c.args.tree ≡ l ++ c.in-Some.top ∷ r = ap in_order c.in-Some.ensures.parts in
    c.split-middle.ensures.after ∙ rw (e, n_is) (sym (drop_far l r c.in-Some.top c.args.at far))

pub split-front-requires : goal.split-front-requires
split-front-requires g t c κs within = grind (arith, common_steps)

pub returns-then-at-before-clause-front : goal.returns-then-at-before-clause-front
returns-then-at-before-clause-front g t c = grind (arith, common_steps)

pub returns-then-at-before-clause-after : goal.returns-then-at-before-clause-after
returns-then-at-before-clause-after g t c = grind (arith, common_steps)

pub split-middle-requires : goal.split-middle-requires
split-middle-requires g t c κs within = grind (arith, common_steps)
