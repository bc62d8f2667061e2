use Rattle.std.proofs.Common.{subst, arith}
use Rattle.lines.specs.Layouts.{visuals}
use Rattle.lines.specs.Matching.{MatchAtStart}
use Rattle.session.proofs.BorderLemmas.{length-visuals}
use Rattle.session.proofs.PairLemmas.{only_last_differs}
use Rattle.session.proofs.changed.ends_of_pair.Goals as goal

pub returns-then-lines-start-eq1-clause-end : goal.returns-then-lines-start-eq1-clause-end
returns-then-lines-start-eq1-clause-end c =
    let old = c.args.old.now in
    let new = c.args.new.now in
    let start = subst (λ k. MatchAtStart (visuals k) (visuals new) c.matching_at_start-start.result) c.laid.ensures
    (subst (λ k. MatchAtStart (visuals c.laid.result.now) (visuals k) c.matching_at_start-start.result) c.laid-2.ensures c.matching_at_start-start.ensures) in
    only_last_differs (visuals old) (visuals new) c.matching_at_start-start.result start
    (omega (arith, length-visuals old, length-visuals new, c.lines-lines.ensures, c.lines.ensures, c.if-lines.true))
    (omega (arith, length-visuals old, c.lines-lines.ensures, c.if-start-lines.true, c.if-lines-start-eq1.true))
