use Rattle.std.proofs.Common.{arith, sym, ◌∙◌}
use Rattle.lines.proofs.FillingLemmas.{first_end_at, first_end_none}
use Rattle.lines.proofs.filling.first_end.Goals as goal

pub returns-then-is_candidate-clause-end : goal.returns-then-is_candidate-clause-end
returns-then-is_candidate-clause-end c =
    sym (first_end_at c.args.rest.now c.loop-k.k c.loop-k-test.true c.loop-k.invariant (sym c.is_candidate.ensures ∙ c.if-is_candidate.true))

pub returns-clause-end : goal.returns-clause-end
returns-clause-end c = sym (first_end_none c.args.rest.now (λ j below. c.loop-k.invariant j (omega (arith, below, c.loop-k-test.false))))
