use Rattle.std.proofs.Common.{arith, sym, ◌∙◌}
use Rattle.lines.proofs.FillingLemmas.{stop_at, stop_none}
use Rattle.lines.proofs.filling.first_must.Goals as goal

pub returns-then-is_must-clause-end : goal.returns-then-is_must-clause-end
returns-then-is_must-clause-end c =
    sym (stop_at c.args.rest.now c.loop-k.k c.loop-k-test.true c.loop-k.invariant (sym c.is_must.ensures ∙ c.if-is_must.true))

pub returns-clause-end : goal.returns-clause-end
returns-clause-end c = sym (stop_none c.args.rest.now (λ j below. c.loop-k.invariant j (omega (arith, below, c.loop-k-test.false))))
