use Rattle.std.proofs.Common.{arith}
use Rattle.ucd.proofs.Cuts.{front_at, rest_at, parts_at, front_all, rest_none, parts_one}
use Rattle.ucd.proofs.grammar.cut_near.Goals as goal

pub returns-then-byte-delimiter-clause-front : goal.returns-then-byte-delimiter-clause-front
returns-then-byte-delimiter-clause-front c = front_at _ _ _ c.loop-at.invariant (omega arith) (omega arith)

pub returns-then-byte-delimiter-clause-rest : goal.returns-then-byte-delimiter-clause-rest
returns-then-byte-delimiter-clause-rest c = rest_at _ _ _ c.loop-at.invariant (omega arith) (omega arith)

pub returns-then-byte-delimiter-clause-parts : goal.returns-then-byte-delimiter-clause-parts
returns-then-byte-delimiter-clause-parts c = parts_at _ _ _ c.loop-at.invariant (omega arith) (omega arith)

pub returns-clause-front : goal.returns-clause-front
returns-clause-front c = front_all _ _ (λ k lt. c.loop-at.invariant k (omega arith))

pub returns-clause-rest : goal.returns-clause-rest
returns-clause-rest c = rest_none _ _ (λ k lt. c.loop-at.invariant k (omega arith))

pub returns-clause-parts : goal.returns-clause-parts
returns-clause-parts c = parts_one _ _ (λ k lt. c.loop-at.invariant k (omega arith))
