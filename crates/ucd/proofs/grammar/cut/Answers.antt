use Rattle.std.proofs.Common.{arith}
use Rattle.std.proofs.lemmas.Bool.{eq-eqb, eqb-true}
use Rattle.ucd.proofs.Cuts.{front_at, rest_at, parts_at, front_all, rest_none, parts_one}
use Rattle.ucd.proofs.grammar.cut.Goals as goal

pub returns-in-Some-clause-front : goal.returns-in-Some-clause-front
returns-in-Some-clause-front c = front_at _ _ _ (λ k lt is. c.in-Some.ensures.0.before k (omega arith) lt (eq-eqb _ _ is)) c.in-Some.ensures.0.high (eqb-true _ _ c.in-Some.ensures.1)

pub returns-in-Some-clause-rest : goal.returns-in-Some-clause-rest
returns-in-Some-clause-rest c = rest_at _ _ _ (λ k lt is. c.in-Some.ensures.0.before k (omega arith) lt (eq-eqb _ _ is)) c.in-Some.ensures.0.high (eqb-true _ _ c.in-Some.ensures.1)

pub returns-in-Some-clause-parts : goal.returns-in-Some-clause-parts
returns-in-Some-clause-parts c = parts_at _ _ _ (λ k lt is. c.in-Some.ensures.0.before k (omega arith) lt (eq-eqb _ _ is)) c.in-Some.ensures.0.high (eqb-true _ _ c.in-Some.ensures.1)

pub returns-in-None-clause-front : goal.returns-in-None-clause-front
returns-in-None-clause-front c = front_all _ _ (λ k lt is. c.in-None.ensures k (omega arith) lt (eq-eqb _ _ is))

pub returns-in-None-clause-rest : goal.returns-in-None-clause-rest
returns-in-None-clause-rest c = rest_none _ _ (λ k lt is. c.in-None.ensures k (omega arith) lt (eq-eqb _ _ is))

pub returns-in-None-clause-parts : goal.returns-in-None-clause-parts
returns-in-None-clause-parts c = parts_one _ _ (λ k lt is. c.in-None.ensures k (omega arith) lt (eq-eqb _ _ is))
