use Rattle.lines.specs.Engine.{SameRules}
use Rattle.bench.proofs.sessions.refill_all.Given as goal

abbrev pub invariant-loop-laid : goal.invariant-loop-laid
invariant-loop-laid l = SameRules l.fn.engine l.engine
