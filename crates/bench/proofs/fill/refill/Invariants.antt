use Rattle.lines.specs.Engine.{rules_of}
use Rattle.lines.specs.Layouts.{IsLaidOut}
use Rattle.bench.proofs.fill.refill.Given as goal

abbrev pub invariant-loop : goal.invariant-loop
invariant-loop l = IsLaidOut (rules_of l.engine) l.laid
