use Rattle.std.specs.List.{All}
use Rattle.lines.specs.Engine.{rules_of}
use Rattle.lines.specs.Layouts.{IsLaidOut}
use Rattle.bench.proofs.sessions.fill.Given as goal

abbrev pub invariant-loop : goal.invariant-loop
invariant-loop l = All (IsLaidOut (rules_of l.engine)) l.all
