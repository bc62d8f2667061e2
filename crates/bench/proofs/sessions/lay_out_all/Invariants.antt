use Rattle.std.specs.List.{All}
use Rattle.lines.specs.Engine.{rules_of, SameRules}
use Rattle.lines.specs.Layouts.{IsLaidOut}
use Rattle.bench.proofs.sessions.lay_out_all.Given as goal

abbrev pub invariant-loop : goal.invariant-loop
invariant-loop l =
    record {
      laid : All (IsLaidOut (rules_of l.fn.engine)) l.all.items;
      rules : SameRules l.fn.engine l.engine;
    }
