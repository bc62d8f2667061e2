use Rattle.std.proofs.Common.{◌≡◌, ◌++◌, replicate}
use Rattle.terminal.proofs.line.push_spaces.Given as goal

abbrev pub invariant-loop : goal.invariant-loop
invariant-loop l = l.out.items ≡ l.fn.out.items ++ replicate l.counter 32
