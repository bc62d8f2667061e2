use Rattle.std.proofs.Common.{◌≡◌, ◌+◌, false, drop}
use Rattle.terminal.specs.Prefixes.{quote_from}
use Rattle.terminal.proofs.prefix.quote_len.Given as goal

abbrev pub invariant-loop-k : goal.invariant-loop-k
invariant-loop-k l = l.k + quote_from l.spaced (drop l.k l.text) ≡ quote_from false l.text
