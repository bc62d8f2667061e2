use Rattle.std.proofs.Common.{◌≡◌, ◌≤◌, drop, fold}
use Rattle.sequences.specs.Parameters.{number, with_digit}
use Rattle.sequences.proofs.parts.number.Given as goal

abbrev pub invariant-loop-digit : goal.invariant-loop-digit
invariant-loop-digit l = record {
  small : l.n ≤ 256;
  rest : fold with_digit l.n (drop l.digit-index l.digits) ≡ number l.digits;
}
