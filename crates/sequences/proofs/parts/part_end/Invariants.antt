use Rattle.std.proofs.Common.{◌≡◌, ◌==◌, ◌+◌, drop}
use Rattle.std.specs.List.{position_or_len}
use Rattle.sequences.proofs.parts.part_end.Given as goal

abbrev pub invariant-loop-k : goal.invariant-loop-k
invariant-loop-k l = position_or_len (λ c. c == l.separator) l.text ≡ l.k + position_or_len (λ c. c == l.separator) (drop l.k l.text)
