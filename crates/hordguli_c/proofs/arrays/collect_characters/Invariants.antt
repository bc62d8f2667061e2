use Rattle.std.proofs.Common.{◌≡◌, take}
use Rattle.hordguli_c.proofs.arrays.collect_characters.Given as goal

abbrev pub invariant-loop-k : goal.invariant-loop-k
invariant-loop-k l = record {
  text : l.text.items ≡ take l.k l.numbers;
}
