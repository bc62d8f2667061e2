use Rattle.std.proofs.Common.{◌≡◌, ◌+◌, ◌*◌, ◌++◌, ◌≤◌, codes, take}
use Rattle.std.specs.Fmt.{decimal}
use Rattle.std.specs.List.{flat_map}
use Rattle.arrayvec.specs.ArrayVec.{array_vec_len}
use Rattle.tool.proofs.answers.numbers_answer.Given as goal

-- the reply has `=` and the numbers so far, each after a space
abbrev pub invariant-loop-number : goal.invariant-loop-number
invariant-loop-number l = record {
  items : l.answer.items ≡ codes "=" ++ flat_map (λ n. codes " " ++ decimal n) (take l.number-index l.numbers);
  few : array_vec_len l.answer ≤ 1 + 21 * l.number-index;
}
