use Rattle.std.proofs.Common.{◌≡◌, ◌*◌, ◌≤◌, take}
use Rattle.arrayvec.specs.ArrayVec.{array_vec_len}
use Rattle.tool.specs.Queries.{listed}
use Rattle.tool.proofs.answers.listed.Given as goal

-- the reply has the numbers so far, each after a space
abbrev pub invariant-loop-number : goal.invariant-loop-number
invariant-loop-number l = record {
  items : l.answer.items ≡ listed (take l.number-index l.numbers);
  few : array_vec_len l.answer ≤ 21 * l.number-index;
}
