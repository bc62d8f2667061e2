use Rattle.std.proofs.Common.{length, inl, inr, arith}
use Rattle.std.proofs.lemmas.Bool.{cases_lt}
use Rattle.std.proofs.lemmas.Bool.Decides.{nat_tests}
use Rattle.std.proofs.lemmas.List.{get_or_past}
use Rattle.lines.proofs.showing.are_zero.Goals as goal

pub returns : goal.returns
returns c is k = elim (cases_lt k (length c.args.levels.now)) [
  | inl within ↦ grind (arith, nat_tests, is, c.loop-level.invariant k (omega (arith, within, c.loop-level-test.false)))
  | inr past ↦ get_or_past c.args.levels.now k 0 past
]
