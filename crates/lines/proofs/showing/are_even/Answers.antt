use Rattle.std.proofs.Common.{◌≡◌, ◌≤◌, ◌%◌, length, get_or, ap, inl, inr, arith}
use Rattle.std.proofs.lemmas.Bool.{cases_lt, eqb-true, ne_eqb}
use Rattle.std.proofs.lemmas.List.{get_or_past}
use Rattle.reorder.specs.Order.{is_odd}
use Rattle.lines.proofs.showing.are_even.Goals as goal

pub returns : goal.returns
returns c is k = elim (cases_lt k (length c.args.levels.now)) [
  | inl within ↦
      let none : c.loop-level.odd ≡ 0 = eqb-true c.loop-level.odd 0 is in
      let most : get_or c.args.levels.now k 0 % 2 ≤ c.loop-level.odd = c.loop-level.invariant k (omega (arith, within, c.loop-level-test.false)) in
      ne_eqb (get_or c.args.levels.now k 0 % 2) 1 (λ e. omega (arith, none, most, e))
  | inr past ↦ ap is_odd (get_or_past c.args.levels.now k 0 past)
]
