use Rattle.std.proofs.Common.{◌∙◌, arith}
use Rattle.ucd.proofs.RisingLemmas.{rising_rest, value_rest}
use Rattle.ucd.proofs.runs.Cursor.entries_from.Goals as goal

pub loop-first-preserved : goal.loop-first-preserved
loop-first-preserved g c =
    let is = c.in-Some.ensures.cases.0 in
    record {
      rising = rising_rest c.loop-first.left.now c.in-Some.first.now c.in-Some.later.now is c.loop-first.invariant.rising;
      values = λ k from. value_rest c.loop-first.left.now c.in-Some.first.now c.in-Some.later.now k is (omega arith) ∙ c.loop-first.invariant.values k from;
    }
