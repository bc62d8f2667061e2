use Rattle.std.proofs.Common.{arith, length}
use Rattle.terminal.proofs.NumberLemmas.{step_put, step_skip}
use Rattle.terminal.proofs.numbers.put_numbers.Goals as goal
use Rattle.terminal.proofs.numbers.put_numbers.Goals.{then-start-end, else-start-end}

pub loop-left-preserved : goal.loop-left-preserved
loop-left-preserved c =
    let text = c.args.text.now in
    let run = c.index.result.now in
    let at = c.loop-left.invariant in
    elim c.if-start-end.branch [
      | then-start-end w ↦ rw (w.numbers-is, w.end-is)
          (step_put text.links.items text.runs.items (length text.characters.items) c.loop-left.left c.loop-left.end run c.loop-left.numbers w.put_number.new.numbers at
          (omega arith) c.index.ensures w.if-start-end.true (omega arith) w.put_number.ensures.inside w.put_number.ensures.before w.put_number.ensures.after)
      | else-start-end w ↦ rw (w.numbers-is, w.end-is)
          (step_skip text.links.items text.runs.items (length text.characters.items) c.loop-left.left c.loop-left.end run c.loop-left.numbers at (omega arith) c.index.ensures
          w.if-start-end.false)
    ]
