use Rattle.std.proofs.Common.{ap, arith}
use Rattle.std.proofs.lemmas.List.Sums.{sum_by_more, sum_by_more_le}
use Rattle.session.proofs.BorderLemmas.{lines_of}
use Rattle.session.proofs.changed.line_count.Goals as goal

pub overflow_add-count : goal.overflow_add-count
overflow_add-count c =
    let most = sum_by_more_le lines_of c.args.new.now c.loop-i.i c.index-new-i.result (omega (arith, c.loop-i-test.true)) in
    omega (arith, most, c.loop-i.invariant, c.lines-count.ensures, ap lines_of c.index-new-i.is, c.requires)

pub loop-i-preserved : goal.loop-i-preserved
loop-i-preserved c =
    let more = sum_by_more lines_of c.args.new.now c.loop-i.i c.index-new-i.result (omega (arith, c.loop-i-test.true)) in
    omega (arith, more, c.loop-i.invariant, c.lines-count.ensures, ap lines_of c.index-new-i.is)
