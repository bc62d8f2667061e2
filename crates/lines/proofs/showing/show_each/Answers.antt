use Rattle.std.proofs.Common.{length, ap, arith}
use Rattle.lines.proofs.ShowLemmas.{show_more}
use Rattle.lines.proofs.showing.show_each.Goals as goal

pub loop-k-preserved : goal.loop-k-preserved
loop-k-preserved c =
    show_more _ _ _ _ _ _ _ _ _ _ _ _ _ c.requires.starts (omega (arith, c.loop-k-test.true, ap length c.starts-starts.ensures)) c.line_at-line.ensures c.loop-k.invariant c.show_line.ensures (omega arith) (omega arith) (omega arith) (omega arith)

pub returns-clause-shown : goal.returns-clause-shown
returns-clause-shown c = λ j below. c.loop-k.invariant.so_far j (omega (arith, below, c.loop-k-test.false, ap length c.starts-starts.ensures))
