use Rattle.std.proofs.Common.{arith}
use Rattle.lines.proofs.ShowLemmas.{end_last, end_next, end_within}
use Rattle.lines.proofs.extents.end_of.Goals as goal

pub returns-then-k-starts : goal.returns-then-k-starts
returns-then-k-starts c =
    let e = end_next _ _ _ c.if-k-starts.true in
    record { end = e; within = λ are. let w = end_within _ _ _ are c.requires in (omega (arith, e, w.0), omega (arith, e, w.1)) }

pub returns-else-k-starts : goal.returns-else-k-starts
returns-else-k-starts c =
    let e = end_last _ _ _ c.if-k-starts.false in
    record { end = e; within = λ are. let w = end_within _ _ _ are c.requires in (omega (arith, e, w.0), omega (arith, e, w.1)) }
