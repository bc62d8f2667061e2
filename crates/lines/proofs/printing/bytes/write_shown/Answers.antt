use Rattle.std.proofs.Common.{codes, sym}
use Rattle.lines.specs.Writing.{StoppedIn}
use Rattle.lines.proofs.WriteLemmas.{stopped-before, stopped-after, same_fault}
use Rattle.lines.proofs.printing.bytes.write_shown.Goals as goal

-- the sink failed before the newline was written
pub returns-in_err-shown-clause-err : goal.returns-in_err-shown-clause-err
returns-in_err-shown-clause-err g c =
    let stopped = stopped-before (codes "\n") (stopped-after c.in_ok-padded.ensures.ok c.in_err-shown.ensures.err) in
    same_fault _ _ (StoppedIn _ c.args.before _ _) c.from_residual-in_err-shown.ensures.1 (rw (c.if-print.false, sym c.padding_len.ensures) stopped)
