use Rattle.device.specs.Device.{StoppedAt}
use Rattle.lines.proofs.WriteLemmas.{stopped-whole, same_fault}
use Rattle.lines.proofs.visual_line.VisualLine.write.Goals as goal

pub returns-in_err-write_after-clause-err : goal.returns-in_err-write_after-clause-err
returns-in_err-write_after-clause-err g c =
    same_fault _ _ (λ n. StoppedAt n _ _ _) c.from_residual.ensures.1 (stopped-whole c.in_err-write_after.ensures.err)

pub returns-clause-ok : goal.returns-clause-ok
returns-clause-ok g c = c.in_ok-write_after.ensures.ok.wrote
