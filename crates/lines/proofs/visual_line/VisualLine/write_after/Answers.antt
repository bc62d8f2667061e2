use Rattle.lines.specs.Writing.{StoppedIn}
use Rattle.lines.proofs.WriteLemmas.{last_passed, last_stopped, passed-append, stopped-before, stopped-after, same_fault}
use Rattle.lines.proofs.visual_line.VisualLine.write_after.Goals as goal

-- the sink failed after the visual line was written
pub returns-in_err-direction-clause-err : goal.returns-in_err-direction-clause-err
returns-in_err-direction-clause-err g c =
    let stopped = stopped-after c.in_ok-shown.ensures.ok c.in_err-direction.ensures.err in
    same_fault _ _ (λ n. StoppedIn _ c.args.before _ _ n) c.from_residual-in_err-direction.ensures.1
    (stopped-before _ (stopped-before _ (stopped-before _ stopped)))

-- the sink failed after the visual line and the base direction were written
pub returns-in_err-ltov-clause-err : goal.returns-in_err-ltov-clause-err
returns-in_err-ltov-clause-err g c =
    let before = passed-append c.in_ok-shown.ensures.ok c.in_ok-direction.ensures.ok in
    let stopped = stopped-after before c.in_err-ltov.ensures.err in
    same_fault _ _ (λ n. StoppedIn _ c.args.before _ _ n) c.from_residual-in_err-ltov.ensures.1 (stopped-before _ (stopped-before _ stopped))

pub returns-in_err-vtol-clause-err : goal.returns-in_err-vtol-clause-err
returns-in_err-vtol-clause-err g c =
    let before = passed-append (passed-append c.in_ok-shown.ensures.ok c.in_ok-direction.ensures.ok) c.in_ok-ltov.ensures.ok in
    let stopped = stopped-after before c.in_err-vtol.ensures.err in
    same_fault _ _ (λ n. StoppedIn _ c.args.before _ _ n) c.from_residual-in_err-vtol.ensures.1 (stopped-before _ stopped)

pub returns-clause-err : goal.returns-clause-err
returns-clause-err g c =
    let before = passed-append (passed-append c.in_ok-shown.ensures.ok c.in_ok-direction.ensures.ok) c.in_ok-ltov.ensures.ok in
    last_stopped (passed-append before c.in_ok-vtol.ensures.ok) _ _ c.write_levels.result c.write_levels.ensures.err

-- all parts of the visual line are written
pub returns-clause-ok : goal.returns-clause-ok
returns-clause-ok g c =
    let before = passed-append (passed-append c.in_ok-shown.ensures.ok c.in_ok-direction.ensures.ok) c.in_ok-ltov.ensures.ok in
    last_passed (passed-append before c.in_ok-vtol.ensures.ok) _ _ c.write_levels.result c.write_levels.ensures.ok
