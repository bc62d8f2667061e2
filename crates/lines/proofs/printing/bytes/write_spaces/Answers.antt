use Rattle.std.proofs.Common.{◌≤◌, sym, arith}
use Rattle.lines.specs.Writing.{StoppedIn}
use Rattle.lines.proofs.WriteLemmas.{all_spaces, more_spaces, some_spaces, passed-append, stopped-before, stopped-after, same_fault}
use Rattle.lines.proofs.printing.bytes.write_spaces.Goals as goal

-- writing some more spaces preserves the loop invariant
pub loop-left-preserved : goal.loop-left-preserved
loop-left-preserved g c =
    let m = c.min-some.ensures in
    let some = c.min-some.result in
    let left = c.loop-left.left in
    let part : some ≤ left = omega (arith, m) in
    let few : some ≤ 64 = omega (arith, m) in
    record {
      within = omega (arith, c.loop-left.invariant.within);
      passed =
          rw (more_spaces c.args.count left some c.loop-left.invariant.within part, sym (some_spaces some few))
          (passed-append c.loop-left.invariant.passed c.in_ok-written.ensures.ok);
      counted = c.in_ok-written.ensures.counted;
    }

pub returns-in_err-written-clause-err : goal.returns-in_err-written-clause-err
returns-in_err-written-clause-err g c =
    let m = c.min-some.ensures in
    let some = c.min-some.result in
    let left = c.loop-left.left in
    let part : some ≤ left = omega (arith, m) in
    let few : some ≤ 64 = omega (arith, m) in
    let stopped = stopped-before _ (stopped-after c.loop-left.invariant.passed c.in_err-written.ensures.err) in
    same_fault _ _ (StoppedIn _ c.args.before _ _) c.from_residual.ensures.1
    (rw (all_spaces c.args.count left some c.loop-left.invariant.within part, sym (some_spaces some few)) stopped)
