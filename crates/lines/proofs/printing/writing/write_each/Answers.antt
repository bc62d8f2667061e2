use Rattle.std.proofs.Common.{◌∙◌, length, ap, sym, arith}
use Rattle.lines.specs.Writing.{StoppedIn}
use Rattle.lines.proofs.WriteLemmas.{pieces-more, pieces-stopped, same_fault}
use Rattle.lines.proofs.WrittenLemmas.{piece_is, pieces_of, pieces_of_all, pieces_of_whole}
use Rattle.lines.proofs.printing.writing.write_each.Goals as goal

-- writing one more line preserves the loop invariant
pub loop-k-preserved : goal.loop-k-preserved
loop-k-preserved g c =
    let form = c.args.form.now in
    let text = c.args.text.now in
    let extents = c.args.extents.now in
    let next = piece_is form.width form.print.now text c.args.levels.now extents c.requires.shown c.loop-k.k c.line_at-slice.result (omega (arith, c.loop-k-test.true, ap length c.starts-starts.ensures)) c.line_at-slice.ensures c.requires.levels in
    record {
      within = omega (arith, c.loop-k-test.true, ap length c.starts-starts.ensures);
      passed = pieces-more (pieces_of form.width form.print.now text c.args.levels.now extents) c.loop-k.k next.0 next.1 c.loop-k.invariant.passed c.in_ok-written.ensures.ok;
      visual = record {
        levels = omega (arith, c.loop-k.invariant.visual.levels, c.write_line.ensures.visual.levels);
        maps = omega (arith, c.loop-k.invariant.visual.maps, c.write_line.ensures.visual.maps);
        chars = omega (arith, c.loop-k.invariant.visual.chars, c.write_line.ensures.visual.chars);
      };
      counted = c.in_ok-written.ensures.counted;
    }

pub returns-in_err-written-clause-err : goal.returns-in_err-written-clause-err
returns-in_err-written-clause-err g c =
    let form = c.args.form.now in
    let text = c.args.text.now in
    let extents = c.args.extents.now in
    let next = piece_is form.width form.print.now text c.args.levels.now extents c.requires.shown c.loop-k.k c.line_at-slice.result (omega (arith, c.loop-k-test.true, ap length c.starts-starts.ensures)) c.line_at-slice.ensures c.requires.levels in
    let stopped = pieces-stopped (pieces_of form.width form.print.now text c.args.levels.now extents) c.loop-k.k next.0 next.1 c.loop-k.invariant.passed c.in_err-written.ensures.err in
    same_fault _ _ (λ w. StoppedIn _ _ _ _ w) c.from_residual.ensures.1 (rw (sym (pieces_of_whole form.width form.print.now text c.args.levels.now extents)) stopped)

-- after the loop, all lines are written
pub returns-clause-ok : goal.returns-clause-ok
returns-clause-ok g c =
    let form = c.args.form.now in
    let all = pieces_of_all form.width form.print.now c.args.text.now c.args.levels.now c.args.extents.now c.requires.shown c.loop-k.k (omega (arith, c.loop-k-test.false, ap length c.starts-starts.ensures))
    ∙ pieces_of_whole form.width form.print.now c.args.text.now c.args.levels.now c.args.extents.now in
    rw (sym all) c.loop-k.invariant.passed
