use Rattle.std.proofs.Common.{◌∙◌, ◌≤◌, ◌++◌, length, drop, encode_utf8_all, ap, sym, arith}
use Rattle.lines.specs.Bytes.{expanded, ordered_chars}
use Rattle.lines.specs.Visual.{Visual}
use Rattle.lines.specs.Writing.{StoppedIn}
use Rattle.lines.proofs.CellLemmas.{printed-all, printed-more, printed-rest}
use Rattle.lines.proofs.WriteLemmas.{passed-append, same_fault, stopped-after, stopped-before}
use Rattle.lines.proofs.printing.bytes.write_expanded.Goals as goal

pub loop-at-preserved : goal.loop-at-preserved
loop-at-preserved g c =
    let line = c.args.line.now in
    let chars = ordered_chars c.args.print.now line in
    let end = c.cells_end-end.result in
    let vtol = ap (λ (v : Visual). length v.vtol) c.line.view_is in
    let within : end ≤ length chars = omega (arith, c.cells_end-end.ensures.within.1, c.min-len.ensures, c.ordered_len.ensures) in
    let also : end ≤ length line.vtol = omega (arith, c.cells_end-end.ensures.within.1, c.min-len.ensures, vtol) in
    record {
      within = c.cells_end-end.ensures.within.1;
      passed = rw (printed-more line chars c.loop-at.at end (omega (arith, c.cells_end-end.ensures.within.0)) within also)
          (passed-append c.loop-at.invariant.passed c.in_ok-written.ensures.ok);
      counted = c.in_ok-written.ensures.counted;
    }

pub returns-in_err-written-clause-err : goal.returns-in_err-written-clause-err
returns-in_err-written-clause-err g c =
    let line = c.args.line.now in
    let chars = ordered_chars c.args.print.now line in
    let end = c.cells_end-end.result in
    let vtol = ap (λ (v : Visual). length v.vtol) c.line.view_is in
    let within : end ≤ length chars = omega (arith, c.cells_end-end.ensures.within.1, c.min-len.ensures, c.ordered_len.ensures) in
    let also : end ≤ length line.vtol = omega (arith, c.cells_end-end.ensures.within.1, c.min-len.ensures, vtol) in
    let rest = encode_utf8_all (expanded line (drop end chars) (drop end line.vtol)) in
    let bytes = printed-rest line chars end within also
    ∙ ap (λ xs. xs ++ rest) (printed-more line chars c.loop-at.at end (omega (arith, c.cells_end-end.ensures.within.0)) within also) in
    same_fault _ _ (StoppedIn _ c.args.before _ _) c.from_residual.ensures.1
    (rw bytes (stopped-before rest (stopped-after c.loop-at.invariant.passed c.in_err-written.ensures.err)))

pub returns-clause-ok : goal.returns-clause-ok
returns-clause-ok g c =
    let line = c.args.line.now in
    let chars = ordered_chars c.args.print.now line in
    let vtol = ap (λ (v : Visual). length v.vtol) c.line.view_is in
    let all = printed-all line chars c.loop-at.at (omega (arith, c.loop-at-test.false, c.min-len.ensures, c.ordered_len.ensures, vtol)) in
    rw (sym all) c.loop-at.invariant.passed
