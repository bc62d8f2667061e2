use Rattle.std.proofs.Common.{◌++◌, map, drop, ap, sym, ◌∙◌}
use Rattle.std.proofs.lemmas.List.{length-map, take_all}
use Rattle.std.specs.List.{concat, join_with_byte}
use Rattle.lines.specs.Writing.{StoppedIn}
use Rattle.lines.proofs.WriteLemmas.{joined-rest, passed-append, same_fault, spaced, stopped-before, stopped-after}
use Rattle.lines.proofs.printing.bytes.write_row.Goals as goal

-- writing one more buffer of numbers preserves the loop invariant
pub loop-at-preserved : goal.loop-at-preserved
loop-at-preserved g c = record {
  within = c.encode_row-next.ensures.next.1;
  passed = rw (sym c.encode_row-next.ensures.bytes) (passed-append c.loop-at.invariant.passed c.in_ok-written.ensures.ok);
  counted = c.in_ok-written.ensures.counted;
}

pub returns-in_err-written-clause-err : goal.returns-in_err-written-clause-err
returns-in_err-written-clause-err g c =
    let row = map g.I.Integer.text c.args.numbers.now in
    let rest = concat (drop c.encode_row-next.result.0 (spaced row)) in
    let bytes = joined-rest row c.encode_row-next.result.0 ∙ ap (λ front. front ++ rest) (sym c.encode_row-next.ensures.bytes) in
    same_fault _ _ (StoppedIn _ c.args.before _ _) c.from_residual.ensures.1
    (rw bytes (stopped-before rest (stopped-after c.loop-at.invariant.passed c.in_err-written.ensures.err)))

pub returns-clause-ok : goal.returns-clause-ok
returns-clause-ok g c =
    let row = map g.I.Integer.text c.args.numbers.now in
    let whole = take_all c.loop-at.at row (rw (length-map c.args.numbers.now g.I.Integer.text) c.loop-at-test.false) in
    rw (sym (ap (join_with_byte 32) whole)) c.loop-at.invariant.passed
