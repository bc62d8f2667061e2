use Rattle.std.proofs.Common.{◌++◌, map, drop, encode_utf8_all, slice_index, ap, sym, ◌∙◌}
use Rattle.std.proofs.lemmas.List.{length-map, take_all}
use Rattle.lines.specs.Writing.{StoppedIn}
use Rattle.stream.proofs.EncodingLemmas.{encoded-rest}
use Rattle.lines.proofs.WriteLemmas.{passed-append, same_fault, stopped-before, stopped-after}
use Rattle.lines.proofs.printing.bytes.write_places.Goals as goal

-- writing one more buffer of characters preserves the loop invariant
pub loop-at-preserved : goal.loop-at-preserved
loop-at-preserved g c = record {
  within = c.encode_places-next.ensures.next.1;
  passed = rw (sym c.encode_places-next.ensures.bytes) (passed-append c.loop-at.invariant.passed c.in_ok-written.ensures.ok);
  counted = c.in_ok-written.ensures.counted;
}

pub returns-in_err-written-clause-err : goal.returns-in_err-written-clause-err
returns-in_err-written-clause-err g c =
    let chars = map (slice_index c.args.text.now) c.args.places.now in
    let rest = encode_utf8_all (drop c.encode_places-next.result.0 chars) in
    let bytes = encoded-rest chars c.encode_places-next.result.0 ∙ ap (λ front. front ++ rest) (sym c.encode_places-next.ensures.bytes) in
    same_fault _ _ (StoppedIn _ c.args.before _ _) c.from_residual.ensures.1
    (rw bytes (stopped-before rest (stopped-after c.loop-at.invariant.passed c.in_err-written.ensures.err)))

pub returns-clause-ok : goal.returns-clause-ok
returns-clause-ok g c =
    let chars = map (slice_index c.args.text.now) c.args.places.now in
    let whole = take_all c.loop-at.at chars (rw (length-map c.args.places.now (slice_index c.args.text.now)) c.loop-at-test.false) in
    rw (sym (ap encode_utf8_all whole)) c.loop-at.invariant.passed
