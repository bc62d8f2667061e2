use Rattle.std.proofs.Common.{◌≡◌, ◌++◌, take, drop, encode_utf8_all, ap, sym, ◌∙◌, arith}
use Rattle.lines.specs.Writing.{StoppedIn}
use Rattle.stream.proofs.EncodingLemmas.{encoded-part, encoded-rest}
use Rattle.lines.proofs.WriteLemmas.{passed-append, same_fault, stopped-before, stopped-after}
use Rattle.lines.proofs.printing.bytes.write_chars.Goals as goal

-- writing one more buffer of characters preserves the loop invariant
pub loop-at-preserved : goal.loop-at-preserved
loop-at-preserved g c =
    let chars = c.args.chars.now in
    let at = c.loop-at.at in
    let «end» = c.min-end.result in
    record {
      within = omega (arith, c.min-end.ensures);
      passed = rw (encoded-part chars at «end» (omega (arith, c.min-end.ensures, c.loop-at-test.true)), ← c.encode-len.ensures.bytes)
          (passed-append c.loop-at.invariant.passed c.in_ok-written.ensures.ok);
      counted = c.in_ok-written.ensures.counted;
    }

pub returns-in_err-written-clause-err : goal.returns-in_err-written-clause-err
returns-in_err-written-clause-err g c =
    let chars = c.args.chars.now in
    let at = c.loop-at.at in
    let «end» = c.min-end.result in
    let bytes : encode_utf8_all chars ≡ (encode_utf8_all (take at chars) ++ take c.encode-len.result c.encode-len.new.buffer) ++ encode_utf8_all (drop «end» chars) =
    encoded-rest chars «end» ∙ ap (λ front. front ++ encode_utf8_all (drop «end» chars))
    (encoded-part chars at «end» (omega (arith, c.min-end.ensures, c.loop-at-test.true)) ∙ ap (λ part. encode_utf8_all (take at chars) ++ part) (sym c.encode-len.ensures.bytes)) in
    same_fault _ _ (StoppedIn _ c.args.before _ _) c.from_residual.ensures.1
    (rw bytes (stopped-before (encode_utf8_all (drop «end» chars)) (stopped-after c.loop-at.invariant.passed c.in_err-written.ensures.err)))
