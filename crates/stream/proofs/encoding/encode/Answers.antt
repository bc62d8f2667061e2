use Rattle.std.proofs.Common.{◌≡◌, ◌+◌, ◌-◌, ◌++◌, drop, length, take, encode_utf8_all, ap, sym, ◌∙◌, arith}
use Rattle.std.proofs.lemmas.List.{length-drop, length-take-le, take_all}
use Rattle.stream.proofs.EncodingLemmas.{encoded-part, encoded-rest}
use Rattle.stream.proofs.encoding.encode.Goals as goal

pub loop-k-preserved : goal.loop-k-preserved
loop-k-preserved c =
    let k = c.loop-k.k in
    record {
      read = c.loop-k-test.true;
      within = omega (arith, c.loop-k.invariant.within, c.encode_group-len.ensures.within, length-take-le (k + 16 - k) (drop k c.args.piece.now) (omega (arith, c.loop-k-test.true, length-drop k c.args.piece.now)));
      bytes_are = c.encode_group-len.ensures.bytes ∙ ap (λ bytes. bytes ++ encode_utf8_all (take (k + 16 - k) (drop k c.args.piece.now))) c.loop-k.invariant.bytes_are
          ∙ sym (encoded-part c.args.piece.now k (k + 16) (omega arith));
    }

pub returns-clause-bytes : goal.returns-clause-bytes
returns-clause-bytes c =
    let piece = c.args.piece.now in
    let k = c.loop-k.k in
    let rest : take (length piece - k) (drop k piece) ≡ drop k piece = take_all (length piece - k) (drop k piece) (omega (arith, length-drop k piece)) in
    c.encode_group.ensures.bytes ∙ ap (λ bytes. bytes ++ encode_utf8_all (take (length piece - k) (drop k piece))) c.loop-k.invariant.bytes_are
    ∙ ap (λ cs. encode_utf8_all (take k piece) ++ encode_utf8_all cs) rest ∙ sym (encoded-rest piece k)
