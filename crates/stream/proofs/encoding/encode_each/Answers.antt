use Rattle.std.proofs.Common.{◌++◌, take, encode_utf8, encode_utf8_all, ap, sym, ◌∙◌, arith}
use Rattle.std.proofs.lemmas.List.{append_assoc}
use Rattle.stream.proofs.EncodingLemmas.{encoded-more}
use Rattle.stream.proofs.encoding.encode_each.Goals as goal

pub loop-c-preserved : goal.loop-c-preserved
loop-c-preserved c =
    let front = take c.args.at c.args.buffer.now in
    let k = c.loop-c.c-index in
    record {
      within = omega (arith, c.loop-c.invariant.within, c.encode_at-len.ensures.within);
      bytes_are = c.encode_at-len.ensures.bytes ∙ ap (λ bytes. bytes ++ encode_utf8 c.c-item.result) c.loop-c.invariant.bytes_are
          ∙ append_assoc front (encode_utf8_all (take k c.args.piece.now)) (encode_utf8 c.c-item.result)
          ∙ ap (λ bytes. front ++ bytes) (sym (encoded-more c.args.piece.now k c.c-item.result c.loop-c-test.true c.c-item.is));
    }
