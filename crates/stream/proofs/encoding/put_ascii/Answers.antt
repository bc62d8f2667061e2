use Rattle.std.proofs.Common.{◌≡◌, ◌+◌, ◌-◌, ◌++◌, length, take, ap, sym, ◌∙◌, arith}
use Rattle.std.proofs.lemmas.List.{take_all}
use Rattle.std.proofs.lemmas.Slice.{take-put_mid}
use Rattle.stream.proofs.EncodingLemmas.{encoded-ascii}
use Rattle.stream.proofs.encoding.put_ascii.Goals as goal

pub returns-clause-bytes : goal.returns-clause-bytes
returns-clause-bytes c =
    let piece = c.args.piece.now in
    let w = c.loop-k.invariant in
    let same : c.loop-k.part ≡ piece =
    sym (take_all c.loop-k.k c.loop-k.part (omega (arith, w.size, c.loop-k-test.false))) ∙ w.bytes_are ∙ take_all c.loop-k.k piece (omega (arith, c.loop-k-test.false)) in
    take-put_mid c.args.at (c.args.at + length piece - c.args.at) c.args.buffer.now c.loop-k.part (c.args.at + length piece) (ap (λ n. c.args.at + n) (sym w.size))
    (omega (arith, c.requires.room))
    ∙ ap (λ bytes. take c.args.at c.args.buffer.now ++ bytes) (same ∙ sym (encoded-ascii piece c.requires.ascii))
