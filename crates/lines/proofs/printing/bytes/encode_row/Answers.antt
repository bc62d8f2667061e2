use Rattle.std.proofs.Common.{◌≡◌, ℕ, ◌+◌, ◌<◌, ◌++◌, ◌==◌, List, [], ◌∷◌, length, get_or, map, take, if◌then◌else◌, sym, ap, ◌∙◌, arith}
use Rattle.std.proofs.lemmas.List.{get_or-map, length-map}
use Rattle.std.specs.List.{join_with_byte}
use Rattle.lines.proofs.WriteLemmas.{joined-more, part-more}
use Rattle.lines.proofs.printing.bytes.encode_row.Goals as goal

-- appending a number to a row appends its text, after a space unless the number is the first
more : {I : Type 0} (text : I → List ℕ) (numbers : List I) (k : ℕ) (n : I) → k < length numbers → n ≡ get_or numbers k n
    → join_with_byte 32 (take (k + 1) (map text numbers)) ≡ join_with_byte 32 (take k (map text numbers)) ++ ((if k == 0 then [] else 32 ∷ []) ++ text n)
more text numbers k n within is =
    joined-more (map text numbers) k (text n) (rw (length-map numbers text) within) (ap text is ∙ sym (get_or-map text numbers k n [] within))

pub loop-next-preserved : goal.loop-next-preserved
loop-next-preserved g c =
    let text = g.I.Integer.text in
    let row = map text c.args.numbers.now in
    let next = c.loop-next.next in
    let now = c.loop-next.invariant in
    record {
      above = omega (arith, now.above);
      within = omega (arith, c.loop-next-test.true);
      len = omega (arith, c.encode_number-len.ensures.within, c.if-len-buffer.true, c.encode_number-len.auto.buffer);
      few = omega (arith, now.above, now.few, c.encode_number-len.ensures.within);
      bytes_are = part-more (join_with_byte 32 (take c.args.from row)) (take c.loop-next.len c.loop-next.buffer)
          ((if next == 0 then [] else 32 ∷ []) ++ text c.index-numbers-next.result) c.encode_number-len.ensures.bytes now.bytes_are
          ∙ sym (more text c.args.numbers.now next c.index-numbers-next.result c.loop-next-test.true c.index-numbers-next.is);
    }

-- at least one number fits in the buffer
pub returns-else-len-buffer-clause-next : goal.returns-else-len-buffer-clause-next
returns-else-len-buffer-clause-next g c =
    let now = c.loop-next.invariant in
    (omega (arith, now.above, now.few, c.if-len-buffer.false, c.requires.1, c.loop-next.auto.buffer), omega (arith, c.loop-next-test.true))
