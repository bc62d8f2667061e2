use Rattle.std.proofs.Common.{◌≡◌, ℕ, ◌<◌, List, length, get_or, map, take, encode_utf8, encode_utf8_all, slice_index, sym, ◌∙◌, arith}
use Rattle.std.proofs.lemmas.List.{get_or-map, get_or_default, length-map}
use Rattle.ucd.specs.Within.{AreWithin}
use Rattle.stream.proofs.EncodingLemmas.{encoded-more}
use Rattle.lines.proofs.WriteLemmas.{part-more}
use Rattle.lines.proofs.printing.bytes.encode_places.Goals as goal

-- the character at the k-th place is item k of the list of characters at all places
module _ (text places : List ℕ) (k : ℕ) (within : k < length places) where
  inside : k < length (map (slice_index text) places)
  inside = rw (length-map places (slice_index text)) within

  read : (c : ℕ) → AreWithin (length text) places → c ≡ get_or text (slice_index places k) c → c ≡ get_or (map (slice_index text) places) k c
  read c are_within c_is =
      c_is ∙ get_or_default text (slice_index places k) c 0 (are_within k within) ∙ sym (get_or-map (slice_index text) places k 0 c within)

-- encoding one more character preserves the loop invariant
pub loop-next-preserved : goal.loop-next-preserved
loop-next-preserved c =
    let text = c.args.text.now in
    let places = c.args.places.now in
    let next = c.loop-next.next in
    let chars = map (slice_index text) places in
    let now = c.loop-next.invariant in
    let more = encoded-more chars next _ (inside text places next c.loop-next-test.true) (read text places next c.loop-next-test.true _ c.requires.within c.index-text-place.is) in
    record {
      above = omega (arith, now.above);
      within = omega (arith, c.loop-next-test.true);
      len = omega (arith, c.encode_at-len.ensures.within, c.if-len-buffer.true, c.encode_at-len.auto.buffer);
      few = omega (arith, now.above, now.few, c.encode_at-len.ensures.within);
      bytes_are = part-more (encode_utf8_all (take c.args.from chars)) (take c.loop-next.len c.loop-next.buffer) (encode_utf8 c.index-text-place.result)
          c.encode_at-len.ensures.bytes now.bytes_are ∙ sym more;
    }

-- at least one character fits in the buffer
pub returns-else-len-buffer-clause-next : goal.returns-else-len-buffer-clause-next
returns-else-len-buffer-clause-next c =
    let now = c.loop-next.invariant in
    (omega (arith, now.above, now.few, c.if-len-buffer.false, c.requires.some.1, c.loop-next.auto.buffer), omega (arith, c.loop-next-test.true))
