use Rattle.std.proofs.Common.{◌≡◌, ◌+◌, ◌-◌, length, Some, sym, ap, ◌∙◌, arith}
use Rattle.session.specs.Kept.{text_of}
use Rattle.session.specs.Reading.{utf8_part}
use Rattle.session.specs.declared.offsets.Encoding.TheVariants.{Utf8}
use Rattle.session.proofs.BorderLemmas.{length-text}
use Rattle.session.proofs.OffsetLemmas.{length-part, offset_is, offset_there}
use Rattle.session.proofs.ReadingLemmas.{len_past, len_within}
use Rattle.session.proofs.reading.utf8_len.Goals as goal
use Rattle.session.proofs.reading.utf8_len.Goals.{then-pos-len-via-then-pos-len, then-pos-len-via-else-pos-len+then-count-len}

pub returns-then-pos-len : goal.returns-then-pos-len
returns-then-pos-len g c =
    let kept = g.S.ParagraphStore.items c.args.store.now in
    let size : c.total_chars-len.result ≡ length (text_of kept) = c.total_chars-len.ensures ∙ sym (length-text kept) in
    elim c.then-pos-len.branch [
      | then-pos-len-via-then-pos-len w ↦ sym (len_past kept c.args.pos c.args.count (omega (arith, size, w.if-pos-len.true)))
      | then-pos-len-via-else-pos-len+then-count-len w ↦ sym (len_past kept c.args.pos c.args.count (omega (arith, size, w.if-pos-len.false, w.if-count-len.true)))
    ]

pub unreachable-requires : goal.unreachable-requires
unreachable-requires g c =
    let kept = g.S.ParagraphStore.items c.args.store.now in
    let size : c.total_chars-len.result ≡ length (text_of kept) = c.total_chars-len.ensures ∙ sym (length-text kept) in
    offset_there Utf8 (text_of kept) c.args.pos (omega (arith, size)) c.in_default.ensures

pub unreachable-requires-in_default-offset_of : goal.unreachable-requires-in_default-offset_of
unreachable-requires-in_default-offset_of g c =
    let kept = g.S.ParagraphStore.items c.args.store.now in
    let size : c.total_chars-len.result ≡ length (text_of kept) = c.total_chars-len.ensures ∙ sym (length-text kept) in
    offset_there Utf8 (text_of kept) (c.args.pos + c.args.count) (omega (arith, size)) c.in_default-offset_of.ensures

pub overflow_sub-result : goal.overflow_sub-result
overflow_sub-result g c =
    let kept = g.S.ParagraphStore.items c.args.store.now in
    let size : c.total_chars-len.result ≡ length (text_of kept) = c.total_chars-len.ensures ∙ sym (length-text kept) in
    let start = offset_is Utf8 (text_of kept) c.args.pos c.in-Some.start (omega (arith, size)) c.in-Some.ensures in
    let end = offset_is Utf8 (text_of kept) (c.args.pos + c.args.count) c.in-Some-offset_of.end (omega (arith, size)) c.in-Some-offset_of.ensures in
    omega (arith, start, end, length-part kept c.args.pos c.args.count)

pub returns : goal.returns
returns g c =
    let kept = g.S.ParagraphStore.items c.args.store.now in
    let size : c.total_chars-len.result ≡ length (text_of kept) = c.total_chars-len.ensures ∙ sym (length-text kept) in
    let start = offset_is Utf8 (text_of kept) c.args.pos c.in-Some.start (omega (arith, size)) c.in-Some.ensures in
    let end = offset_is Utf8 (text_of kept) (c.args.pos + c.args.count) c.in-Some-offset_of.end (omega (arith, size)) c.in-Some-offset_of.ensures in
    let number : c.in-Some-offset_of.end - c.in-Some.start ≡ length (utf8_part kept c.args.pos c.args.count) =
    omega (arith, start, end, length-part kept c.args.pos c.args.count) in
    ap Some number ∙ sym (len_within kept c.args.pos c.args.count (omega (arith, size)))
