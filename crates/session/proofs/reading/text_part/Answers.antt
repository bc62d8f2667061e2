use Rattle.std.proofs.Common.{◌≡◌, length, drop, take, sym, ap, Some, ◌∙◌, arith}
use Rattle.std.specs.List.{slice_range}
use Rattle.std.proofs.lemmas.List.{length-drop, length-take}
use Rattle.lines.specs.Layouts.{Layout}
use Rattle.session.specs.Reading.{paragraph_end}
use Rattle.session.specs.Kept.{text_of}
use Rattle.session.proofs.BorderLemmas.{length-text, chars_of, found_some}
use Rattle.session.proofs.PlaceLemmas.{char_read}
use Rattle.session.proofs.ReadingLemmas.{part_past, part_within, part_read}
use Rattle.session.proofs.reading.text_part.Goals as goal
use Rattle.session.proofs.reading.text_part.Goals.{then-pos-len-via-then-pos-len, then-pos-len-via-else-pos-len+then-count-len}

pub returns-then-pos-len-clause-part : goal.returns-then-pos-len-clause-part
returns-then-pos-len-clause-part g c =
    let kept = g.S.ParagraphStore.items c.args.store.now in
    let size : c.total_chars-len.result ≡ length (text_of kept) = c.total_chars-len.ensures ∙ sym (length-text kept) in
    elim c.then-pos-len.branch [
      | then-pos-len-via-then-pos-len w ↦ sym (part_past kept c.args.pos c.args.count (omega (arith, size, w.if-pos-len.true)))
      | then-pos-len-via-else-pos-len+then-count-len w ↦ sym (part_past kept c.args.pos c.args.count (omega (arith, size, w.if-pos-len.false, w.if-count-len.true)))
    ]

pub returns-then-count-eq0-clause-part : goal.returns-then-count-eq0-clause-part
returns-then-count-eq0-clause-part g c =
    let kept = g.S.ParagraphStore.items c.args.store.now in
    let size : c.total_chars-len.result ≡ length (text_of kept) = c.total_chars-len.ensures ∙ sym (length-text kept) in
    sym (part_within kept c.args.pos c.args.count (omega (arith, size, c.if-pos-len.false, c.if-count-len.false))
    ∙ ap (λ n. Some (take n (slice_range (text_of kept) c.args.pos (paragraph_end kept c.args.pos))))
    c.if-count-eq0.true)

pub unreachable-requires : goal.unreachable-requires
unreachable-requires g c = found_some chars_of (g.S.ParagraphStore.items c.args.store.now) c.args.pos c.find_char-found.result c.find_char-found.ensures.found c.in-None.ensures

pub returns-clause-part : goal.returns-clause-part
returns-clause-part g c =
    let kept = g.S.ParagraphStore.items c.args.store.now in
    let size : c.total_chars-len.result ≡ length (text_of kept) = c.total_chars-len.ensures ∙ sym (length-text kept) in
    let read = part_read kept c.args.pos c.find_char-found.result c.find_char-found.ensures.found c.in-Some.kept.now c.in-Some.ensures c.requires in
    let text = c.text.ensures ∙ ap (λ (l : Layout). l.text) c.laid.ensures in
    ap Some (c.front.ensures ∙ ap (take c.args.count) (c.back.ensures ∙ ap (drop c.find_char-found.result.rest) text ∙ read))
    ∙ sym (part_within kept c.args.pos c.args.count (omega (arith, size, c.if-pos-len.false, c.if-count-len.false)))

pub returns-clause-some : goal.returns-clause-some
returns-clause-some g c = λ some.
    let kept = g.S.ParagraphStore.items c.args.store.now in
    let read = char_read kept c.args.pos c.find_char-found.result c.find_char-found.ensures.found c.in-Some.kept.now c.in-Some.ensures in
    let text : c.text.result.now ≡ c.in-Some.kept.now.text = c.text.ensures ∙ ap (λ (l : Layout). l.text) c.laid.ensures in
    let rest : c.front.result.now ≡ take c.args.count (drop c.find_char-found.result.rest c.in-Some.kept.now.text) =
    c.front.ensures ∙ ap (take c.args.count) (c.back.ensures ∙ ap (drop c.find_char-found.result.rest) text) in
    omega (
      arith,
      some,
      read.0,
      ap length rest,
      length-take c.args.count
          (drop c.find_char-found.result.rest c.in-Some.kept.now.text),
      length-drop c.find_char-found.result.rest
          c.in-Some.kept.now.text,
    )
