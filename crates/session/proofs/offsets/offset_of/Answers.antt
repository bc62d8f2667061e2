use Rattle.std.proofs.Common.{◌≡◌, Some, length, sym, ap, ◌∙◌, arith}
use Rattle.std.proofs.lemmas.List.{take_all}
use Rattle.session.specs.Kept.{text_of}
use Rattle.session.specs.Offsets.{length_in}
use Rattle.session.proofs.BorderLemmas.{chars_of, found_some, length-text}
use Rattle.session.proofs.OffsetLemmas.{front_within, length-units, offset_fits, offset_past, offset_read, offset_within}
use Rattle.session.proofs.offsets.offset_of.Goals as goal

pub returns-then-pos-len : goal.returns-then-pos-len
returns-then-pos-len g c =
    let kept = g.S.ParagraphStore.items c.args.store.now in
    sym (offset_past c.args.encoding (text_of kept) c.args.pos (omega (arith, c.total_chars-len.ensures, length-text kept, c.if-pos-len.true)))

pub returns-then-pos-len-2 : goal.returns-then-pos-len-2
returns-then-pos-len-2 g c =
    let kept = g.S.ParagraphStore.items c.args.store.now in
    let end : length (text_of kept) ≡ c.args.pos = omega (arith, c.total_chars-len.ensures, length-text kept, c.if-pos-len-2.true) in
    let whole = ap (length_in c.args.encoding) (take_all c.args.pos (text_of kept) (omega (arith, end))) in
    ap Some (c.total-total.ensures ∙ sym (length-units c.args.encoding kept) ∙ sym whole)
    ∙ sym (offset_within c.args.encoding (text_of kept) c.args.pos (omega (arith, end)))

pub length_to-requires : goal.length_to-requires
length_to-requires g c =
    let kept = g.S.ParagraphStore.items c.args.store.now in
    front_within c.args.encoding kept c.args.pos c.find_char-found.result c.find_char-found.ensures.found c.in-Some.kept.now c.in-Some.ensures c.find_char-found.ensures.counts

pub overflow_add-result : goal.overflow_add-result
overflow_add-result g c =
    let kept = g.S.ParagraphStore.items c.args.store.now in
    omega (
      arith,
      c.total-total.ensures,
      c.before-in-Some.ensures,
      c.length_to.ensures,
      offset_fits c.args.encoding kept c.args.pos c.find_char-found.result c.find_char-found.ensures.found c.in-Some.kept.now c.in-Some.ensures c.find_char-found.ensures.counts,
    )

pub unreachable-requires : goal.unreachable-requires
unreachable-requires g c = found_some chars_of (g.S.ParagraphStore.items c.args.store.now) c.args.pos c.find_char-found.result c.find_char-found.ensures.found c.in-None.ensures

pub returns : goal.returns
returns g c =
    let kept = g.S.ParagraphStore.items c.args.store.now in
    rw (c.before-in-Some.ensures, c.length_to.ensures)
    (sym (offset_read c.args.encoding kept c.args.pos c.find_char-found.result c.find_char-found.ensures.found c.in-Some.kept.now c.in-Some.ensures c.find_char-found.ensures.counts))
