use Rattle.std.proofs.Common.{◌≡◌, ◌+◌, ◌-◌, ap, ◌∙◌, arith}
use Rattle.std.specs.List.{slice_get}
use Rattle.session.proofs.BorderLemmas.{to_within, chars_next, lines_next, found_some, chars_of, IsBackBorder-found, IsBackBorder-end}
use Rattle.session.proofs.borders.find_last_touched.Goals as goal

pub returns-then-to-chars-clause-end : goal.returns-then-to-chars-clause-end
returns-then-to-chars-clause-end g c =
    IsBackBorder-end (g.S.ParagraphStore.items c.args.store.now) c.args.to c.count-count.result c.total_chars-chars.result c.total_lines-lines.result
    c.count-count.ensures c.total_chars-chars.ensures c.total_lines-lines.ensures c.if-to-chars.true

pub find_char-found-requires : goal.find_char-found-requires
find_char-found-requires g c = to_within (g.S.ParagraphStore.items c.args.store.now) c.args.to c.total_chars-chars.result c.requires c.total_chars-chars.ensures c.if-to-chars.false

pub overflow_add-result-in-Some : goal.overflow_add-result-in-Some
overflow_add-result-in-Some g c =
    let most = chars_next (g.S.ParagraphStore.items c.args.store.now) c.args.to c.total_chars-chars.result
    c.find_char-found.result c.in-Some.kept.now c.in-Some.ensures c.find_char-found.ensures.found
    c.total_chars-chars.ensures in
    omega (arith, most, c.chars.ensures, c.total_chars-chars.type_inv)

pub overflow_add-result-in-Some-2 : goal.overflow_add-result-in-Some-2
overflow_add-result-in-Some-2 g c =
    let most = lines_next (g.S.ParagraphStore.items c.args.store.now) c.args.to c.total_lines-lines.result
    c.find_char-found.result c.in-Some.kept.now c.in-Some.ensures c.find_char-found.ensures.found
    c.total_lines-lines.ensures in
    omega (arith, most, c.lines.ensures, c.total_lines-lines.type_inv)

pub unreachable-requires : goal.unreachable-requires
unreachable-requires g c =
    found_some chars_of (g.S.ParagraphStore.items c.args.store.now) c.args.to c.find_char-found.result c.find_char-found.ensures.found c.in-None.ensures

pub returns-clause-end : goal.returns-clause-end
returns-clause-end g c =
    rw (c.chars.ensures, c.lines.ensures)
    (IsBackBorder-found (g.S.ParagraphStore.items c.args.store.now) c.args.to c.find_char-found.result c.in-Some.kept.now c.in-Some.ensures c.find_char-found.ensures.found)

pub returns-then-to-chars-clause-kept : goal.returns-then-to-chars-clause-kept
returns-then-to-chars-clause-kept g c = c.get.ensures ∙ ap (slice_get (g.S.ParagraphStore.items c.args.store.now)) c.saturating_sub.ensures

pub returns-clause-kept : goal.returns-clause-kept
returns-clause-kept g c =
    let at : c.find_char-found.result.index ≡ c.find_char-found.result.index + 1 - 1 = omega arith in
    c.in-Some.ensures ∙ ap (slice_get (g.S.ParagraphStore.items c.args.store.now)) at
