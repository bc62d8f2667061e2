use Rattle.std.proofs.Common.{ap, length, get_or, ◌∙◌, arith}
use Rattle.std.proofs.lemmas.List.{get_or_default}
use Rattle.lines.specs.Layouts.{Layout}
use Rattle.session.proofs.BorderLemmas.{length-text, chars_of, found_some}
use Rattle.session.proofs.PlaceLemmas.{char_read}
use Rattle.session.proofs.places.char_at.Goals as goal

pub find_char-found-requires : goal.find_char-found-requires
find_char-found-requires g c = omega (arith, c.requires, length-text (g.S.ParagraphStore.items c.args.store.now))

pub bounds-text-rest : goal.bounds-text-rest
bounds-text-rest g c =
    let read = char_read (g.S.ParagraphStore.items c.args.store.now) c.args.pos c.find_char-found.result c.find_char-found.ensures.found c.in-Some.kept.now c.in-Some.ensures in
    omega (arith, read.0, ap length (c.text-text.ensures ∙ ap (λ (l : Layout). l.text) c.laid.ensures))

pub unreachable-requires : goal.unreachable-requires
unreachable-requires g c = found_some chars_of (g.S.ParagraphStore.items c.args.store.now) c.args.pos c.find_char-found.result c.find_char-found.ensures.found c.in-None.ensures

pub returns : goal.returns
returns g c =
    let read = char_read (g.S.ParagraphStore.items c.args.store.now) c.args.pos c.find_char-found.result c.find_char-found.ensures.found c.in-Some.kept.now c.in-Some.ensures in
    let text = c.text-text.ensures ∙ ap (λ (l : Layout). l.text) c.laid.ensures in
    c.index-text-rest.is ∙ get_or_default c.text-text.result.now c.find_char-found.result.rest c.index-text-rest.result 0 (omega (arith, read.0, ap length text))
    ∙ ap (λ cs. get_or cs c.find_char-found.result.rest 0) (c.text-text.ensures ∙ ap (λ (l : Layout). l.text) c.laid.ensures) ∙ read.1
