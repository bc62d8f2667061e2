use Rattle.std.proofs.Common.{◌≡◌, ◌-◌, ap, ap₂, sym, Some, length, ◌∙◌, arith}
use Rattle.lines.specs.Engine.{rules_of}
use Rattle.session.specs.Kept.{text_of}
use Rattle.session.specs.Places.{place_in}
use Rattle.session.specs.declared.places.Place.{Place}
use Rattle.session.proofs.BorderLemmas.{length-lines, length-text}
use Rattle.session.proofs.PlaceLemmas.{open_some, place_past, place_inside, place_closed, place_open, place_after}
use Rattle.session.proofs.places.place_of.Goals as goal

pub returns-then-pos-len : goal.returns-then-pos-len
returns-then-pos-len g c =
    place_past (rules_of c.args.engine.now) (g.S.ParagraphStore.items c.args.store.now) c.args.pos
    (omega (
      arith,
      c.if-pos-len.true,
      c.total_chars-len.ensures,
      length-text
          (g.S.ParagraphStore.items c.args.store.now),
    ))

pub place_in-requires-clause-within : goal.place_in-requires-clause-within
place_in-requires-clause-within g c = omega (arith, c.if-pos-len-2.true, c.total_chars-len.ensures, length-text (g.S.ParagraphStore.items c.args.store.now))

pub returns-then-pos-len-2 : goal.returns-then-pos-len-2
returns-then-pos-len-2 g c =
    ap Some c.place_in.ensures
    ∙ place_inside (rules_of c.args.engine.now) (g.S.ParagraphStore.items c.args.store.now) c.args.pos
    (omega (
      arith,
      c.if-pos-len-2.true,
      c.total_chars-len.ensures,
      length-text
          (g.S.ParagraphStore.items c.args.store.now),
    ))

pub returns-then-is_closed : goal.returns-then-is_closed
returns-then-is_closed g c =
    let kept = g.S.ParagraphStore.items c.args.store.now in
    let at_end : c.args.pos ≡ length (text_of kept) = omega (arith, c.if-pos-len.false, c.if-pos-len-2.false, c.total_chars-len.ensures, length-text kept) in
    let lines = c.total_lines.ensures ∙ sym (length-lines kept) in
    ap₂ (λ n m. let here : Place = record { paragraph = n; line = m; offset = 0 } in Some here) c.count.ensures lines
    ∙ sym (place_closed (rules_of c.args.engine.now) kept c.args.pos at_end (sym c.is_closed.ensures ∙ c.if-is_closed.true))

pub overflow_sub-len : goal.overflow_sub-len
overflow_sub-len g c =
    let kept = g.S.ParagraphStore.items c.args.store.now in
    omega (arith, c.total_chars-len.ensures, length-text kept, open_some (rules_of c.args.engine.now) (text_of kept) (sym c.is_closed.ensures ∙ c.if-is_closed.false))

pub place_in-last-requires-clause-within : goal.place_in-last-requires-clause-within
place_in-last-requires-clause-within g c =
    let kept = g.S.ParagraphStore.items c.args.store.now in
    omega (arith, c.total_chars-len.ensures, length-text kept, open_some (rules_of c.args.engine.now) (text_of kept) (sym c.is_closed.ensures ∙ c.if-is_closed.false))

pub returns : goal.returns
returns g c =
    let kept = g.S.ParagraphStore.items c.args.store.now in
    let some = open_some (rules_of c.args.engine.now) (text_of kept) (sym c.is_closed.ensures ∙ c.if-is_closed.false) in
    let at_end : c.args.pos ≡ length (text_of kept) = omega (arith, c.if-pos-len.false, c.if-pos-len-2.false, c.total_chars-len.ensures, length-text kept) in
    let last = place_after kept (c.total_chars-len.result - 1) c.requires (omega (arith, some, c.total_chars-len.ensures, length-text kept)) c.place_in-last.result c.place_in-last.ensures in
    ap Some last ∙ ap (λ n. Some (place_in kept n)) (sym at_end)
    ∙ sym (place_open (rules_of c.args.engine.now) kept c.args.pos at_end (sym c.is_closed.ensures ∙ c.if-is_closed.false))
