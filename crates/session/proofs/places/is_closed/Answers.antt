use Rattle.std.proofs.Common.{◌-◌, ap, sym, get_or, ◌∙◌, arith}
use Rattle.lines.specs.Engine.{rules_of}
use Rattle.session.specs.Kept.{text_of}
use Rattle.session.proofs.BorderLemmas.{length-text}
use Rattle.session.proofs.PlaceLemmas.{closed_by_last, closed_empty}
use Rattle.session.proofs.places.is_closed.Goals as goal

pub returns-then-len-eq0 : goal.returns-then-len-eq0
returns-then-len-eq0 g c =
    closed_empty (rules_of c.args.engine.now) (text_of (g.S.ParagraphStore.items c.args.store.now))
    (omega (
      arith,
      c.if-len-eq0.true,
      c.total_chars-len.ensures,
      length-text
          (g.S.ParagraphStore.items c.args.store.now),
    ))

pub char_at-last-requires : goal.char_at-last-requires
char_at-last-requires g c = omega (arith, c.if-len-eq0.false, c.total_chars-len.ensures, length-text (g.S.ParagraphStore.items c.args.store.now))

pub returns : goal.returns
returns g c =
    let text = text_of (g.S.ParagraphStore.items c.args.store.now) in
    let size = c.total_chars-len.ensures ∙ sym (length-text (g.S.ParagraphStore.items c.args.store.now)) in
    c.is_cut.ensures ∙ closed_by_last (rules_of c.args.engine.now) text c.char_at-last.result (λ e. c.if-len-eq0.false (size ∙ e)) (c.char_at-last.ensures ∙ ap (λ n. get_or text (n - 1) 0) size)
