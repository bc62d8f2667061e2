use Rattle.std.proofs.Common.{◌≡◌, length, refl, sym, ◌∙◌, arith}
use Rattle.session.specs.Kept.{text_of}
use Rattle.session.proofs.BorderLemmas.{length-text}
use Rattle.session.proofs.PlaceLemmas.{lines_lined}
use Rattle.session.proofs.session.Session.write_text_after.Goals as goal
use Rattle.session.proofs.session.Session.write_text_after.Goals.{then-pos-chars-via-then-pos-chars, then-pos-chars-via-else-pos-chars+then-count-chars}

pub returns-then-pos-chars-clause-err : goal.returns-then-pos-chars-clause-err
returns-then-pos-chars-clause-err g c =
    let kept = g.S.ParagraphStore.items c.self.inside.store in
    let size : c.total_chars-chars.result ≡ length (text_of c.args.self.now.kept) = rw (← c.self.view_is) (c.total_chars-chars.ensures ∙ sym (length-text kept)) in
    elim c.then-pos-chars.branch [
      | then-pos-chars-via-then-pos-chars w ↦ (omega (arith, size, w.if-pos-chars.true), refl)
      | then-pos-chars-via-else-pos-chars+then-count-chars w ↦ (omega (arith, size, w.if-pos-chars.false, w.if-count-chars.true), refl)
    ]

pub write_text-requires-clause-lined : goal.write_text-requires-clause-lined
write_text-requires-clause-lined g c =
    lines_lined c.paragraphs_are_pieces.ensures c.lines_begin_in_order.ensures c.self.inside.engine c.self.inside.form.width c.self.inside.form.is_measured (g.S.ParagraphStore.items c.self.inside.store) c.self.invariant

pub write_text-requires-clause-within : goal.write_text-requires-clause-within
write_text-requires-clause-within g c =
    omega (arith, c.if-pos-chars.false, c.if-count-chars.false, c.total_chars-chars.ensures, length-text (g.S.ParagraphStore.items c.self.inside.store))

pub returns-in-Ok-clause-within : goal.returns-in-Ok-clause-within
returns-in-Ok-clause-within g c =
    rw (← c.self.view_is) (omega (arith, c.if-pos-chars.false, c.if-count-chars.false, c.total_chars-chars.ensures, length-text (g.S.ParagraphStore.items c.self.inside.store)))

pub returns-in-Err-clause-err : goal.returns-in-Err-clause-err
returns-in-Err-clause-err g c =
    rw (← c.self.view_is) (
      omega (arith, c.if-pos-chars.false, c.if-count-chars.false, c.total_chars-chars.ensures, length-text (g.S.ParagraphStore.items c.self.inside.store)),
      c.in-Err.ensures.err,
    )
