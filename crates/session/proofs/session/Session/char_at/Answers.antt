use Rattle.std.proofs.Common.{sym, arith}
use Rattle.std.proofs.lemmas.List.{get_or_past}
use Rattle.session.specs.Kept.{text_of}
use Rattle.session.proofs.BorderLemmas.{length-text}
use Rattle.session.proofs.session.Session.char_at.Goals as goal

pub char_at-requires : goal.char_at-requires
char_at-requires g c = omega (arith, c.if-pos-total_chars.true, c.total_chars.ensures, length-text (g.S.ParagraphStore.items c.self.inside.store))

-- past the end of the text
pub returns-else-pos-total_chars : goal.returns-else-pos-total_chars
returns-else-pos-total_chars g c =
    let kept = g.S.ParagraphStore.items c.self.inside.store in
    rw (← c.self.view_is) (sym (get_or_past (text_of kept) c.args.pos 0 (omega (arith, c.if-pos-total_chars.false, c.total_chars.ensures, length-text kept))))
