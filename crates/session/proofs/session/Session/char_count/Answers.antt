use Rattle.std.proofs.Common.{sym, ◌∙◌}
use Rattle.session.proofs.BorderLemmas.{length-text}
use Rattle.session.proofs.session.Session.char_count.Goals as goal

pub returns : goal.returns
returns g c = rw (← c.self.view_is) (c.total_chars.ensures ∙ sym (length-text (g.S.ParagraphStore.items c.self.inside.store)))
