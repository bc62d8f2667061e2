use Rattle.std.proofs.Common.{sym, ◌∙◌}
use Rattle.session.proofs.BorderLemmas.{length-lines}
use Rattle.session.proofs.session.Session.line_count.Goals as goal

pub returns : goal.returns
returns g c = rw (← c.self.view_is) (c.total_lines.ensures ∙ sym (length-lines (g.S.ParagraphStore.items c.self.inside.store)))
