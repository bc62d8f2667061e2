use Rattle.session.proofs.PlaceLemmas.{lines_lined}
use Rattle.session.proofs.session.Session.reasons.Goals as goal

pub reasons_of-requires : goal.reasons_of-requires
reasons_of-requires g c =
    lines_lined c.paragraphs_are_pieces.ensures c.lines_begin_in_order.ensures c.self.inside.engine c.self.inside.form.width c.self.inside.form.is_measured (g.S.ParagraphStore.items c.self.inside.store) c.self.invariant

pub returns-clause-ok : goal.returns-clause-ok
returns-clause-ok g c = rw (← c.self.view_is) c.reasons_of.ensures.ok
