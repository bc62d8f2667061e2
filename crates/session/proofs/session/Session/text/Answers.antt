use Rattle.std.proofs.Common.{ap, is_none, ◌∙◌}
use Rattle.session.proofs.PlaceLemmas.{lines_lined}
use Rattle.session.proofs.ReadingLemmas.{none_part, same_none}
use Rattle.session.proofs.session.Session.text.Goals as goal

pub text_part-requires : goal.text_part-requires
text_part-requires g c =
    lines_lined c.paragraphs_are_pieces.ensures c.lines_begin_in_order.ensures c.self.inside.engine c.self.inside.form.width c.self.inside.form.is_measured (g.S.ParagraphStore.items c.self.inside.store) c.self.invariant

pub returns-clause-part : goal.returns-clause-part
returns-clause-part g c = rw (← c.self.view_is) c.text_part.ensures.part

pub returns-clause-none : goal.returns-clause-none
returns-clause-none g c =
    rw (← c.self.view_is) (same_none _ c.text_part.result ∙ ap is_none c.text_part.ensures.part ∙ none_part (g.S.ParagraphStore.items c.self.inside.store) c.args.pos c.args.count)
