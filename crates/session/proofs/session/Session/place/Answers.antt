use Rattle.std.proofs.Common.{ap, is_none, ◌∙◌}
use Rattle.lines.specs.Engine.{rules_of}
use Rattle.session.proofs.PlaceLemmas.{lines_lined, none_place}
use Rattle.session.proofs.session.Session.place.Goals as goal

pub place_of-requires : goal.place_of-requires
place_of-requires g c =
    lines_lined c.paragraphs_are_pieces.ensures c.lines_begin_in_order.ensures c.self.inside.engine c.self.inside.form.width c.self.inside.form.is_measured (g.S.ParagraphStore.items c.self.inside.store) c.self.invariant

pub returns-clause-place : goal.returns-clause-place
returns-clause-place g c = rw (← c.self.view_is) c.place_of.ensures

pub returns-clause-none : goal.returns-clause-none
returns-clause-none g c =
    rw (← c.self.view_is) (ap is_none c.place_of.ensures ∙ none_place (rules_of c.self.inside.engine) (g.S.ParagraphStore.items c.self.inside.store) c.args.pos)
