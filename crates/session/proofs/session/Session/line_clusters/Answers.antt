use Rattle.session.proofs.PlaceLemmas.{lines_lined}
use Rattle.session.proofs.session.Session.line_clusters.Goals as goal

pub line_clusters-requires : goal.line_clusters-requires
line_clusters-requires g c =
    lines_lined c.paragraphs_are_pieces.ensures c.lines_begin_in_order.ensures c.self.inside.engine c.self.inside.form.width c.self.inside.form.is_measured (g.S.ParagraphStore.items c.self.inside.store) c.self.invariant
