use Rattle.session.proofs.PlaceLemmas.{lines_lined}
use Rattle.session.proofs.session.Session.cluster.Goals as goal

pub cluster_of-requires : goal.cluster_of-requires
cluster_of-requires g c =
    lines_lined c.paragraphs_are_pieces.ensures c.lines_begin_in_order.ensures c.self.inside.engine c.self.inside.form.width c.self.inside.form.is_measured (g.S.ParagraphStore.items c.self.inside.store) c.self.invariant
