use Rattle.session.proofs.LaidLineLemmas.{steps_lead}
use Rattle.session.proofs.laws.steps_lead_to_boundaries.Goals as goal

pub returns : goal.returns
returns c =
    steps_lead c.paragraphs_are_pieces.ensures c.lines_begin_in_order.ensures c.lines_are_ordered.ensures c.runs_adjoin.ensures c.clusters_adjoin.ensures c.runs_have_all_columns.ensures
