use Rattle.lines.proofs.ShownColumnLemmas.{layout_adds_up}
use Rattle.lines.proofs.laws.runs_have_all_columns.Goals as goal

pub returns : goal.returns
returns c = layout_adds_up
