use Rattle.joining.proofs.ChangeLemmas.{hidden_lams}
use Rattle.joining.proofs.changes.hidden_lams_have_ligatures.Goals as goal

pub returns : goal.returns
returns c = hidden_lams
