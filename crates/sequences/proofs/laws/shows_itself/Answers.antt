use Rattle.sequences.proofs.LawLemmas.{shows_itself}
use Rattle.sequences.proofs.laws.shows_itself.Goals as goal

pub returns : goal.returns
returns c = shows_itself
