use Rattle.sequences.proofs.LawLemmas.{shows_the_same}
use Rattle.sequences.proofs.laws.shows_the_same.Goals as goal

pub returns : goal.returns
returns c = shows_the_same
