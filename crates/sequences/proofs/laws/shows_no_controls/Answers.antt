use Rattle.sequences.proofs.LawLemmas.{shows_no_controls}
use Rattle.sequences.proofs.laws.shows_no_controls.Goals as goal

pub returns : goal.returns
returns c = shows_no_controls
