use Rattle.sequences.proofs.LawLemmas.{shows_plain_text}
use Rattle.sequences.proofs.laws.shows_plain_text.Goals as goal

pub returns : goal.returns
returns c = shows_plain_text
