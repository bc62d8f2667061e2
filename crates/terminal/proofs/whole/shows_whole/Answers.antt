use Rattle.terminal.proofs.WholeLemmas.{shows_whole}
use Rattle.terminal.proofs.whole.shows_whole.Goals as goal

pub returns : goal.returns
returns c = shows_whole c.paragraphs_are_pieces.ensures
