use Rattle.sequences.proofs.PieceLemmas.{shows_pieces}
use Rattle.sequences.proofs.laws.shows_pieces.Goals as goal

pub returns : goal.returns
returns c = shows_pieces
