use Rattle.bidi.proofs.PiecesLemmas.{ParagraphsArePieces-holds}
use Rattle.bidi.proofs.cuts.paragraphs_are_pieces.Goals as goal

pub returns : goal.returns
returns c = ParagraphsArePieces-holds
