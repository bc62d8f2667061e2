use Rattle.sequences.proofs.OutputLemmas.{writes_plain_text}
use Rattle.sequences.proofs.laws.writes_plain_text.Goals as goal

pub returns : goal.returns
returns c = writes_plain_text
