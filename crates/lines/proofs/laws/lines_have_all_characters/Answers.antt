use Rattle.lines.proofs.LengthLemmas.{lengths_sum}
use Rattle.lines.proofs.laws.lines_have_all_characters.Goals as goal

pub returns : goal.returns
returns c = lengths_sum c.paragraphs_end_at_must.ensures
