use Rattle.breaks.proofs.WalkLemmas.{last_mark}
use Rattle.breaks.proofs.mark.paragraphs_end_at_must.Goals as goal

pub returns : goal.returns
returns c = last_mark
