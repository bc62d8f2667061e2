use Rattle.breaks.proofs.DoublingLemmas.{doubling_keeps_marks}
use Rattle.breaks.proofs.mark.doubling_keeps_marks.Goals as goal

pub returns : goal.returns
returns c = doubling_keeps_marks
