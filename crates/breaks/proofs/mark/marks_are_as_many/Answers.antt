use Rattle.breaks.proofs.WalkLemmas.{length-marks}
use Rattle.breaks.proofs.mark.marks_are_as_many.Goals as goal

pub returns : goal.returns
returns c = length-marks _ _ _
