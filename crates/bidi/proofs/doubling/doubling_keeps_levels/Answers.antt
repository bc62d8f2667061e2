use Rattle.bidi.proofs.DoublingTexts.{doubling_keeps_levels}
use Rattle.bidi.proofs.doubling.doubling_keeps_levels.Goals as goal

pub returns : goal.returns
returns c = doubling_keeps_levels
