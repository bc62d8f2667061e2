use Rattle.std.proofs.Common.{true}
use Rattle.breaks.proofs.WalkLemmas.{whole_anyway}
use Rattle.breaks.proofs.mark.numbers_are_whole.Goals as goal

pub returns : goal.returns
returns c = λ tables text version. whole_anyway tables true text version
