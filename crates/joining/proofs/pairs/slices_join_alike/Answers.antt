use Rattle.joining.proofs.SliceLemmas.{slices_alike}
use Rattle.joining.proofs.pairs.slices_join_alike.Goals as goal

pub returns : goal.returns
returns c = slices_alike
