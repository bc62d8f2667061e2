use Rattle.reorder.proofs.TogetherLemmas.{together}
use Rattle.reorder.proofs.order.groups_stand_together.Goals as goal

pub returns : goal.returns
returns c = together
