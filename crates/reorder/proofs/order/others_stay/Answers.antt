use Rattle.reorder.proofs.TogetherLemmas.{stays}
use Rattle.reorder.proofs.order.others_stay.Goals as goal

pub returns : goal.returns
returns c = stays
