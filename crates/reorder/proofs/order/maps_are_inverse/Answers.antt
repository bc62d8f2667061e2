use Rattle.reorder.proofs.InverseLemmas.{inverse_maps}
use Rattle.reorder.proofs.order.maps_are_inverse.Goals as goal

pub returns : goal.returns
returns c = inverse_maps
