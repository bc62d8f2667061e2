use Rattle.joining.proofs.PairLemmas.{joining_types}
use Rattle.joining.proofs.pairs.only_joining_types_join.Goals as goal

pub returns : goal.returns
returns c = joining_types
