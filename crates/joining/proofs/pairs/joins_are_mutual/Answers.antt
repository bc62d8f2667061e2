use Rattle.joining.proofs.PairLemmas.{mutual_joins}
use Rattle.joining.proofs.pairs.joins_are_mutual.Goals as goal

pub returns : goal.returns
returns c = mutual_joins
