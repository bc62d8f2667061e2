use Rattle.joining.proofs.InsertionLemmas.{nothing_changes}
use Rattle.joining.proofs.pairs.transparent_characters_change_nothing.Goals as goal

pub returns : goal.returns
returns c = nothing_changes
