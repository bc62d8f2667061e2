use Rattle.breaks.proofs.OrdinaryLemmas.{all_pass}
use Rattle.breaks.proofs.mark.fill_by.Goals as goal

pub fill_each-requires-else-ARE_KNOWN-clause-accepted : goal.fill_each-requires-else-ARE_KNOWN-clause-accepted
fill_each-requires-else-ARE_KNOWN-clause-accepted g c = all_pass g.W.Walk.accepts c.requires.any (g.C.Characters.all c.args.characters)
