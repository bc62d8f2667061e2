use Rattle.std.proofs.Common.{arith}
use Rattle.std.proofs.lemmas.Grind.{common_steps}
use Rattle.store.proofs.tree_store.TreeStoreParagraphStore.replace.Goals as goal

pub put_in-gone-requires-clause-fits : goal.put_in-gone-requires-clause-fits
put_in-gone-requires-clause-fits g c = grind (arith, common_steps)

pub move_items-requires : goal.move_items-requires
move_items-requires g c = grind (arith, common_steps)

pub returns-clause-ok : goal.returns-clause-ok
returns-clause-ok g c = grind (arith, common_steps)
