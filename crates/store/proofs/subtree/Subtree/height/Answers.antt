use Rattle.std.proofs.Common.{◌≡◌, arith}
use Rattle.std.proofs.lemmas.Grind.{common_steps}
use Rattle.store.specs.Trees.{height}
use Rattle.store.proofs.TreeLemmas.{height_le_length}
use Rattle.store.proofs.subtree.Subtree.height.Goals as goal

pub returns-in-Some-clause-low : goal.returns-in-Some-clause-low
returns-in-Some-clause-low g c =
    let e : c.deref.result.now.height ≡ height c.args.self.now = grind (arith, common_steps) in
    omega (arith, height_le_length c.args.self.now)
