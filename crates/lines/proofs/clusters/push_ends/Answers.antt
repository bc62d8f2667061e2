use Rattle.std.proofs.Common.{◌-◌, ◌++◌, [], ◌∷◌, true, false, replicate, ap}
use Rattle.std.proofs.lemmas.Iterator.{YieldsList-from_chars}
use Rattle.std.proofs.lemmas.Iterator.Consumers.{count_from_yields_List}
use Rattle.lines.proofs.clusters.push_ends.Goals as goal

-- before the loop, `left` is the length of the cluster in characters
pub loop-left-init : goal.loop-left-init
loop-left-init c =
    ap (λ n. c.args.ends.now.items ++ (replicate (n - 1) false ++ true ∷ []))
    (count_from_yields_List _ _ c.count-left.ensures.ran (YieldsList-from_chars c.args.cluster.now c.utf8.cluster c.chars.ensures.rest))
