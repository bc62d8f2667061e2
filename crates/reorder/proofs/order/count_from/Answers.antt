use Rattle.std.proofs.Common.{◌+◌, ◌++◌, ◌∷◌, [], ap, sym, ◌∙◌, arith}
use Rattle.std.proofs.lemmas.List.{take_more_set}
use Rattle.reorder.proofs.OrderLemmas.{range_more}
use Rattle.reorder.proofs.order.count_from.Goals as goal

pub loop-k-preserved : goal.loop-k-preserved
loop-k-preserved c =
    let k = c.loop-k.k in
    let start = c.args.start in
    take_more_set c.loop-k.items k (start + k) (omega arith)
    ∙ ap (λ xs. xs ++ (start + k) ∷ []) c.loop-k.invariant
    ∙ sym (range_more start k)
