use Rattle.std.proofs.Common.{sym, arith}
use Rattle.std.proofs.lemmas.Bool.{lt-leb}
use Rattle.std.proofs.lemmas.List.Sums.{prefix_len_is}
use Rattle.reorder.specs.Order.{is_at_least}
use Rattle.reorder.proofs.order.run_len.Goals as goal

pub returns-then-levels-place-clause-len : goal.returns-then-levels-place-clause-len
returns-then-levels-place-clause-len c =
    sym (prefix_len_is (is_at_least c.args.levels.now c.args.level) c.args.items.now c.loop-k.k 0 (omega arith) c.loop-k.invariant
    (λ h. lt-leb _ _ (omega arith)))

pub returns-clause-len : goal.returns-clause-len
returns-clause-len c = sym (prefix_len_is (is_at_least c.args.levels.now c.args.level) c.args.items.now _ 0 (omega arith) (λ k h. c.loop-k.invariant k (omega arith)) (λ h. absurd (omega arith)))
