use Rattle.std.proofs.Common.{sym, arith}
use Rattle.std.specs.Prelude.{nat_le}
use Rattle.std.proofs.lemmas.Bool.{lt-leb}
use Rattle.std.proofs.lemmas.List.Sums.{prefix_len_is}
use Rattle.reorder.proofs.in_place.run_len.Goals as goal

pub returns-then-other-level-clause-len : goal.returns-then-other-level-clause-len
returns-then-other-level-clause-len c =
    sym (prefix_len_is (nat_le c.args.level) c.args.levels.now c.loop-k.k 0 (omega arith) c.loop-k.invariant (λ h. lt-leb _ _ (omega arith)))

pub returns-clause-len : goal.returns-clause-len
returns-clause-len c =
    sym (prefix_len_is (nat_le c.args.level) c.args.levels.now _ 0 (omega arith) (λ k h. c.loop-k.invariant k (omega arith)) (λ h. absurd (omega arith)))
