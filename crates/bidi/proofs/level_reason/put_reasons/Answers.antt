use Rattle.std.proofs.Common.{◌-◌, arith}
use Rattle.bidi.proofs.LevelReasonLemmas.{none_filled, same_filled}
use Rattle.bidi.proofs.level_reason.put_reasons.Goals as goal

pub loop-k-init : goal.loop-k-init
loop-k-init c = none_filled _ _ _

pub loop-k-preserved : goal.loop-k-preserved
loop-k-preserved c = same_filled _ _ _ (c.loop-k.k - 1) (omega arith) c.loop-k.k _ (omega arith) c.loop-k.invariant c.if-at-list.false
