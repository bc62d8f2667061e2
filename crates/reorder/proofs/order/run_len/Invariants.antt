use Rattle.std.proofs.Common.{◌≡◌, ℕ, ◌<◌, true, get_or}
use Rattle.reorder.specs.Order.{is_at_least}
use Rattle.reorder.proofs.order.run_len.Given as goal

abbrev pub invariant-loop-k : goal.invariant-loop-k
invariant-loop-k l = (m : ℕ) → m < l.k → is_at_least l.levels l.level (get_or l.items m 0) ≡ true
