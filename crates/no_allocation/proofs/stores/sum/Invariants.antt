use Rattle.std.proofs.Common.{◌≡◌, ◌+◌, ◌-◌, ◌^◌, ◌<◌, take, sum_by}
use Rattle.no_allocation.proofs.stores.sum.Given as goal

abbrev pub invariant-loop-lines : goal.invariant-loop-lines
invariant-loop-lines l = l.sum < 2 ^ 64 - 1 → l.sum ≡ sum_by (λ n. n) (take l.lines-index l.parts)
